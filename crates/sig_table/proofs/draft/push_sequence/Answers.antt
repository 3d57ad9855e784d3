use Rattle.sig_table.proofs.DraftLemmas.{OnOk-map, grown-by}
use Rattle.sig_table.proofs.draft.push_sequence.Goals as goal

pub returns : goal.returns
returns c = OnOk-map c.push.result (λ pushed. grown-by c.args.number c.args.sequence c.args.signatures.now.items c.args.place c.index_mut-signature.result.now
    c.push.new.self c.requires.at c.requires.within c.index_mut-signature.ensures.value pushed) c.push.ensures
