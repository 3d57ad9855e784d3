use Rattle.std.proofs.Common.{arith, get_or, sym, subst, List, refl}
use Rattle.std.specs.Prelude.{All}
use Rattle.std.proofs.lemmas.List.{take_more, take_all}
use Rattle.std.proofs.lemmas.List.Elements.{All-push}
use Rattle.sig_table.specs.Views.{SequenceView}
use Rattle.sig_table.specs.Standing.{Stands}
use Rattle.sig_match.proofs.whole.search.all_stand.Goals as goal

pub loop-sequence-init : goal.loop-sequence-init
loop-sequence-init c = λ k d at. absurd (omega arith)

pub loop-sequence-preserved : goal.loop-sequence-preserved
loop-sequence-preserved c =
    let xs = c.args.sequences.now in
    let i = c.loop-sequence.sequence-index in
    let x = c.sequence-item.result in
    let stands : Stands x c.args.file.now = c.in_ok-stands.ensures.0 c.if-not-branch.false in
    let P : SequenceView → Type 0 = λ s. Stands s c.args.file.now in
    let Q : List SequenceView → Type 0 = λ l. All P l in
    subst Q (sym (take_more xs i x (omega arith))) (All-push P _ (get_or xs i x) c.loop-sequence.invariant (subst P c.sequence-item.is stands))

pub returns : goal.returns
returns c =
    let Q : List SequenceView → Type 0 = λ l. All (λ s. Stands s c.args.file.now) l in
    (λ _. subst Q (take_all c.loop-sequence.sequence-index c.args.sequences.now (omega arith)) c.loop-sequence.invariant, λ _. refl)
