use Rattle.std.proofs.Common.{[], ◌∷◌, string_bytes, ◌∙◌}
use Rattle.std.specs.Prelude.{codes}
use Rattle.sig_engines.specs.Texts.{signature_text}
use Rattle.sig_engines.proofs.FoundLemmas.{pieces}
use Rattle.sig_engines.proofs.find_engine.push_outranked.Goals as goal

pub returns : goal.returns
returns c =
    c.in_ok-push_two.ensures
    ∙ pieces (string_bytes c.args.line.now) (codes "over 64 signatures outrank ") (signature_text c.args.table.now c.args.s.0) (codes " or ")
    (signature_text c.args.table.now c.args.t.0) (codes ": see conflicts") (10 ∷ [])
