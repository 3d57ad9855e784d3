use Rattle.std.proofs.Common.{[], ◌∷◌, ◌++◌, List, ap, append_assoc, sym, ◌∙◌}
use Rattle.std.proofs.lemmas.List.{append-nil}
use Rattle.sig_table.specs.Remaining.{remaining_of}
use Rattle.sig_table.specs.declared.ids.SigId.{SigId}
use Rattle.sig_find.proofs.class.signatures_in.Goals as goal

pub loop-signature-init : goal.loop-signature-init
loop-signature-init c =
    ap (λ (found : List SigId). found ++ remaining_of c.into_iter-signature-iterator.result) c.new-found.ensures.items
    ∙ ap remaining_of c.into_iter-signature-iterator.ensures.into_iter_gives ∙ c.signatures_of-signature-items.ensures.places

pub loop-signature-preserved : goal.loop-signature-preserved
loop-signature-preserved c =
    let found : List SigId = c.loop-signature.found.items in
    let left = remaining_of c.next.new.self in
    ap (λ (more : List SigId). more ++ left) c.in_ok-push.ensures.items
    ∙ append_assoc found (c.in-Some.signature ∷ []) left
    ∙ ap (λ l. found ++ l) (sym c.in-Some.ensures.steps)
    ∙ c.loop-signature.invariant

pub returns-clause-signatures : goal.returns-clause-signatures
returns-clause-signatures c = sym (append-nil c.loop-signature.found.items) ∙ ap (λ l. c.loop-signature.found.items ++ l) (sym c.in-None.ensures.steps.0)
    ∙ c.loop-signature.invariant
