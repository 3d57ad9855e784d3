use Rattle.sig_scan.proofs.Common.{◌∙◌, ◌++◌, ◌∷◌, [], List, ap, ap₂, map, sym, map_push, Atom}
use Rattle.sig_scan.proofs.LengthLemmas.{alternatives-taken}
use Rattle.sig_scan.proofs.copy.copy_alternatives.Goals as goal

pub loop-parts-preserved : goal.loop-parts-preserved
loop-parts-preserved c =
    let all : List (List Atom) = c.args.alternatives.now in
    let i = c.loop-parts.parts-index in
    let next = alternatives-taken (λ v. v.items) c.as_slice-parts-items.result.now all i c.parts-item.result c.loop-parts-test.true c.parts-item.is
    c.as_slice-parts-items.ensures in
    ap (map (λ v. v.items)) c.in_ok-push.ensures.items ∙ map_push (λ v. v.items) c.loop-parts.copy.items c.in_ok-copy_parts.field-0
    ∙ ap₂ (λ (xs : List (List Atom)) (x : List Atom). xs ++ x ∷ []) c.loop-parts.invariant (c.in_ok-copy_parts.ensures ∙ c.as_slice.ensures.value)
    ∙ sym next
