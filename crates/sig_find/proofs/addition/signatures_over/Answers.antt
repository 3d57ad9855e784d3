use Rattle.std.proofs.Common.{ap, ◌∙◌, sym}
use Rattle.std.proofs.lemmas.Bool.{false≢true}
use Rattle.std.proofs.lemmas.List.{map-append}
use Rattle.sig_find.proofs.AdditionLemmas.{none_below, one_found, one_passed}
use Rattle.sig_find.proofs.addition.signatures_over.Goals as goal
use Rattle.sig_find.proofs.addition.signatures_over.Goals.{then-is_over+in_ok-push, else-is_over}

pub loop-index-init : goal.loop-index-init
loop-index-init c = rw c.new-found.ensures.items (none_below c.args.table.now _ c.args.lower.0)

pub loop-index-preserved : goal.loop-index-preserved
loop-index-preserved c = elim c.if-is_over.branch [
  | then-is_over+in_ok-push w ↦
      let found = one_found c.args.table.now _ c.args.lower.0 c.loop-index.index _ c.loop-index.invariant (c.is_over.ensures.0 w.if-is_over.true) in
      rw (ap (λ v. v.items) w.found-is ∙ w.in_ok-push.ensures.items, map-append) found
  | else-is_over w ↦
      let passed = one_passed c.args.table.now _ c.args.lower.0 c.loop-index.index _ c.loop-index.invariant
      (λ over. false≢true (sym w.if-is_over.false ∙ c.is_over.ensures.1 over)) in
      rw w.found-is passed
]
