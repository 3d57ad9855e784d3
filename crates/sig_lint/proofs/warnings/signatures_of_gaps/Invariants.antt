use Rattle.std.proofs.Common.{◌≡◌, map}
use Rattle.sig_table.specs.declared.ids.SigId.{SigId}
use Rattle.sig_lint.specs.Warnings.{places_of_gaps}
use Rattle.sig_lint.proofs.warnings.signatures_of_gaps.Given as goal

-- those found are among the first
abbrev pub invariant-loop-place : goal.invariant-loop-place
invariant-loop-place l = map (λ (id : SigId). id.0) l.found.items ≡ places_of_gaps l.table.signatures l.place
