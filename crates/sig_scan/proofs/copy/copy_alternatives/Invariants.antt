use Rattle.sig_scan.proofs.Common.{◌≡◌, map, take}
use Rattle.sig_scan.proofs.copy.copy_alternatives.Given as goal

-- the alternatives so far
abbrev pub invariant-loop-parts : goal.invariant-loop-parts
invariant-loop-parts l = map (λ v. v.items) l.copy.items ≡ take l.parts-index l.alternatives
