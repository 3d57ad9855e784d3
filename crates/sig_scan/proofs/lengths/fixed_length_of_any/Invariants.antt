use Rattle.sig_scan.proofs.Common.{◌≡◌, All, take, parts_length}
use Rattle.sig_scan.proofs.lengths.fixed_length_of_any.Given as goal

-- the alternatives so far are as long as the first
abbrev pub invariant-loop-parts : goal.invariant-loop-parts
invariant-loop-parts l = All (λ a. parts_length a ≡ l.len) (take l.parts-index l.alternatives)
