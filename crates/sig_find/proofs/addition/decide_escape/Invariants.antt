use Rattle.std.proofs.Common.{◌≡◌, All, false, map, take, true}
use Rattle.sig_find.specs.Additions.{IsBeyondAny}
use Rattle.sig_find.specs.Inclusions.{IsIncluded}
use Rattle.sig_find.proofs.addition.decide_escape.Given as goal

abbrev pub invariant-loop-s : goal.invariant-loop-s
invariant-loop-s l = record {
  included : l.unknown ≡ false → All (λ s. IsIncluded l.fn.table s (map (λ b. b.0) l.fn.others)) (map (λ s. s.0) (take l.s-index l.own));
  beyond : l.unknown ≡ true → IsBeyondAny l.fn.table (map (λ s. s.0) l.fn.own) (map (λ b. b.0) l.fn.others) l.fn.budget;
}
