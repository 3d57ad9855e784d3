use Rattle.sig_auto.proofs.Common.{◌↔◌, ◌⊎◌, ℕ, ◌<◌, drop, map, Begins, alternatives_tree, Holds, AlternativesSound}
use Rattle.sig_auto.proofs.start.bytes_of_alternatives.Given as goal

-- the bytes so far begin an alternative, and those of the others are still to come
abbrev pub invariant-loop-alternative : goal.invariant-loop-alternative
invariant-loop-alternative l = record {
  sound : AlternativesSound (map (λ v. v.items) (drop l.alternative-index l.alternatives));
  either : (b : ℕ) → b < 256 → Begins (alternatives_tree (map (λ v. v.items) l.alternatives)) b
      ↔ (Holds l.bytes b ⊎ Begins (alternatives_tree (map (λ v. v.items) (drop l.alternative-index l.alternatives))) b);
}
