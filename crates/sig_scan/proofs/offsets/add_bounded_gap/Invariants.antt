use Rattle.sig_scan.proofs.Common.{◌⊎◌, ℕ, ◌+◌, ◌-◌, ◌<◌, List, length, Option, Some, None, MatchOption, HasBit, Word, GainsBits, Reaches}
use Rattle.sig_expr.specs.declared.item.Item.TheVariants as item
use Rattle.sig_scan.proofs.offsets.add_bounded_gap.Given as goal

-- the ends below an offset are gained, and others only where they are ends too
pub record GainsBelow (IsOffset : ℕ → Type 0) (below : ℕ) (old new : List ℕ) : Type 0 where
  pub sound : (o : ℕ) → HasBit new o → HasBit old o ⊎ IsOffset o
  pub kept : (o : ℕ) → HasBit old o → HasBit new o
  pub gained : (o : ℕ) → IsOffset o → o < below → HasBit new o

-- what is done before the next start is taken, or when there is none
abbrev pub Hops : (ℕ → Type 0) → ℕ → List ℕ → (ℕ → Type 0) → List ℕ → List ℕ → Option ℕ → Type 0
Hops GapEnds least file S old new next =
    MatchOption next (GainsBits GapEnds old new) (λ s. (s < length file + 1) × S s × GainsBelow GapEnds (s + least) old new)

-- how far the end is from the next start
abbrev pub left_behind : Option ℕ → ℕ → ℕ
left_behind None end = 0
left_behind (Some s) end = end - s

-- the ends below those of the next start are added
abbrev pub invariant-hops : goal.invariant-hops
invariant-hops l = Hops (Reaches (Word (item.Gap l.min (Some l.max))) l.bytes (HasBit l.starts)) l.min l.bytes (HasBit l.starts) l.initial.ends l.ends l.next

abbrev pub decreases-hops : goal.decreases-hops
decreases-hops l = left_behind l.next l.end
