use Rattle.std.proofs.Common.{◌≡◌, ℕ, ◌<◌, ◌≤◌, ◌↔◌, ◌∷◌, ◌++◌, [], List, length, get_or}
use Rattle.sig_table.specs.declared.format_set.FormatSet.{FormatSet}
use Rattle.sig_table.specs.FormatSets.{HasFormat}
use Rattle.sig_table.specs.Ranking.{IsAbove}
use Rattle.sig_table.specs.RankingViews.{AreBelow}
use Rattle.sig_table.proofs.ranking.extend_below.Given as goal

-- the sets so far are of one pair more, and those to come are as they were
abbrev pub invariant-loop-x : goal.invariant-loop-x
invariant-loop-x l = record {
  same_length : length l.below ≡ length l.initial.below;
  later : (k : ℕ) → l.x ≤ k → (set : FormatSet) → get_or l.below k set ≡ get_or l.initial.below k set;
  done : (pairs : List (ℕ × ℕ)) → AreBelow l.initial.below pairs → (k : ℕ) → k < l.x → (set : FormatSet) → get_or l.below k set ≡ set → (f : ℕ)
      → (HasFormat set f ↔ IsAbove (pairs ++ (l.higher.0, l.lower.0) ∷ []) k f);
}
