-- Signatures of gaps alone, one after the other.
use Rattle.std.proofs.Common.{◌≡◌, ℕ, ◌+◌, Bool, cond, List, [], ◌∷◌, ◌++◌, refl, add-one, Some}
use Rattle.std.specs.Prelude.{option_map, slice_get}
use Rattle.sig_table.specs.Views.{SequenceView, SignatureView}
use Rattle.sig_lint.specs.Warnings.{are_of_gaps, places_of_gaps}

pub places-none : (signatures : List SignatureView) → places_of_gaps signatures 0 ≡ []
unfolding places_of_gaps
places-none signatures = refl

pub places-more : (signatures : List SignatureView) (n : ℕ) (found more : List ℕ) (sequences : List SequenceView) (b : Bool)
    → found ≡ places_of_gaps signatures n
    → option_map (λ (s : SignatureView). s.sequences) (slice_get signatures n) ≡ Some sequences → b ≡ are_of_gaps sequences → more ≡ found ++ cond b (n ∷ []) []
    → more ≡ places_of_gaps signatures (n + 1)
unfolding places_of_gaps
places-more signatures n found more sequences b first is test step = rw (add-one n, is, ← test, ← first) step
