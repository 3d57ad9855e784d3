-- From a window of a file to the file.
use Rattle.sig_scan.proofs.Common.{◌≡◌, ℕ, ◌+◌, ◌-◌, ◌≤◌, ◌<◌, List, length, min, drop, refl, ap, ◌∙◌, arith, Option, Some, None, slice_range, drop-drop}
use Rattle.sig_scan.proofs.Common.{length-drop, HasBit, Item, Lang, EndsAt, HasBits, IsLeastEnd, IsLeast, Reaches}
use Rattle.sig_scan.proofs.ReachLemmas.{Reaches-starts}

-- a part of a window is a part of the file
slice_range-window : (file window : List ℕ) (from s e : ℕ) → window ≡ drop from file → slice_range window s e ≡ slice_range file (from + s) (from + e)
slice_range-window file window from s e same =
    let len : from + e - (from + s) ≡ e - s = omega arith in
    rw (same, len, drop-drop s from file) refl

-- an end in the window is one in the file
window_sound : (items : List Item) (file window : List ℕ) (from until count e : ℕ) → window ≡ drop from file → from ≤ length file →
    count ≤ until - from → Reaches (Lang items) window (λ k. k < count) e → EndsAt items file from until (from + e)
window_sound items file window from until count e same inside fits r =
    grind (arith, ap length same, length-drop from file, slice_range-window file window from r.start e same)

-- an end in the file is one in the window
window_complete : (items : List Item) (file window : List ℕ) (from until count end : ℕ) → window ≡ drop from file →
    count ≡ min (until - from) (length window + 1) → EndsAt items file from until end → Reaches (Lang items) window (λ k. k < count) (end - from)
window_complete items file window from until count end same is h =
    grind (arith, ap length same, length-drop from file, slice_range-window file window from (h.start - from) (end - from) same)

-- the least end of the window, if it has one, is the first one
pub first_end_found : (items : List Item) (file window : List ℕ) (from until count least low e : ℕ) → window ≡ drop from file → from ≤ length file →
    count ≡ min (until - from) (length window + 1) → low ≡ least - from → IsLeast (Reaches (Lang items) window (λ k. k < count))
    low (length window + 1) (Some e) → IsLeastEnd items file from until least (Some (from + e))
first_end_found items file window from until count least low e same inside is least_is found =
    let len : length window ≡ length file - from = ap length same ∙ length-drop from file in
    let below : low ≤ e = found.0 in (
      omega arith,
      window_sound items file window from until count e same inside (omega arith) found.2,
      λ end after before h. found.3 (end - from) (omega arith) (omega arith) (window_complete items file window from until count end same is h),
    )

pub first_end_none : (items : List Item) (file window : List ℕ) (from until count least low : ℕ) → window ≡ drop from file → from ≤ length file →
    count ≡ min (until - from) (length window + 1) → low ≡ least - from → IsLeast (Reaches (Lang items) window (λ k. k < count))
    low (length window + 1) None → IsLeastEnd items file from until least None
first_end_none items file window from until count least low same inside is least_is none end after h =
    grind (arith, ap length same, length-drop from file, window_complete items file window from until count end, none (end - from))

-- the same offsets in other words
IsLeast-same : (P Q : ℕ → Type 0) (least end : ℕ) (found : Option ℕ) → ((k : ℕ) → P k → Q k) → ((k : ℕ) → Q k → P k) → IsLeast P least end found
    → IsLeast Q least end found
IsLeast-same P Q least end found to back is = grind (arith, to, back)

-- the least end, by the set of all ends
pub least_by_set : (items : List Item) (bytes entries ends : List ℕ) (count least end : ℕ) (found : Option ℕ) → HasBits (λ k. k < count) entries →
    HasBits (Reaches (Lang items) bytes (HasBit entries)) ends → IsLeast (HasBit ends) least end found →
    IsLeast (Reaches (Lang items) bytes (λ k. k < count)) least end found
least_by_set items bytes entries ends count least end found first exact =
    IsLeast-same (HasBit ends) (Reaches (Lang items) bytes (λ k. k < count)) least end found
    (λ k h. Reaches-starts (Lang items) bytes (HasBit entries) (λ a. a < count) k (λ a _ bit. first.sound a bit) (exact.sound k h))
    (λ k r. exact.complete k (Reaches-starts (Lang items) bytes (λ a. a < count) (HasBit entries) k (λ a _ below. first.complete a below) r))
