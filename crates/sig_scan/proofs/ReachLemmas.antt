-- Where words end that begin at given offsets.
use Rattle.sig_scan.proofs.Common.{◌≡◌, ℕ, ◌+◌, ◌-◌, ◌≤◌, List, [], ◌++◌, length, drop, refl, subst, ap, ◌∙◌, sym, arith, take-add, length-append, slice_range}
use Rattle.sig_scan.proofs.Common.{drop-drop, length-take-le, length-drop, take_at, drop_at, HasBit, HasBits, Reaches, set}

-- the same words from starts in other words
pub Reaches-starts : (W : List ℕ → Type 0) (file : List ℕ) (S T : ℕ → Type 0) (e : ℕ) → ((a : ℕ) → a ≤ length file → S a → T a) → Reaches W file S e →
    Reaches W file T e
Reaches-starts W file S T e to r = search (arith, to)

-- how long a part of a file is
pub length-slice_range : (file : List ℕ) (a e : ℕ) → a ≤ e → e ≤ length file → length (slice_range file a e) ≡ e - a
length-slice_range file a e order within = grind (arith, length-take-le (e - a) (drop a file), length-drop a file)

-- a part of a file is cut at an offset
pub slice_range-split : (file : List ℕ) (a m e : ℕ) → a ≤ m → m ≤ e → slice_range file a e ≡ slice_range file a m ++ slice_range file m e
slice_range-split file a m e am me = grind (arith, take-add (m - a) (e - m) (drop a file), drop-drop (m - a) a file)

-- the front and the back of a list, by the front's length
same_pieces : (xs ys u v : List ℕ) → xs ++ ys ≡ u ++ v → length xs ≡ length u → (xs ≡ u) × (ys ≡ v)
same_pieces xs ys u v e len =
    grind (arith, take_at xs ys (length u) len, take_at u v (length u) refl, drop_at xs ys (length u) len, drop_at u v (length u) refl)

-- a part of a file that is two words joined is the one and then, from its end on, the other
pub slice_range-words : (V W : List ℕ → Type 0) (file : List ℕ) (a e : ℕ) → a ≤ e → e ≤ length file
    → (u v : List ℕ) × (slice_range file a e ≡ u ++ v) × V u × W v → (m : ℕ) × (a ≤ m) × (m ≤ e) × V (slice_range file a m) × W (slice_range file m e)
slice_range-words V W file a e order within (u, v, joined, first, second) =
    let whole : e - a ≡ length u + length v = sym (length-slice_range file a e order within) ∙ ap length joined ∙ length-append u v in
    let m : ℕ = a + length u in
    let len = length-slice_range file a m (omega arith) (omega arith) in
    let same = same_pieces (slice_range file a m) (slice_range file m e) u v (sym (slice_range-split file a m e (omega arith) (omega arith)) ∙ joined)
    (omega arith) in
    (m, omega arith, omega arith, subst V (sym same.0) first, subst W (sym same.1) second)

-- a word that is two words joined ends where the second one does, that begins where the first one ends
pub Reaches-split : (U V W : List ℕ → Type 0) (file : List ℕ) (S : ℕ → Type 0) (e : ℕ) →
    ((w : List ℕ) → U w → (u v : List ℕ) × (w ≡ u ++ v) × V u × W v) → Reaches U file S e → Reaches W file (Reaches V file S) e
Reaches-split U V W file S e cut r =
    let parts = slice_range-words V W file r.start e r.in_order r.within (cut (slice_range file r.start e) r.is_word) in
    let first : Reaches V file S parts.0 = record { start = r.start; is_start = r.is_start; in_order = parts.1; within = omega arith; is_word = parts.3 } in
    record { start = parts.0; is_start = first; in_order = parts.2; within = r.within; is_word = parts.4 }

-- the converse
pub Reaches-join : (U V W : List ℕ → Type 0) (file : List ℕ) (S : ℕ → Type 0) (e : ℕ) → ((w u v : List ℕ) → w ≡ u ++ v → V u → W v → U w) →
    Reaches W file (Reaches V file S) e → Reaches U file S e
Reaches-join U V W file S e join r =
    let first = r.is_start in
    let word = join _ _ _ (slice_range-split file first.start r.start e first.in_order r.in_order) first.is_word r.is_word in
    record { start = first.start; is_start = first.is_start; in_order = omega arith; within = r.within; is_word = word }

-- where the empty word ends
Reaches-nil : (file : List ℕ) (S : ℕ → Type 0) (e : ℕ) → Reaches (λ w. w ≡ []) file S e → S e
Reaches-nil file S e r = grind (arith, length-slice_range file r.start e r.in_order r.within, ap length r.is_word)

-- the empty word stands everywhere in a file
Reaches-nil_at : (file : List ℕ) (S : ℕ → Type 0) (e : ℕ) → S e → e ≤ length file → Reaches (λ w. w ≡ []) file S e
Reaches-nil_at file S e h within = record { start = e; is_start = h; in_order = omega arith; within = within; is_word = grind arith }

-- the rest of the words, from the offsets of the set on, ends where all of the words do
pub record Carries (U W : List ℕ → Type 0) (file : List ℕ) (S : ℕ → Type 0) (set : List ℕ) : Type 0 where
  pub sound : (e : ℕ) → Reaches W file (HasBit set) e → Reaches U file S e
  pub complete : (e : ℕ) → Reaches U file S e → Reaches W file (HasBit set) e

-- no word is still to come
pub HasBits-from_carries : (U : List ℕ → Type 0) (file : List ℕ) (S : ℕ → Type 0) (set : List ℕ) → ((a : ℕ) → HasBit set a → a ≤ length file) →
    Carries U (λ w. w ≡ []) file S set → HasBits (Reaches U file S) set
HasBits-from_carries U file S set within carries = record {
  sound = λ o h. carries.sound o (Reaches-nil_at file (HasBit set) o h (within o h));
  complete = λ o r. Reaches-nil file (HasBit set) o (carries.complete o r);
}

-- no start is left, so no word ends
pub HasBits-from_none : (U W : List ℕ → Type 0) (file : List ℕ) (S : ℕ → Type 0) (set : List ℕ) → ((a : ℕ) → a ≤ length file → HasBit set a → ⊥) →
    ((a : ℕ) → HasBit set a → a ≤ length file) → Carries U W file S set → HasBits (Reaches U file S) set
HasBits-from_none U W file S set none within carries = record {
  sound = λ o h. absurd (none o (within o h) h);
  complete = λ o r. (let left = carries.complete o r in absurd (none left.start (omega arith) left.is_start));
}
