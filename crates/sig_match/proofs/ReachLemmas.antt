-- Where words end that begin at given offsets.
use Rattle.std.proofs.Common.{◌≡◌, ◌⊎◌, ℕ, ◌+◌, ◌-◌, ◌≤◌, ◌<◌, List, [], ◌∷◌, ◌++◌, length, get_or, take, drop, refl, subst, ap, ◌∙◌, sym, inl, inr, arith}
use Rattle.std.proofs.Common.{take-add, length-append}
use Rattle.std.specs.Prelude.{slice_range}
use Rattle.std.proofs.lemmas.List.{drop-drop, length-take-le, length-drop, take_at, drop_at, take_all}
use Rattle.sig_match.specs.declared.whole.frontier.Interval.{Interval}
use Rattle.sig_match.specs.Frontiers.{IsWithin, IsIn, HasExactly, Gains, Reaches}
use Rattle.sig_match.proofs.FrontierLemmas.{IsIn-push, IsIn-push_last, IsIn-append_left, Gains-more, HasExactly-from_Gains, nowhere, take-next}

-- the same words from starts in other words
pub Reaches-starts : (W : List ℕ → Type 0) (file : List ℕ) (S T : ℕ → Type 0) (e : ℕ) → ((a : ℕ) → a ≤ length file → S a → T a) → Reaches W file S e
    → Reaches W file T e
Reaches-starts W file S T e to r =
    let start_to_end = r.in_order in
    let end_within = r.within in
    record {
      start = r.start;
      is_start = to r.start (omega arith) r.is_start;
      in_order = r.in_order;
      within = r.within;
      is_word = r.is_word;
    }

-- the same starts and words in other words
pub Reaches-words : (V W : List ℕ → Type 0) (file : List ℕ) (S : ℕ → Type 0) (e : ℕ) → ((w : List ℕ) → V w → W w) → Reaches V file S e → Reaches W file S e
Reaches-words V W file S e to r =
    record {
      start = r.start;
      is_start = r.is_start;
      in_order = r.in_order;
      within = r.within;
      is_word = to (slice_range file r.start e) r.is_word;
    }

-- a word from one of two kinds of starts
pub Reaches-choice : (W : List ℕ → Type 0) (file : List ℕ) (S T : ℕ → Type 0) (e : ℕ) → Reaches W file (λ a. S a ⊎ T a) e → Reaches W file S e
    ⊎ Reaches W file T e
Reaches-choice W file S T e r =
    elim r.is_start [
      | inl s ↦ inl (record { start = r.start; is_start = s; in_order = r.in_order; within = r.within; is_word = r.is_word })
      | inr t ↦ inr (record { start = r.start; is_start = t; in_order = r.in_order; within = r.within; is_word = r.is_word })
    ]

-- what the next interval of a frontier reaches is gained
pub Gains-next : (W : List ℕ → Type 0) (file : List ℕ) (xs : List Interval) (i : ℕ) (x : Interval) (a b c : List Interval) → i < length xs
    → x ≡ get_or xs i nowhere → Gains (Reaches W file (IsIn (take i xs))) a b → Gains (Reaches W file (IsWithin x)) b c
    → Gains (Reaches W file (IsIn (take (i + 1) xs))) a c
Gains-next W file xs i x a b c at is ab bc =
    let P : List Interval → Type 0 = λ l. Gains (Reaches W file (IsIn l)) a c in
    subst P (sym (take-next xs i x at is)) (
    Gains-more (Reaches W file (IsIn (take i xs))) (Reaches W file (IsWithin x)) (Reaches W file (IsIn (take i xs ++ x ∷ []))) a b c
    (λ o r. Reaches-starts W file _ _ o (λ s _ h. IsIn-append_left (take i xs) (x ∷ []) s h) r)
    (λ o r. Reaches-starts W file _ _ o (λ s _ h. IsIn-push_last (take i xs) x s h) r)
    (λ o r. Reaches-choice W file (IsIn (take i xs)) (IsWithin x) o (Reaches-starts W file _ _ o (λ s _ h. IsIn-push (take i xs) x s h) r))
    ab bc
    )

-- how long a part of a file is
pub length-slice_range : (file : List ℕ) (a e : ℕ) → a ≤ e → e ≤ length file → length (slice_range file a e) ≡ e - a
length-slice_range file a e order within = length-take-le (e - a) (drop a file) (rw length-drop (omega arith))

-- a part of a file is cut at an offset
pub slice_range-split : (file : List ℕ) (a m e : ℕ) → a ≤ m → m ≤ e → slice_range file a e ≡ slice_range file a m ++ slice_range file m e
slice_range-split file a m e am me =
    let whole : e - a ≡ (m - a) + (e - m) = omega arith in
    let middle : a + (m - a) ≡ m = omega arith in
    rw (whole, take-add (m - a) (e - m) (drop a file), drop-drop (m - a) a file, middle) refl

-- the front and the back of a list, by the front's length
pub same_pieces : (xs ys u v : List ℕ) → xs ++ ys ≡ u ++ v → length xs ≡ length u → (xs ≡ u) × (ys ≡ v)
same_pieces xs ys u v e len = (
  sym (take_at xs ys (length u) len) ∙ ap (take (length u)) e ∙ take_at u v (length u) refl,
  sym (drop_at xs ys (length u) len) ∙ ap (drop (length u)) e ∙ drop_at u v (length u) refl,
)

-- a word that is two words joined ends where the second one does, that begins where the first one ends
pub Reaches-split : (U V W : List ℕ → Type 0) (file : List ℕ) (S : ℕ → Type 0) (e : ℕ) → ((w : List ℕ) → U w → (u v : List ℕ) × (w ≡ u ++ v) × V u × W v)
    → Reaches U file S e → Reaches W file (Reaches V file S) e
Reaches-split U V W file S e cut r =
    let start_to_end : r.start ≤ e = r.in_order in
    let end_within : e ≤ length file = r.within in
    let pieces = cut (slice_range file r.start e) r.is_word in
    let u : List ℕ = pieces.0 in
    let v : List ℕ = pieces.1 in
    let joined : slice_range file r.start e ≡ u ++ v = pieces.2 in
    let len : e - r.start ≡ length u + length v = sym (length-slice_range file r.start e start_to_end end_within) ∙ ap length joined ∙ length-append u v in
    let m : ℕ = r.start + length u in
    let low : r.start ≤ m = omega arith in
    let high : m ≤ e = omega arith in
    let fits : m ≤ length file = omega arith in
    let front_len : length (slice_range file r.start m) ≡ length u = length-slice_range file r.start m low fits ∙ omega arith in
    let same = same_pieces (slice_range file r.start m) (slice_range file m e) u v (sym (slice_range-split file r.start m e low high) ∙ joined) front_len in
    record {
      start = m;
      is_start = record { start = r.start; is_start = r.is_start; in_order = low; within = fits; is_word = subst V (sym same.0) pieces.3 };
      in_order = high;
      within = r.within;
      is_word = subst W (sym same.1) pieces.4;
    }

-- the converse
pub Reaches-join : (U V W : List ℕ → Type 0) (file : List ℕ) (S : ℕ → Type 0) (e : ℕ) → ((w u v : List ℕ) → w ≡ u ++ v → V u → W v → U w)
    → Reaches W file (Reaches V file S) e → Reaches U file S e
Reaches-join U V W file S e join r =
    let first = r.is_start in
    let start_to_middle : first.start ≤ r.start = first.in_order in
    let middle_to_end : r.start ≤ e = r.in_order in
    record {
      start = first.start;
      is_start = first.is_start;
      in_order = omega arith;
      within = r.within;
      is_word = join _ _ _ (slice_range-split file first.start r.start e start_to_middle middle_to_end) first.is_word r.is_word;
    }

-- the rest of the words, from the frontier on, ends where all of the words do
pub record Carries (U W : List ℕ → Type 0) (file : List ℕ) (S : ℕ → Type 0) (frontier : List Interval) : Type 0 where
  pub sound : (e : ℕ) → Reaches W file (IsIn frontier) e → Reaches U file S e
  pub complete : (e : ℕ) → Reaches U file S e → Reaches W file (IsIn frontier) e

-- from one frontier to the next
pub Carries-more : (U V W W' : List ℕ → Type 0) (file : List ℕ) (S : ℕ → Type 0) (old new : List Interval)
    → ((w : List ℕ) → W w → (u v : List ℕ) × (w ≡ u ++ v) × V u × W' v) → ((w u v : List ℕ) → w ≡ u ++ v → V u → W' v → W w) → Carries U W file S old
    → HasExactly (Reaches V file (IsIn old)) new → Carries U W' file S new
Carries-more U V W W' file S old new cut join carries next = record {
  sound = λ e r. carries.sound e (Reaches-join W V W' file (IsIn old) e join (Reaches-starts W' file _ _ e (λ a _ h. next.sound a h) r));
  complete = λ e r. Reaches-starts W' file _ _ e (λ a _ h. next.complete a h) (Reaches-split W V W' file (IsIn old) e cut (carries.complete e r));
}

-- where the empty word ends
pub Reaches-nil : (file : List ℕ) (S : ℕ → Type 0) (e : ℕ) → Reaches (λ w. w ≡ []) file S e → S e
Reaches-nil file S e r =
    let order = r.in_order in
    let within = r.within in
    let len : e - r.start ≡ 0 = sym (length-slice_range file r.start e r.in_order r.within) ∙ ap length r.is_word in
    let same : r.start ≡ e = omega arith in
    subst S same r.is_start

-- the empty word stands everywhere in a file
pub Reaches-nil_at : (file : List ℕ) (S : ℕ → Type 0) (e : ℕ) → S e → e ≤ length file → Reaches (λ w. w ≡ []) file S e
Reaches-nil_at file S e h within = record {
  start = e;
  is_start = h;
  in_order = omega arith;
  within = within;
  is_word = (let none : e - e ≡ 0 = omega arith in rw none refl);
}

-- no interval reaches anything
pub Gains-no_intervals : (W : List ℕ → Type 0) (file : List ℕ) (xs old : List Interval) → Gains (Reaches W file (IsIn (take 0 xs))) old old
Gains-no_intervals W file xs old = record {
  sound = λ o h. inl h;
  kept = λ o h. h;
  gained = λ o h. absurd h.is_start;
}

-- what all intervals reach
pub HasExactly-all : (W : List ℕ → Type 0) (file : List ℕ) (xs : List Interval) (i : ℕ) (old ends : List Interval) → length xs ≤ i → old ≡ []
    → Gains (Reaches W file (IsIn (take i xs))) old ends → HasExactly (Reaches W file (IsIn xs)) ends
HasExactly-all W file xs i old ends all none gains =
    let P : List Interval → List Interval → Type 0 = λ l o. Gains (Reaches W file (IsIn l)) o ends in
    HasExactly-from_Gains (Reaches W file (IsIn xs)) ends
    (subst (λ (o : List Interval). P xs o) none (subst (λ (l : List Interval). P l old) (take_all i xs all) gains))

-- all words are still to come, from starts in other words
pub Carries-start : (U : List ℕ → Type 0) (file : List ℕ) (S : ℕ → Type 0) (frontier : List Interval) → ((a : ℕ) → a ≤ length file → IsIn frontier a → S a)
    → ((a : ℕ) → a ≤ length file → S a → IsIn frontier a) → Carries U U file S frontier
Carries-start U file S frontier to from = record {
  sound = λ e r. Reaches-starts U file _ _ e to r;
  complete = λ e r. Reaches-starts U file _ _ e from r;
}

-- no word is still to come
pub HasExactly-from_Carries : (U : List ℕ → Type 0) (file : List ℕ) (S : ℕ → Type 0) (frontier : List Interval) → ((a : ℕ) → IsIn frontier a → a ≤ length file)
    → Carries U (λ w. w ≡ []) file S frontier → HasExactly (Reaches U file S) frontier
HasExactly-from_Carries U file S frontier within carries = record {
  sound = λ o h. carries.sound o (Reaches-nil_at file (IsIn frontier) o h (within o h));
  complete = λ o r. Reaches-nil file (IsIn frontier) o (carries.complete o r);
}
