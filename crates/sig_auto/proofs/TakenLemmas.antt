-- The words of a tree, by its tracks and the classes of their slots.
use Rattle.sig_auto.proofs.Common.{◌≡◌, ◌↔◌, ℕ, zero, suc, ◌+◌, ◌-◌, ◌<◌, ◌≤◌, List, [], ◌∷◌, ◌++◌, length, get_or, replicate, refl, sym, ap, subst, ◌∙◌, inl}
use Rattle.sig_auto.proofs.Common.{inr, arith, Option, Some, None, length-append, ⊤, length-replicate, get_or-replicate, get_or_append_left}
use Rattle.sig_auto.proofs.Common.{get_or-append_right, Class, InClass, any, Tree, Never, Empty, Slot, Gap, Then, Or, slots_of, classes_of, class_of, GapTrack}
use Rattle.sig_auto.proofs.Common.{slots_from, Track, TakesAll, TreeWord, IsBytes, gap_slots}
use Rattle.sig_auto.proofs.ByteLemmas.{IsBytes-nil, IsBytes-cons, IsBytes-head, IsBytes-tail, IsBytes-append}

-- each slot takes the byte in its place, where f gives the classes
abbrev TakesBy : (ℕ → Class) → List ℕ → List ℕ → Type 0
TakesBy f [] [] = ⊤
TakesBy f [] (byte ∷ bytes) = ⊥
TakesBy f (q ∷ slots) [] = ⊥
TakesBy f (q ∷ slots) (byte ∷ bytes) = InClass (f q) byte × TakesBy f slots bytes

TakesBy-join : (f : ℕ → Class) (s t u v : List ℕ) → TakesBy f s u → TakesBy f t v → TakesBy f (s ++ t) (u ++ v)
TakesBy-join f [] t [] v h k = k
TakesBy-join f [] t (b ∷ u) v h k = absurd h
TakesBy-join f (q ∷ s) t [] v h k = absurd h
TakesBy-join f (q ∷ s) t (b ∷ u) v h k = (h.0, TakesBy-join f s t u v h.1 k)

TakesBy-split : (f : ℕ → Class) (s t w : List ℕ) → TakesBy f (s ++ t) w → (u v : List ℕ) × (w ≡ u ++ v) × TakesBy f s u × TakesBy f t v
TakesBy-split f [] t w h = ([], w, refl, tt, h)
TakesBy-split f (q ∷ s) t [] h = absurd h
TakesBy-split f (q ∷ s) t (b ∷ w) h = let r = TakesBy-split f s t w h.1 in (b ∷ r.0, r.1, ap (λ l. b ∷ l) r.2, (h.0, r.3), r.4)

-- the bytes that slots of all bytes take, one after the other
TakesBy-run : (f : ℕ → Class) (k first : ℕ) (w : List ℕ) → ((q : ℕ) → first ≤ q → q < first + k → f q ≡ any) → IsBytes w → length w ≡ k
    → TakesBy f (slots_from first k) w
TakesBy-run f zero first [] h bytes len = tt
TakesBy-run f zero first (b ∷ w) h bytes len = absurd (omega arith)
TakesBy-run f (suc k) first [] h bytes len = absurd (omega arith)
TakesBy-run f (suc k) first (b ∷ w) h bytes len = grind (arith, IsBytes-head b w bytes, IsBytes-tail b w bytes, TakesBy-run f k (first + 1) w)

run_taken : (f : ℕ → Class) (k first : ℕ) (w : List ℕ) → ((q : ℕ) → first ≤ q → q < first + k → f q ≡ any) → TakesBy f (slots_from first k) w → IsBytes w
    × (length w ≡ k)
run_taken f zero first [] h taken = (IsBytes-nil, refl)
run_taken f zero first (b ∷ w) h taken = absurd taken
run_taken f (suc k) first [] h taken = absurd taken
run_taken f (suc k) first (b ∷ w) h taken = grind (arith, IsBytes-cons b w, run_taken f k (first + 1) w)

-- the bytes that one slot of all bytes takes, again and again
TakesBy-again : (f : ℕ → Class) (k q : ℕ) (w : List ℕ) → f q ≡ any → IsBytes w → length w ≡ k → TakesBy f (replicate k q) w
TakesBy-again f zero q [] h bytes len = tt
TakesBy-again f zero q (b ∷ w) h bytes len = absurd (omega arith)
TakesBy-again f (suc k) q [] h bytes len = absurd (omega arith)
TakesBy-again f (suc k) q (b ∷ w) h bytes len = grind (arith, IsBytes-head b w bytes, IsBytes-tail b w bytes, TakesBy-again f k q w h (IsBytes-tail b w bytes))

again_taken : (f : ℕ → Class) (k q : ℕ) (w : List ℕ) → f q ≡ any → TakesBy f (replicate k q) w → IsBytes w × (length w ≡ k)
again_taken f zero q [] h taken = (IsBytes-nil, refl)
again_taken f zero q (b ∷ w) h taken = absurd taken
again_taken f (suc k) q [] h taken = absurd taken
again_taken f (suc k) q (b ∷ w) h taken = grind (arith, IsBytes-cons, again_taken f k q w h taken.1)

-- the first n bytes, and those behind them
cut_at : (n : ℕ) (w : List ℕ) → IsBytes w → n ≤ length w → (u v : List ℕ) × (w ≡ u ++ v) × (length u ≡ n) × IsBytes u × IsBytes v
cut_at zero w bytes h = ([], w, refl, refl, IsBytes-nil, bytes)
cut_at (suc n) [] bytes h = absurd (omega arith)
cut_at (suc n) (b ∷ w) bytes h =
    let r = cut_at n w (IsBytes-tail b w bytes) (omega arith) in
    let len = r.3 in
    (b ∷ r.0, r.1, ap (λ l. b ∷ l) r.2, omega arith, IsBytes-cons b r.0 (IsBytes-head b w bytes) r.4, r.5)

-- a class for each slot
pub length_classes : (tree : Tree) → length (classes_of tree) ≡ slots_of tree
length_classes Never = refl
length_classes Empty = refl
length_classes (Slot c) = refl
length_classes (Gap min max) = length-replicate (gap_slots min max) any
length_classes (Then a b) = length-append (classes_of a) (classes_of b) ∙ cc (length_classes a, length_classes b)
length_classes (Or a b) = length-append (classes_of a) (classes_of b) ∙ cc (length_classes a, length_classes b)

-- f gives the classes of the tree's slots
abbrev Reads : (ℕ → Class) → Tree → ℕ → Type 0
Reads f tree before = (k q : ℕ) → k < slots_of tree → q ≡ before + k + 1 → f q ≡ get_or (classes_of tree) k any

Reads-left : (f : ℕ → Class) (a b : Tree) (before : ℕ) → Reads f (Then a b) before → Reads f a before
Reads-left f a b before h k q below is = grind (arith, length_classes a, get_or_append_left)

Reads-right : (f : ℕ → Class) (a b : Tree) (before : ℕ) → Reads f (Then a b) before → Reads f b (before + slots_of a)
Reads-right f a b before h k q below is =
    let same : slots_of a + k - slots_of a ≡ k = omega arith in
    h (slots_of a + k) q (omega arith) (omega arith) ∙ get_or-append_right (classes_of a) (classes_of b) (slots_of a) (slots_of a + k) any (length_classes a)
    (omega arith) ∙ ap (λ i. get_or (classes_of b) i any) same

-- all slots of a gap take all bytes
Reads-gap : (f : ℕ → Class) (min : ℕ) (max : Option ℕ) (before q : ℕ) → Reads f (Gap min max) before → before < q → q ≤ before + gap_slots min max → f q ≡ any
Reads-gap f min max before q h low high = h (q - before - 1) q (omega arith) (omega arith) ∙ get_or-replicate (gap_slots min max) (q - before - 1) any any
    (omega arith)

-- some track takes the word
abbrev Taken : (ℕ → Class) → Tree → ℕ → List ℕ → Type 0
Taken f tree before w = (t : List ℕ) × Track tree before t × TakesBy f t w

gap_is_taken : (f : ℕ → Class) (min : ℕ) (max : Option ℕ) (before : ℕ) (w : List ℕ) → Reads f (Gap min max) before → TreeWord (Gap min max) w
    → Taken f (Gap min max) before w
gap_is_taken f min None before w h word =
    let c = cut_at min w word.0 word.1 in
    let first = TakesBy-run f min (before + 1) c.0 (λ q low high. Reads-gap f min None before q h (omega arith) (omega arith)) c.4 c.3 in
    let last = TakesBy-again f (length c.1) (before + min + 1) c.1 (Reads-gap f min None before (before + min + 1) h (omega arith) (omega arith)) c.5 refl in
    let t : List ℕ = slots_from (before + 1) min ++ replicate (length c.1) (before + min + 1) in
    let all : TakesBy f t (c.0 ++ c.1) = TakesBy-join f (slots_from (before + 1) min) (replicate (length c.1) (before + min + 1)) c.0 c.1 first last in
    (t, (length c.1, refl), subst (TakesBy f t) (sym c.2) all)
gap_is_taken f min (Some max) before w h word = grind (arith, TakesBy-run f (length w) (before + 1) w, Reads-gap f min (Some max) before)

gap_taken : (f : ℕ → Class) (min : ℕ) (max : Option ℕ) (before : ℕ) (w t : List ℕ) → Reads f (Gap min max) before → GapTrack min max before t → TakesBy f t w
    → TreeWord (Gap min max) w
gap_taken f min None before w t h track taken =
    let s = TakesBy-split f (slots_from (before + 1) min) (replicate track.0 (before + min + 1)) w (rw track.1 at taken) in
    let first = run_taken f min (before + 1) s.0 (λ q low high. Reads-gap f min None before q h (omega arith) (omega arith)) s.3 in
    let last = again_taken f track.0 (before + min + 1) s.1 (Reads-gap f min None before (before + min + 1) h (omega arith) (omega arith)) s.4 in
    let len = first.1 in
    rw s.2 (IsBytes-append s.0 s.1 first.0 last.0, rw (length-append s.0 s.1) (omega arith), tt)
gap_taken f min (Some max) before w t h track taken = grind (arith, run_taken f track.0 (before + 1) w, Reads-gap f min (Some max) before)

-- a word is taken by some track
is_taken : (f : ℕ → Class) (tree : Tree) (before : ℕ) (w : List ℕ) → Reads f tree before → TreeWord tree w → Taken f tree before w
is_taken f Never before w h word = absurd word
is_taken f Empty before w h word = ([], refl, rw word tt)
is_taken f (Slot c) before w h word = ((before + 1) ∷ [], refl, rw (word.1, h 0 (before + 1) (omega arith) (omega arith)) (word.2, tt))
is_taken f (Gap min max) before w h word = gap_is_taken f min max before w h word
is_taken f (Then a b) before w h word =
    let one = is_taken f a before word.0 (Reads-left f a b before h) word.3 in
    let two = is_taken f b (before + slots_of a) word.1 (Reads-right f a b before h) word.4 in
    (one.0 ++ two.0, (one.0, two.0, refl, one.1, two.1), rw word.2 (TakesBy-join f one.0 two.0 word.0 word.1 one.2 two.2))
is_taken f (Or a b) before w h (inl word) = grind (arith, Reads-left f a b before h, is_taken f a before w (Reads-left f a b before h) word)
is_taken f (Or a b) before w h (inr word) = grind (arith, Reads-right, is_taken f b (before + slots_of a) w (Reads-right f a b before h) word)

-- what some track takes is a word
taken_word : (f : ℕ → Class) (tree : Tree) (before : ℕ) (w t : List ℕ) → Reads f tree before → Track tree before t → TakesBy f t w → TreeWord tree w
taken_word f Never before w t h track taken = absurd track
taken_word f Empty before [] t h track taken = refl
taken_word f Empty before (b ∷ w) t h track taken = absurd (rw track at taken)
taken_word f (Slot c) before [] t h track taken = absurd (rw track at taken)
taken_word f (Slot c) before (b ∷ []) t h track taken =
    let k = rw track at taken in
    (b, refl, rw (h 0 (before + 1) (omega arith) (omega arith)) at k.0)
taken_word f (Slot c) before (b ∷ d ∷ w) t h track taken = let k = rw track at taken in absurd k.1
taken_word f (Gap min max) before w t h track taken = gap_taken f min max before w t h track taken
taken_word f (Then a b) before w t h track taken =
    grind (
      arith,
      TakesBy-split f track.0 track.1 w,
      Reads-left f a b before h,
      Reads-right f a b before h,
      taken_word f a before,
      taken_word f b (before + slots_of a),
    )
taken_word f (Or a b) before w t h (inl track) taken = inl (taken_word f a before w t (Reads-left f a b before h) track taken)
taken_word f (Or a b) before w t h (inr track) taken = inr (taken_word f b (before + slots_of a) w t (Reads-right f a b before h) track taken)

TakesAll-from : (tree : Tree) (t w : List ℕ) → TakesBy (class_of tree) t w → TakesAll tree t w
TakesAll-from tree [] [] h = tt
TakesAll-from tree [] (b ∷ w) h = absurd h
TakesAll-from tree (q ∷ t) [] h = absurd h
TakesAll-from tree (q ∷ t) (b ∷ w) h = (h.0, TakesAll-from tree t w h.1)

TakesBy-from : (tree : Tree) (t w : List ℕ) → TakesAll tree t w → TakesBy (class_of tree) t w
TakesBy-from tree [] [] h = tt
TakesBy-from tree [] (b ∷ w) h = absurd h
TakesBy-from tree (q ∷ t) [] h = absurd h
TakesBy-from tree (q ∷ t) (b ∷ w) h = (h.0, TakesBy-from tree t w h.1)

-- a list is a word exactly where some track takes it
pub taken_is_word : (tree : Tree) (w : List ℕ) → TreeWord tree w ↔ ((t : List ℕ) × Track tree 0 t × TakesAll tree t w)
taken_is_word tree w = grind (arith, is_taken (class_of tree) tree 0 w, TakesAll-from tree, taken_word (class_of tree) tree 0 w, TakesBy-from tree)
