-- Words of lists of items, and how long they are.
use Rattle.std.proofs.Common.{◌≡◌, ℕ, ◌+◌, ◌≤◌, List, [], ◌∷◌, ◌++◌, length, map, take, drop, refl, subst, sym, ap, ap₂, ◌∙◌, inl, inr, arith, append_assoc}
use Rattle.std.proofs.Common.{length-append}
use Rattle.std.proofs.lemmas.List.{append-nil, drop-drop, take-append-drop}
use Rattle.std.proofs.lemmas.List.Elements.{Contains-push_cases}
use Rattle.sig_expr.specs.declared.item.Atom.{Atom}
use Rattle.sig_expr.specs.declared.item.Item.{Item}
use Rattle.sig_expr.specs.declared.item.Item.TheVariants as item
use Rattle.sig_expr.specs.Words.{AlternativeWord, Lang, PartWord, Word}
use Rattle.sig_match.specs.declared.whole.frontier.Interval.{Interval}
use Rattle.sig_match.specs.Frontiers.{HasExactly, IsIn, Reaches}
use Rattle.sig_match.specs.Runs.{Bounds, IsThis}
use Rattle.sig_match.proofs.ReachLemmas.{Carries, Carries-more, Reaches-words}

-- a word of two lists of items is a word of the one and a word of the other
pub Lang-append : (xs ys : List Item) (w : List ℕ) → Lang (xs ++ ys) w → (u v : List ℕ) × (w ≡ u ++ v) × Lang xs u × Lang ys v
Lang-append [] ys w h = ([], w, refl, refl, h)
Lang-append (x ∷ xs) ys w (u, v, is, word, rest) =
    let cut = Lang-append xs ys v rest in
    (u ++ cut.0, cut.1, is ∙ ap (λ (l : List ℕ). u ++ l) cut.2 ∙ sym (append_assoc u cut.0 cut.1), (u, cut.0, refl, word, cut.3), cut.4)

-- the converse
pub Lang-join : (xs ys : List Item) (w u v : List ℕ) → w ≡ u ++ v → Lang xs u → Lang ys v → Lang (xs ++ ys) w
Lang-join [] ys w u v is none rest = subst (Lang ys) (sym (is ∙ ap (λ (l : List ℕ). l ++ v) none)) rest
Lang-join (x ∷ xs) ys w u v is (a, b, cut, word, later) rest =
    (a, b ++ v, is ∙ ap (λ (l : List ℕ). l ++ v) cut ∙ append_assoc a b v, word, Lang-join xs ys (b ++ v) b v refl later rest)

-- the words of one item
pub Word-from_Lang : (x : Item) (w : List ℕ) → Lang (x ∷ []) w → Word x w
Word-from_Lang x w (u, v, is, word, none) = subst (Word x) (sym (is ∙ ap (λ (l : List ℕ). u ++ l) none ∙ append-nil u)) word

-- the word of a run
pub IsThis-from_Lang : (run w : List ℕ) → Lang (map item.Byte run) w → IsThis run w
IsThis-from_Lang [] w h = h
IsThis-from_Lang (b ∷ bs) w (u, v, is, word, rest) = is ∙ ap₂ (λ (a c : List ℕ). a ++ c) word (IsThis-from_Lang bs v rest)

pub Lang-from_IsThis : (run w : List ℕ) → IsThis run w → Lang (map item.Byte run) w
Lang-from_IsThis [] w is = is
Lang-from_IsThis (b ∷ bs) w is = (b ∷ [], bs, is, refl, Lang-from_IsThis bs bs refl)

-- the ends of a run, as those of its items
pub HasExactly-run : (run file : List ℕ) (S : ℕ → Type 0) (ends : List Interval) → HasExactly (Reaches (IsThis run) file S) ends
    → HasExactly (Reaches (Lang (map item.Byte run)) file S) ends
HasExactly-run run file S ends exact = record {
  sound = λ o h. Reaches-words (IsThis run) (Lang (map item.Byte run)) file S o (Lang-from_IsThis run) (exact.sound o h);
  complete = λ o r. exact.complete o (Reaches-words (Lang (map item.Byte run)) (IsThis run) file S o (IsThis-from_Lang run) r);
}

-- an expression's next items
pub Carries-items : (items : List Item) (i n : ℕ) (file : List ℕ) (S : ℕ → Type 0) (old new : List Interval)
    → Carries (Lang items) (Lang (drop i items)) file S old → HasExactly (Reaches (Lang (take n (drop i items))) file (IsIn old)) new
    → Carries (Lang items) (Lang (drop (i + n) items)) file S new
Carries-items items i n file S old new carries next =
    let later : List Item = drop i items in
    let P : List Item → Type 0 = λ l. Carries (Lang items) (Lang l) file S old in
    let Q : List Item → Type 0 = λ l. Carries (Lang items) (Lang l) file S new in
    subst Q (drop-drop n i items) (
    Carries-more (Lang items) (Lang (take n later)) (Lang (take n later ++ drop n later)) (Lang (drop n later)) file S old new
    (λ w h. Lang-append (take n later) (drop n later) w h) (λ w u v is front back. Lang-join (take n later) (drop n later) w u v is front back)
    (subst P (sym (take-append-drop n later)) carries) next
    )

-- no start is left, so no word is still to come
pub Carries-none : (U V W : List ℕ → Type 0) (file : List ℕ) (S : ℕ → Type 0) (frontier : List Interval) → frontier ≡ [] → Carries U V file S frontier
    → Carries U W file S frontier
Carries-none U V W file S frontier none carries =
    let P : ℕ → List Interval → Type 0 = λ o l. IsIn l o in record {
      sound = λ e r. absurd (let h : IsIn [] r.start = subst (P r.start) none r.is_start in h);
      complete = λ e r. absurd (let q = carries.complete e r in let h : IsIn [] q.start = subst (P q.start) none q.is_start in h);
    }

-- one item more
pub Bounds-item : (xs : List Item) (x : Item) (a b : ℕ) → Bounds (Lang xs) a → Bounds (Word x) b → Bounds (Lang (xs ++ x ∷ [])) (a + b)
Bounds-item xs x a b front last = λ w h.
    let cut = Lang-append xs (x ∷ []) w h in
    let len = ap length cut.2 ∙ length-append cut.0 cut.1 in
    let first = front cut.0 cut.3 in
    let second = last cut.1 (Word-from_Lang x cut.1 cut.4) in
    omega arith

-- a word of parts and one more
AlternativeWord-append : (xs : List Atom) (y : Atom) (w : List ℕ) → AlternativeWord (xs ++ y ∷ []) w → (u v : List ℕ) × (w ≡ u ++ v) × AlternativeWord xs u
    × PartWord y v
AlternativeWord-append [] y w (u, v, is, word, none) = ([], u, is ∙ ap (λ (l : List ℕ). u ++ l) none ∙ append-nil u, refl, word)
AlternativeWord-append (x ∷ xs) y w (u, v, is, word, rest) =
    let cut = AlternativeWord-append xs y v rest in
    (u ++ cut.0, cut.1, is ∙ ap (λ (l : List ℕ). u ++ l) cut.2 ∙ sym (append_assoc u cut.0 cut.1), (u, cut.0, refl, word, cut.3), cut.4)

-- one part more
pub Bounds-part : (xs : List Atom) (y : Atom) (a b : ℕ) → Bounds (AlternativeWord xs) a → Bounds (PartWord y) b
    → Bounds (AlternativeWord (xs ++ y ∷ [])) (a + b)
Bounds-part xs y a b front last = λ w h.
    let cut = AlternativeWord-append xs y w h in
    let len = ap length cut.2 ∙ length-append cut.0 cut.1 in
    let first = front cut.0 cut.3 in
    let second = last cut.1 cut.4 in
    omega arith

-- one alternative more
pub Bounds-alternative : (xs : List (List Atom)) (y : List Atom) (a b n : ℕ) → a ≤ n → b ≤ n → Bounds (Word (item.Alt xs)) a → Bounds (AlternativeWord y) b
    → Bounds (Word (item.Alt (xs ++ y ∷ []))) n
Bounds-alternative xs y a b n a_below b_below front last = λ w h.
    elim (Contains-push_cases xs y h.0 h.1) [
      | inl known ↦ (let first = front w (h.0, known, h.2) in omega arith)
      | inr is_last ↦ (
          let P : List Atom → Type 0 = λ l. AlternativeWord l w in
          let second = last w (subst P (sym is_last) h.2) in
          omega arith
          )
    ]
