-- Where words lie: of two lists of items joined, behind a gap, and in a file of which only the
-- first bytes are seen.
use Rattle.sig_scan.proofs.Common.{◌≡◌, ℕ, ◌+◌, ◌-◌, ◌≤◌, List, [], ◌∷◌, ◌++◌, length, drop, None, refl, subst, sym, ap, ◌∙◌, arith, append_assoc}
use Rattle.sig_scan.proofs.Common.{length-append, ◌↔◌, slice_range, length-drop, drop-append-le, take-append-le, drop-append-add, All-drop, All-take, IsBytes}
use Rattle.sig_scan.proofs.Common.{Item, Lang, Word, Lies, min}
use Rattle.sig_expr.specs.declared.item.Item.TheVariants as item
use Rattle.sig_scan.proofs.ReachLemmas.{slice_range-split, slice_range-words}
pub use Rattle.sig_scan.proofs.ReachLemmas.{length-slice_range}

-- a word of two lists of items is a word of the one and a word of the other
Lang-append : (xs ys : List Item) (w : List ℕ) → Lang (xs ++ ys) w → (u v : List ℕ) × (w ≡ u ++ v) × Lang xs u × Lang ys v
Lang-append [] ys w h = ([], w, refl, refl, h)
Lang-append (x ∷ xs) ys w (u, v, is, word, rest) =
    let cut = Lang-append xs ys v rest in
    (u ++ cut.0, cut.1, is ∙ ap (λ (l : List ℕ). u ++ l) cut.2 ∙ sym (append_assoc u cut.0 cut.1), (u, cut.0, refl, word, cut.3), cut.4)

-- the converse
Lang-join : (xs ys : List Item) (w u v : List ℕ) → w ≡ u ++ v → Lang xs u → Lang ys v → Lang (xs ++ ys) w
Lang-join [] ys w u v is none rest = subst (Lang ys) (sym (is ∙ ap (λ (l : List ℕ). l ++ v) none)) rest
Lang-join (x ∷ xs) ys w u v is (a, b, cut, word, later) rest =
    (a, b ++ v, is ∙ ap (λ (l : List ℕ). l ++ v) cut ∙ append_assoc a b v, word, Lang-join xs ys (b ++ v) b v refl later rest)

-- a word of two lists of items lies as a word of the one and then, from its end on, a word of the
-- other
pub Lies-split : (xs ys : List Item) (file : List ℕ) (a e : ℕ) → Lies (xs ++ ys) file a e → (m : ℕ) × Lies xs file a m × Lies ys file m e
Lies-split xs ys file a e l =
    let parts = slice_range-words (Lang xs) (Lang ys) file a e l.in_order l.within (Lang-append xs ys (slice_range file a e) l.is_word) in
    (parts.0, record { in_order = parts.1; within = omega arith; is_word = parts.3 }, record { in_order = parts.2; within = l.within; is_word = parts.4 })

-- the converse
pub Lies-join : (xs ys : List Item) (file : List ℕ) (a m e : ℕ) → Lies xs file a m → Lies ys file m e → Lies (xs ++ ys) file a e
Lies-join xs ys file a m e first second = grind (arith, slice_range-split file a m e first.in_order second.in_order, Lang-join xs ys)

-- the bytes of a part of a file
IsBytes-slice_range : (file : List ℕ) (a e : ℕ) → IsBytes file → IsBytes (slice_range file a e)
IsBytes-slice_range file a e bytes = search (All-take, All-drop)

-- a word of an unbounded gap lies between any two offsets that are so far apart
pub Lies-gap : (min : ℕ) (later : List Item) (file : List ℕ) (a b e : ℕ) → IsBytes file → a + min ≤ b → Lies later file b e
    → Lies (item.Gap min None ∷ later) file a e
Lies-gap min later file a b e bytes far l =
    grind (arith, length-slice_range file a b, slice_range-split file a b e, IsBytes-slice_range file a b bytes)

-- the converse
pub Lies-behind_gap : (min : ℕ) (later : List Item) (file : List ℕ) (a e : ℕ) → Lies (item.Gap min None ∷ later) file a e
    → (b : ℕ) × (a + min ≤ b) × Lies later file b e
Lies-behind_gap min later file a e l =
    let parts = slice_range-words (Word (item.Gap min None)) (Lang later) file a e l.in_order l.within l.is_word in
    let len = length-slice_range file a parts.0 parts.1 (omega arith) in
    (parts.0, omega (arith, parts.3.1), record { in_order = parts.2; within = l.within; is_word = parts.4 })

slice_range-seen : (file more : List ℕ) (a e : ℕ) → a ≤ e → e ≤ length file → slice_range (file ++ more) a e ≡ slice_range file a e
slice_range-seen file more a e order seen = grind (arith, drop-append-le a file more, take-append-le (e - a) (drop a file) more, length-drop a file)

-- a word that ends in the bytes that are seen lies there, whatever follows them
pub Lies-seen_both : (items : List Item) (file more : List ℕ) (a e : ℕ) → Lies items file a e ↔ (Lies items (file ++ more) a e × (e ≤ length file))
Lies-seen_both items file more a e =
    (λ l. grind (arith, length-append file more, slice_range-seen file more a e), λ l. grind (arith, slice_range-seen file more a e))

-- a part of the last bytes of a file
slice_range-behind : (before file : List ℕ) (a e : ℕ) → slice_range (before ++ file) (length before + a) (length before + e) ≡ slice_range file a e
slice_range-behind before file a e = grind (arith, drop-append-add before file a)

-- a word that lies in the last bytes of a file
pub Lies-behind : (items : List Item) (before file : List ℕ) (a e : ℕ)
    → Lies items file a e ↔ Lies items (before ++ file) (length before + a) (length before + e)
Lies-behind items before file a e = grind (arith, length-append before file, slice_range-behind before file a e)
