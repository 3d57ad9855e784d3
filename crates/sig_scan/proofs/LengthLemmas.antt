-- How long words are.
use Rattle.sig_scan.proofs.Common.{◌≡◌, ℕ, ◌+◌, ◌≤◌, ◌<◌, List, [], ◌∷◌, ◌++◌, length, get_or, take, drop, All, map, sym, None, Some, zero, suc, ap, ◌∙◌, arith}
use Rattle.sig_scan.proofs.Common.{length-append, slice_range, drop_more, get_or-map, length-map, take_more, All-contains, All-head, All-tail, sum_by-cons}
use Rattle.sig_scan.proofs.Common.{Atom, Item, AlternativeWord, Lang, Word, AreBounded, HasLength, IsBoundedItem, item_span, longest_of, part_length}
use Rattle.sig_scan.proofs.Common.{parts_length, span, Lies, max, min}
use Rattle.sig_expr.specs.declared.item.Item.TheVariants as item
use Rattle.sig_scan.proofs.LiesLemmas.{Lies-seen_both, length-slice_range}
use Rattle.sig_scan.proofs.PartLemmas.{PartWord-length}

length-AlternativeWord : (parts : List Atom) (w : List ℕ) → AlternativeWord parts w → length w ≡ parts_length parts
length-AlternativeWord [] w h = ap length h
length-AlternativeWord (p ∷ parts) w (u, v, is, word, rest) =
    omega (arith, PartWord-length p u word, length-AlternativeWord parts v rest, sum_by-cons part_length p parts, ap length is ∙ length-append u v)

longest_of-above : (all : List (List Atom)) (x : List Atom) (k : ℕ) → k < length all → get_or all k x ≡ x → parts_length x ≤ longest_of all
longest_of-above [] x k at is = absurd (omega arith)
longest_of-above (a ∷ later) x zero at is = omega (arith, ap parts_length is)
longest_of-above (a ∷ later) x (suc k) at is = omega (arith, longest_of-above later x k (omega arith) is)

item_span-Word : (i : Item) (w : List ℕ) → IsBoundedItem i → Word i w → length w ≤ item_span i
item_span-Word (item.Byte b) w bounded h = omega (arith, ap length h)
item_span-Word (item.Gap min None) w bounded h = absurd bounded
item_span-Word (item.Gap min (Some max)) w bounded h = h.2
item_span-Word (item.Alt all) w bounded h = omega (arith, length-AlternativeWord h.0 w h.2, longest_of-above all h.0 h.1.0 h.1.1 h.1.2)
item_span-Word _ w bounded h = omega arith

span-Lang : (items : List Item) (w : List ℕ) → AreBounded items → Lang items w → length w ≤ span items
span-Lang [] w bounded h = omega (arith, ap length h)
span-Lang (i ∷ items) w bounded (u, v, is, word, rest) =
    let first = item_span-Word i u (All-head IsBoundedItem i items bounded) word in
    let later = span-Lang items v (All-tail IsBoundedItem i items bounded) rest in
    omega (arith, sum_by-cons item_span i items, ap length is ∙ length-append u v)

pub Lies-span : (items : List Item) (file : List ℕ) (start end : ℕ) → AreBounded items → Lies items file start end → end ≤ start + span items
Lies-span items file start end bounded l =
    omega (arith, length-slice_range file start end l.in_order l.within, span-Lang items (slice_range file start end) bounded l.is_word)

-- a word that would end in the bytes that are seen, were it the longest
pub Lies-in_sight : (items : List Item) (file more : List ℕ) (start end : ℕ) → AreBounded items → start + span items ≤ length file
    → Lies items (file ++ more) start end → Lies items file start end
Lies-in_sight items file more start end bounded sight l =
    (Lies-seen_both items file more start end).1 (l, omega (arith, Lies-span items (file ++ more) start end bounded l))

-- an alternative as it is seen, in the list of all
alternative-at : {X : Type 0} (f : X → List Atom) (xs : List X) (all : List (List Atom)) (i : ℕ) (x : X) → i < length xs → x ≡ get_or xs i x
    → map f xs ≡ all → (i < length all) × (get_or all i (f x) ≡ f x)
alternative-at f xs all i x at is same = (omega (arith, length-map xs f, ap length same), rw (← same) (get_or-map f xs i x (f x) at ∙ ap f (sym is)))

-- the next alternative and those behind it
pub alternatives-next : {X : Type 0} (f : X → List Atom) (xs : List X) (all : List (List Atom)) (i : ℕ) (x : X) → i < length xs → x ≡ get_or xs i x
    → map f xs ≡ all → drop i all ≡ f x ∷ drop (i + 1) all
alternatives-next f xs all i x at is same =
    let here = alternative-at f xs all i x at is same in
    drop_more all i (f x) here.0 ∙ ap (λ (l : List Atom). l ∷ drop (i + 1) all) here.1

-- the alternatives so far and the next one
pub alternatives-taken : {X : Type 0} (f : X → List Atom) (xs : List X) (all : List (List Atom)) (i : ℕ) (x : X) → i < length xs → x ≡ get_or xs i x
    → map f xs ≡ all → take (i + 1) all ≡ take i all ++ f x ∷ []
alternatives-taken f xs all i x at is same =
    let here = alternative-at f xs all i x at is same in
    take_more all i (f x) here.0 ∙ ap (λ (a : List Atom). take i all ++ a ∷ []) here.1

-- a word of alternatives of one length is so long
pub HasLength-Alt : (alternatives : List (List Atom)) (n : ℕ) → All (λ a. parts_length a ≡ n) alternatives → HasLength (Word (item.Alt alternatives)) n
HasLength-Alt alternatives n all w (a, member, word) =
    length-AlternativeWord a w word ∙ All-contains (λ (b : List Atom). parts_length b ≡ n) alternatives a all member
