-- A text spells one list of items alone: what is spelled at the front of a text, and what is behind it, is known by the text.
use Rattle.std.proofs.Common.{◌≡◌, inl, inr, ℕ, ◌+◌, ◌%◌, ◌<◌, ◌≤◌, true, false, nat_eq, if◌then◌else◌, List, [], ◌∷◌, ◌++◌, length, decimal, Option, Some}
use Rattle.std.proofs.Common.{None, refl, sym, ◌∙◌, ap, arith, append_assoc}
use Rattle.std.specs.Prelude.{⊤}
use Rattle.std.proofs.lemmas.Fmt.{decimal_by_steps, decimal_injective, decimal_nonempty}
use Rattle.hex.specs.Hex.{hex_digit_value}
use Rattle.sig_expr.specs.declared.item.Item.{Item}
use Rattle.sig_expr.specs.declared.item.Item.TheVariants as item
use Rattle.sig_expr.specs.declared.item.Atom.{Atom}
use Rattle.sig_expr.specs.declared.item.Atom.TheVariants as atom
use Rattle.sig_expr.specs.Spelling.{PairText, WordText, NumberText, GapText, RangeText, NotText, AtomText, AlternativeText, AlternativesText, ListText}
use Rattle.sig_expr.specs.Spelling.{ItemText, Spells}
use Rattle.sig_expr.proofs.ProfileLemmas.{some_items}
use Rattle.sig_expr.proofs.ScanLemmas.{not_digit}

-- each member is so
abbrev Each : (ℕ → Type 0) → List ℕ → Type 0
Each P [] = ⊤
Each P (b ∷ t) = P b × Each P t

-- up to a sign that is not so, the text says where they end
to_sign : (P : ℕ → Type 0) (u u' v v' : List ℕ) (s s' : ℕ) → Each P u → Each P u' → (P s → ⊥) → (P s' → ⊥) → u ++ s ∷ v ≡ u' ++ s' ∷ v' → (u ≡ u') × (s ≡ s')
    × (v ≡ v')
to_sign P [] [] v v' s s' h h' n n' e = (refl, cc, cc)
to_sign P [] (b ∷ u') v v' s s' h h' n n' e = let same : b ≡ s = cc in absurd (n (rw same at h'.0))
to_sign P (b ∷ u) [] v v' s s' h h' n n' e = let same : b ≡ s' = cc in absurd (n' (rw same at h.0))
to_sign P (b ∷ u) (b' ∷ u') v v' s s' h h' n n' e =
    let more = to_sign P u u' v v' s s' h.1 h'.1 n n' (cc) in
    (cc (more.0), more.1, more.2)

first_is : (x y : ℕ) (t u : List ℕ) → x ∷ t ≡ y ∷ u → x ≡ y
first_is x y t u e = cc

cut_front : (o x y : List ℕ) → o ++ x ≡ o ++ y → x ≡ y
cut_front [] x y e = e
cut_front (b ∷ o) x y e = cut_front o x y (cc)

-- pairs

abbrev IsDigit : ℕ → Type 0
IsDigit b = (x : ℕ) × (hex_digit_value b ≡ Some x)

no_digit : (s : ℕ) → hex_digit_value s ≡ None → IsDigit s → ⊥
no_digit s n h = cc (h.1)

one_value : (x y : ℕ) (o : Option ℕ) → o ≡ Some x → o ≡ Some y → x ≡ y
one_value x y o p q = cc

pair_one : (b b' high low high' low' : ℕ) (t t' : List ℕ) (p : PairText b t) (q : PairText b' t') → p.high ≡ q.high → p.low ≡ q.low → b ≡ b'
pair_one b b' h l h' l' t t' p q high low =
    let one : p.high_value ≡ q.high_value = one_value _ _ (hex_digit_value p.high) p.is_high (rw high q.is_high) in
    let two : p.low_value ≡ q.low_value = one_value _ _ (hex_digit_value p.low) p.is_low (rw low q.is_low) in
    p.byte ∙ rw (one, two) (sym q.byte)

pair_cuts : (b b' : ℕ) (u u' v v' : List ℕ) → PairText b u → PairText b' u' → u ++ v ≡ u' ++ v' → (b ≡ b') × (v ≡ v')
pair_cuts b b' u u' v v' p q e =
    let whole : p.high ∷ p.low ∷ v ≡ q.high ∷ q.low ∷ v' = rw (p.text, q.text) at e in
    (pair_one b b' 0 0 0 0 u u' p q (cc) (cc), cc)

word_digits : (a u : List ℕ) → WordText a u → Each IsDigit u
word_digits [] u h = rw h tt
word_digits (b ∷ a) u h =
    let p = h.3 in
    rw (h.2, p.text) ((p.high_value, p.is_high), ((p.low_value, p.is_low), word_digits a h.1 h.4))

no_pair : (x y : ℕ) (u v : List ℕ) → [] ≡ u ++ v → u ≡ x ∷ y ∷ [] → ⊥
no_pair x y [] v e h = cc
no_pair x y (b ∷ u) v e h = cc

word_one : (a a' u : List ℕ) → WordText a u → WordText a' u → a ≡ a'
word_one [] [] u h h' = refl
word_one [] (b ∷ a') u h h' = let p = h'.3 in absurd (no_pair p.high p.low h'.0 h'.1 (sym h ∙ h'.2) p.text)
word_one (b ∷ a) [] u h h' = let p = h.3 in absurd (no_pair p.high p.low h.0 h.1 (sym h' ∙ h.2) p.text)
word_one (b ∷ a) (b' ∷ a') u h h' =
    let cut = pair_cuts b b' h.0 h'.0 h.1 h'.1 h.3 h'.3 (sym h.2 ∙ h'.2) in
    let rest = word_one a a' h.1 h.4 (rw cut.1 h'.4) in
    cc (cut.0, rest)

-- an end of a bracket, up to a sign
word_cuts : (a a' u u' v v' : List ℕ) (s s' : ℕ) → WordText a u → WordText a' u' → hex_digit_value s ≡ None → hex_digit_value s' ≡ None
    → u ++ s ∷ v ≡ u' ++ s' ∷ v' → (a ≡ a') × (s ≡ s') × (v ≡ v')
word_cuts a a' u u' v v' s s' h h' n n' e =
    let cut = to_sign IsDigit u u' v v' s s' (word_digits a u h) (word_digits a' u' h') (no_digit s n) (no_digit s' n') e in
    (word_one a a' u h (rw cut.0 h'), cut.1, cut.2)

-- numbers

abbrev IsDecimal : ℕ → Type 0
IsDecimal b = (48 ≤ b) × (b ≤ 57)

each_more : (u : List ℕ) (b : ℕ) → Each IsDecimal u → IsDecimal b → Each IsDecimal (u ++ b ∷ [])
each_more [] b h k = (k, tt)
each_more (x ∷ u) b h k = (h.0, each_more u b h.1 k)

number_digits : (n : ℕ) → n < 100000 → Each IsDecimal (decimal n)
number_digits n h = decimal_by_steps (λ m ds. Each IsDecimal ds) (λ m l. ((omega arith, omega arith), tt))
    (λ m ds l k. each_more ds (48 + m % 10) k (omega arith, omega arith)) n (omega arith)

-- a number, up to a sign
number_cuts : (n n' : ℕ) (u u' v v' : List ℕ) (s s' : ℕ) → NumberText n u → NumberText n' u' → (IsDecimal s → ⊥) → (IsDecimal s' → ⊥)
    → u ++ s ∷ v ≡ u' ++ s' ∷ v' → (n ≡ n') × (s ≡ s') × (v ≡ v')
number_cuts n n' u u' v v' s s' h h' k k' e =
    let cut = to_sign IsDecimal (decimal n) (decimal n') v v' s s' (number_digits n h.few) (number_digits n' h'.few) k k' (rw (h.digits, h'.digits) at e) in
    (decimal_injective n n' (omega (arith, h.few)) (omega (arith, h'.few)) cut.0, cut.1, cut.2)

-- no number begins with a star
number_no_star : (n : ℕ) (u v w : List ℕ) → NumberText n u → 42 ∷ w ≡ u ++ v → ⊥
number_no_star n u v w h e = star (decimal n) v w (decimal_nonempty n (omega (arith, h.few))) (number_digits n h.few) (rw h.digits at e)
  where
    star : (u v w : List ℕ) → 0 < length u → Each IsDecimal u → 42 ∷ w ≡ u ++ v → ⊥
    star [] v w some h e = omega arith
    star (b ∷ u) v w some h e = let same : b ≡ 42 = cc in let low = h.0.0 in omega arith

-- gaps

dash : IsDecimal 45 → ⊥
dash h = let low = h.0 in omega arith

brace : IsDecimal 125 → ⊥
brace h = let high = h.1 in omega arith

star_text : (t v : List ℕ) → t ≡ 42 ∷ [] → t ++ v ≡ 42 ∷ v
star_text t v e = ap (λ (x : List ℕ). x ++ v) e

open_text : (t u v : List ℕ) → t ≡ 123 ∷ (u ++ (45 ∷ 42 ∷ 125 ∷ [])) → t ++ v ≡ 123 ∷ (u ++ (45 ∷ 42 ∷ 125 ∷ v))
open_text t u v e = ap (λ (x : List ℕ). x ++ v) e ∙ ap (λ (x : List ℕ). 123 ∷ x) (append_assoc u (45 ∷ 42 ∷ 125 ∷ []) v)

count_text : (t u v : List ℕ) → t ≡ 123 ∷ (u ++ (125 ∷ [])) → t ++ v ≡ 123 ∷ (u ++ (125 ∷ v))
count_text t u v e = ap (λ (x : List ℕ). x ++ v) e ∙ ap (λ (x : List ℕ). 123 ∷ x) (append_assoc u (125 ∷ []) v)

between_text : (t u w v : List ℕ) → t ≡ 123 ∷ (u ++ (45 ∷ (w ++ (125 ∷ [])))) → t ++ v ≡ 123 ∷ (u ++ (45 ∷ (w ++ (125 ∷ v))))
between_text t u w v e =
    ap (λ (x : List ℕ). x ++ v) e ∙ ap (λ (x : List ℕ). 123 ∷ x) (append_assoc u (45 ∷ (w ++ (125 ∷ []))) v) ∙ ap (λ (x : List ℕ). 123 ∷ (u ++ (45 ∷ x)))
    (append_assoc w (125 ∷ []) v)

inside : (x y : List ℕ) → 123 ∷ x ≡ 123 ∷ y → x ≡ y
inside x y e = cut_front (123 ∷ []) x y e

star_or_brace : (x y : List ℕ) → 42 ∷ x ≡ 123 ∷ y → ⊥
star_or_brace x y e = cc

dash_or_brace : (x y : ℕ) → x ≡ 45 → y ≡ 125 → x ≡ y → ⊥
dash_or_brace x y p q e = omega arith

-- a gap with no greatest length, and one with a greatest length, have different texts
open_or_not : (least least' max' : ℕ) (u u' v v' : List ℕ) → GapText least None u → GapText least' (Some max') u' → u ++ v ≡ u' ++ v' → ⊥
open_or_not least least' max' u u' v v' (inl h) (inl h') e = star_or_brace _ _ (sym (star_text u v h.0) ∙ e ∙ count_text u' h'.0 v' h'.1)
open_or_not least least' max' u u' v v' (inl h) (inr h') e = star_or_brace _ _ (sym (star_text u v h.0) ∙ e ∙ between_text u' h'.0 h'.1 v' h'.2)
open_or_not least least' max' u u' v v' (inr h) (inl h') e =
    dash_or_brace 45 125 refl refl (number_cuts least max' h.0 h'.0 (42 ∷ 125 ∷ v) v' 45 125 h.2 h'.2 dash brace
    (inside _ _ (sym (open_text u h.0 v h.1) ∙ e ∙ count_text u' h'.0 v' h'.1))).1
open_or_not least least' max' u u' v v' (inr h) (inr h') e =
    number_no_star max' h'.1 (125 ∷ v') (125 ∷ v) h'.4
    (number_cuts least least' h.0 h'.0 (42 ∷ 125 ∷ v) (h'.1 ++ (125 ∷ v')) 45 45 h.2 h'.3 dash dash
    (inside _ _ (sym (open_text u h.0 v h.1) ∙ e ∙ between_text u' h'.0 h'.1 v' h'.2))).2

open_cuts : (least least' : ℕ) (u u' v v' : List ℕ) → GapText least None u → GapText least' None u' → u ++ v ≡ u' ++ v' → (least ≡ least') × (v ≡ v')
open_cuts least least' u u' v v' (inl h) (inl h') e = (h.1 ∙ sym h'.1, cut_front (42 ∷ []) v v' (sym (star_text u v h.0) ∙ e ∙ star_text u' v' h'.0))
open_cuts least least' u u' v v' (inl h) (inr h') e = absurd (star_or_brace _ _ (sym (star_text u v h.0) ∙ e ∙ open_text u' h'.0 v' h'.1))
open_cuts least least' u u' v v' (inr h) (inl h') e = absurd (star_or_brace _ _ (sym (star_text u' v' h'.0) ∙ sym e ∙ open_text u h.0 v h.1))
open_cuts least least' u u' v v' (inr h) (inr h') e =
    let cut = number_cuts least least' h.0 h'.0 (42 ∷ 125 ∷ v) (42 ∷ 125 ∷ v') 45 45 h.2 h'.2 dash dash
    (inside _ _ (sym (open_text u h.0 v h.1) ∙ e ∙ open_text u' h'.0 v' h'.1)) in
    (cut.0, cut_front (42 ∷ 125 ∷ []) v v' cut.2)

bound_cuts : (least least' max max' : ℕ) (u u' v v' : List ℕ) → GapText least (Some max) u → GapText least' (Some max') u' → u ++ v ≡ u' ++ v'
    → (least ≡ least') × (max ≡ max') × (v ≡ v')
bound_cuts least least' max max' u u' v v' (inl h) (inl h') e =
    let cut = number_cuts max max' h.0 h'.0 v v' 125 125 h.2 h'.2 brace brace (inside _ _ (sym (count_text u h.0 v h.1) ∙ e ∙ count_text u' h'.0 v' h'.1)) in
    (h.3 ∙ cut.0 ∙ sym h'.3, cut.0, cut.2)
bound_cuts least least' max max' u u' v v' (inl h) (inr h') e =
    absurd (dash_or_brace 45 125 refl refl (sym (number_cuts max least' h.0 h'.0 v (h'.1 ++ (125 ∷ v')) 125 45 h.2 h'.3 brace dash
    (inside _ _ (sym (count_text u h.0 v h.1) ∙ e ∙ between_text u' h'.0 h'.1 v' h'.2))).1))
bound_cuts least least' max max' u u' v v' (inr h) (inl h') e =
    absurd (dash_or_brace 45 125 refl refl (number_cuts least max' h.0 h'.0 (h.1 ++ (125 ∷ v)) v' 45 125 h.3 h'.2 dash brace
    (inside _ _ (sym (between_text u h.0 h.1 v h.2) ∙ e ∙ count_text u' h'.0 v' h'.1))).1)
bound_cuts least least' max max' u u' v v' (inr h) (inr h') e =
    let cut = number_cuts least least' h.0 h'.0 (h.1 ++ (125 ∷ v)) (h'.1 ++ (125 ∷ v')) 45 45 h.3 h'.3 dash dash
    (inside _ _ (sym (between_text u h.0 h.1 v h.2) ∙ e ∙ between_text u' h'.0 h'.1 v' h'.2)) in
    let end = number_cuts max max' h.1 h'.1 v v' 125 125 h.4 h'.4 brace brace cut.2 in
    (cut.0, end.0, end.2)

gap_cuts : (least least' : ℕ) (max max' : Option ℕ) (u u' v v' : List ℕ) → GapText least max u → GapText least' max' u' → u ++ v ≡ u' ++ v' → (least ≡ least')
    × (max ≡ max') × (v ≡ v')
gap_cuts least least' None (Some max') u u' v v' h h' e = absurd (open_or_not least least' max' u u' v v' h h' e)
gap_cuts least least' (Some max) None u u' v v' h h' e = absurd (open_or_not least' least max u' u v' v h' h (sym e))
gap_cuts least least' None None u u' v v' h h' e = let cut = open_cuts least least' u u' v v' h h' e in (cut.0, refl, cut.1)
gap_cuts least least' (Some max) (Some max') u u' v v' h h' e = let cut = bound_cuts least least' max max' u u' v v' h h' e in
    (cut.0, ap (λ (n : ℕ). Some n) cut.1, cut.2)

-- brackets

range_text_is : (o a b t v : List ℕ) (h : RangeText o a b t) → t ++ v ≡ o ++ (h.first ++ (58 ∷ (h.second ++ (93 ∷ v))))
range_text_is o a b t v h = rw h.text (simp append_assoc)

not_text_is : (a t v : List ℕ) (h : NotText a t) → t ++ v ≡ 91 ∷ 33 ∷ (h.end ++ (93 ∷ v))
not_text_is a t v h = rw h.text (simp append_assoc)

range_cuts : (o a b a' b' u u' v v' : List ℕ) → RangeText o a b u → RangeText o a' b' u' → u ++ v ≡ u' ++ v' → (a ≡ a') × (b ≡ b') × (v ≡ v')
range_cuts o a b a' b' u u' v v' h h' e =
    let behind = cut_front o _ _ (sym (range_text_is o a b u v h) ∙ e ∙ range_text_is o a' b' u' v' h') in
    let one = word_cuts a a' h.first h'.first (h.second ++ (93 ∷ v)) (h'.second ++ (93 ∷ v')) 58 58 h.is_first h'.is_first refl refl behind in
    let two = word_cuts b b' h.second h'.second v v' 93 93 h.is_second h'.is_second refl refl one.2 in
    (one.0, two.0, two.2)

not_cuts : (a a' u u' v v' : List ℕ) → NotText a u → NotText a' u' → u ++ v ≡ u' ++ v' → (a ≡ a') × (v ≡ v')
not_cuts a a' u u' v v' h h' e =
    let whole = sym (not_text_is a u v h) ∙ e ∙ not_text_is a' u' v' h' in
    let end = word_cuts a a' h.end h'.end v v' 93 93 h.is_end h'.is_end refl refl (cut_front (91 ∷ 33 ∷ []) _ _ whole) in
    (end.0, end.2)

-- a bracket that excludes a word, and one that excludes a range
not_or_range : (a b c u u' v v' : List ℕ) → NotText a u → RangeText (91 ∷ 33 ∷ []) b c u' → u ++ v ≡ u' ++ v' → ⊥
not_or_range a b c u u' v v' h h' e =
    let whole = sym (not_text_is a u v h) ∙ e ∙ range_text_is (91 ∷ 33 ∷ []) b c u' v' h' in
    let end = word_cuts a b h.end h'.first v (h'.second ++ (93 ∷ v')) 93 58 h.is_end h'.is_first refl refl (cut_front (91 ∷ 33 ∷ []) _ _ whole) in
    let differ = end.1 in
    omega arith

-- a bracket that excludes, and one that does not
first_digit : (a u v w : List ℕ) → 0 < length a → WordText a u → u ++ v ≡ 33 ∷ w → ⊥
first_digit [] u v w some h e = omega arith
first_digit (b ∷ a) u v w some h e =
    let p = h.3 in
    let whole : p.high ∷ p.low ∷ (h.1 ++ v) ≡ 33 ∷ w = rw (h.2, p.text) at e in
    let same : p.high ≡ 33 = cc in
    no_digit 33 refl (p.high_value, rw same at p.is_high)

range_or_not : (a b u v w : List ℕ) → RangeText (91 ∷ []) a b u → u ++ v ≡ 91 ∷ 33 ∷ w → ⊥
range_or_not a b u v w h e = first_digit a h.first (58 ∷ (h.second ++ (93 ∷ v))) w h.some_first h.is_first
    (cut_front (91 ∷ []) _ _ (sym (range_text_is (91 ∷ []) a b u v h) ∙ e))

-- parts

-- the sort of a first byte
abbrev sort_of : ℕ → ℕ
sort_of b = if nat_eq b 63 then 1 else if nat_eq b 40 then 2 else if nat_eq b 91 then 3 else if nat_eq b 42 then 4 else if nat_eq b 123 then 4 else 0

abbrev sort_of_text : List ℕ → ℕ
sort_of_text [] = 0
sort_of_text (b ∷ t) = sort_of b

abbrev item_sort : Item → ℕ
item_sort (item.Byte b) = 0
item_sort item.Any = 1
item_sort (item.Alt as') = 2
item_sort (item.Range a b) = 3
item_sort (item.Not a) = 3
item_sort (item.NotRange a b) = 3
item_sort (item.Gap least max) = 4

digit_sort : (h x : ℕ) → hex_digit_value h ≡ Some x → sort_of h ≡ 0
digit_sort h x e = rw (not_digit h x 63 e refl, not_digit h x 40 e refl, not_digit h x 91 e refl, not_digit h x 42 e refl, not_digit h x 123 e refl) refl

pair_sort : (b : ℕ) (t v : List ℕ) → PairText b t → sort_of_text (t ++ v) ≡ 0
pair_sort b t v p = rw p.text (digit_sort p.high p.high_value p.is_high)

gap_sort : (least : ℕ) (max : Option ℕ) (t v : List ℕ) → GapText least max t → sort_of_text (t ++ v) ≡ 4
gap_sort least None t v (inl h) = rw h.0 refl
gap_sort least None t v (inr h) = rw h.1 refl
gap_sort least (Some max) t v (inl h) = rw h.1 refl
gap_sort least (Some max) t v (inr h) = rw h.2 refl

list_sort : (as' : List (List Atom)) (t v : List ℕ) → ListText as' t → sort_of_text (t ++ v) ≡ 2
list_sort [] t v h = let two = h.two in absurd (omega arith)
list_sort (a ∷ as') t v h = let k = h.is_inside in rw (h.text, k.2) refl

item_is_sort : (i : Item) (t v : List ℕ) → ItemText i t → sort_of_text (t ++ v) ≡ item_sort i
item_is_sort (item.Byte b) t v h = pair_sort b t v h
item_is_sort item.Any t v h = rw h refl
item_is_sort (item.Alt as') t v h = list_sort as' t v h
item_is_sort (item.Range a b) t v h = rw h.text refl
item_is_sort (item.Not a) t v h = rw h.text refl
item_is_sort (item.NotRange a b) t v h = rw h.text refl
item_is_sort (item.Gap least max) t v h = gap_sort least max t v h

same_sort : (t t' : List ℕ) (m n : ℕ) → sort_of_text t ≡ m → sort_of_text t' ≡ n → t ≡ t' → m ≡ n
same_sort t t' m n p q e = sym p ∙ ap sort_of_text e ∙ q

-- items at the front of one text are of one sort
apart : (i j : Item) (u u' v v' : List ℕ) → ItemText i u → ItemText j u' → u ++ v ≡ u' ++ v' → item_sort i ≡ item_sort j
apart i j u u' v v' h h' e = same_sort (u ++ v) (u' ++ v') (item_sort i) (item_sort j) (item_is_sort i u v h) (item_is_sort j u' v' h') e

-- the item of a part
abbrev item_of_atom : Atom → Item
item_of_atom (atom.Byte b) = item.Byte b
item_of_atom (atom.Range a b) = item.Range a b
item_of_atom (atom.Not a) = item.Not a
item_of_atom (atom.NotRange a b) = item.NotRange a b

brackets_apart : (a b c u u' v v' : List ℕ) → RangeText (91 ∷ []) a b u → NotText c u' → u ++ v ≡ u' ++ v' → ⊥
brackets_apart a b c u u' v v' h h' e = range_or_not a b u v _ h (e ∙ not_text_is c u' v' h')

ranges_apart : (a b c d u u' v v' : List ℕ) → RangeText (91 ∷ []) a b u → RangeText (91 ∷ 33 ∷ []) c d u' → u ++ v ≡ u' ++ v' → ⊥
ranges_apart a b c d u u' v v' h h' e = range_or_not a b u v _ h (e ∙ range_text_is (91 ∷ 33 ∷ []) c d u' v' h')

atom_cuts : (p q : Atom) (u u' v v' : List ℕ) → AtomText p u → AtomText q u' → u ++ v ≡ u' ++ v' → (p ≡ q) × (v ≡ v')
atom_cuts (atom.Byte b) (atom.Byte b') u u' v v' h h' e = let cut = pair_cuts b b' u u' v v' h h' e in (ap (λ (x : ℕ). atom.Byte x) cut.0, cut.1)
atom_cuts (atom.Range a b) (atom.Range c d) u u' v v' h h' e = let cut = range_cuts (91 ∷ []) a b c d u u' v v' h h' e in (cc (cut.0, cut.1), cut.2)
atom_cuts (atom.Not a) (atom.Not c) u u' v v' h h' e = let cut = not_cuts a c u u' v v' h h' e in (ap (λ (x : List ℕ). atom.Not x) cut.0, cut.1)
atom_cuts (atom.NotRange a b) (atom.NotRange c d) u u' v v' h h' e = let cut = range_cuts (91 ∷ 33 ∷ []) a b c d u u' v v' h h' e in (cc (cut.0, cut.1), cut.2)
atom_cuts (atom.Range a b) (atom.Not c) u u' v v' h h' e = absurd (brackets_apart a b c u u' v v' h h' e)
atom_cuts (atom.Not c) (atom.Range a b) u u' v v' h h' e = absurd (brackets_apart a b c u' u v' v h' h (sym e))
atom_cuts (atom.Range a b) (atom.NotRange c d) u u' v v' h h' e = absurd (ranges_apart a b c d u u' v v' h h' e)
atom_cuts (atom.NotRange c d) (atom.Range a b) u u' v v' h h' e = absurd (ranges_apart a b c d u' u v' v h' h (sym e))
atom_cuts (atom.Not a) (atom.NotRange b c) u u' v v' h h' e = absurd (not_or_range a b c u u' v v' h h' e)
atom_cuts (atom.NotRange b c) (atom.Not a) u u' v v' h h' e = absurd (not_or_range a b c u' u v' v h' h (sym e))
atom_cuts (atom.Byte b) q u u' v v' h h' e = let same = apart (item.Byte b) (item_of_atom q) u u' v v' h h' e in absurd (omega arith)
atom_cuts p (atom.Byte b) u u' v v' h h' e = let same = apart (item_of_atom p) (item.Byte b) u u' v v' h h' e in absurd (omega arith)

-- a sign that begins no part
record EndsParts (s : ℕ) : Type 0 where
  no_digit : hex_digit_value s ≡ None
  no_bracket : nat_eq s 91 ≡ false

ends_bar : EndsParts 124
ends_bar = record { no_digit = refl; no_bracket = refl }

ends_close : EndsParts 41
ends_close = record { no_digit = refl; no_bracket = refl }

bracket_begins : (s : ℕ) (w x : List ℕ) → EndsParts s → s ∷ w ≡ 91 ∷ x → ⊥
bracket_begins s w x k e = let same : s ≡ 91 = cc in let never : true ≡ false = rw same at k.no_bracket in cc

no_part : (p : Atom) (u v w : List ℕ) (s : ℕ) → AtomText p u → EndsParts s → s ∷ w ≡ u ++ v → ⊥
no_part (atom.Byte b) u v w s p k e =
    let whole : s ∷ w ≡ p.high ∷ p.low ∷ v = rw p.text at e in
    let same : s ≡ p.high = cc in
    no_digit s k.no_digit (p.high_value, rw same p.is_high)
no_part (atom.Range a b) u v w s h k e = bracket_begins s w _ k (e ∙ range_text_is (91 ∷ []) a b u v h)
no_part (atom.Not a) u v w s h k e = bracket_begins s w _ k (e ∙ not_text_is a u v h)
no_part (atom.NotRange a b) u v w s h k e = bracket_begins s w _ k (e ∙ range_text_is (91 ∷ 33 ∷ []) a b u v h)

-- parts, up to a sign
parts_cut : (ps qs : List Atom) (u u' v v' : List ℕ) (s s' : ℕ) → AlternativeText ps u → AlternativeText qs u' → EndsParts s → EndsParts s'
    → u ++ s ∷ v ≡ u' ++ s' ∷ v' → (ps ≡ qs) × (s ∷ v ≡ s' ∷ v')
parts_cut [] [] u u' v v' s s' h h' k k' e = (refl, rw (h, h') at e)
parts_cut [] (q ∷ qs) u u' v v' s s' h h' k k' e = absurd (no_part q h'.0 (h'.1 ++ s' ∷ v') v s h'.3 k (rw (h, h'.2, append_assoc h'.0 h'.1 (s' ∷ v')) at e))
parts_cut (p ∷ ps) [] u u' v v' s s' h h' k k' e = absurd (no_part p h.0 (h.1 ++ s ∷ v) v' s' h.3 k' (sym (rw (h.2, h', append_assoc h.0 h.1 (s ∷ v)) at e)))
parts_cut (p ∷ ps) (q ∷ qs) u u' v v' s s' h h' k k' e =
    let one = atom_cuts p q h.0 h'.0 (h.1 ++ s ∷ v) (h'.1 ++ s' ∷ v') h.3 h'.3
    (rw (h.2, h'.2, append_assoc h.0 h.1 (s ∷ v), append_assoc h'.0 h'.1 (s' ∷ v')) at e) in
    let more = parts_cut ps qs h.1 h'.1 v v' s s' h.4 h'.4 k k' one.1 in
    (cc (one.0, more.0), more.1)

-- behind an alternative stands a bar or the end of the list
bars_begin : (as' : List (List Atom)) (u v : List ℕ) → AlternativesText (124 ∷ []) as' u → (s : ℕ) × (w : List ℕ) × (u ++ 41 ∷ v ≡ s ∷ w) × EndsParts s
bars_begin [] u v h = (41, v, rw h refl, ends_close)
bars_begin (a ∷ as') u v h = (124, (h.0 ++ h.1) ++ 41 ∷ v, rw h.2 refl, ends_bar)

-- alternatives, up to the end of the list
alternatives_cut : (sign : ℕ) (as' bs' : List (List Atom)) (u u' v v' : List ℕ) → (sign ≡ 41 → ⊥) → AlternativesText (sign ∷ []) as' u
    → AlternativesText (sign ∷ []) bs' u' → u ++ 41 ∷ v ≡ u' ++ 41 ∷ v' → (as' ≡ bs') × (v ≡ v')
alternatives_cut sign [] [] u u' v v' k h h' e = (refl, cut_front (41 ∷ []) v v' (rw (h, h') at e))
alternatives_cut sign [] (b ∷ bs') u u' v v' k h h' e = absurd (k (first_is _ _ _ _ (sym (rw (h, h'.2) at e))))
alternatives_cut sign (a ∷ as') [] u u' v v' k h h' e = absurd (k (first_is _ _ _ _ (rw (h.2, h') at e)))
alternatives_cut sign (a ∷ as') (b ∷ bs') u u' v v' k h h' e =
    let s = bars_begin as' h.1 v h.5 in
    let s' = bars_begin bs' h'.1 v' h'.5 in
    let inside : h.0 ++ (h.1 ++ 41 ∷ v) ≡ h'.0 ++ (h'.1 ++ 41 ∷ v') =
    sym (append_assoc h.0 h.1 (41 ∷ v)) ∙ cut_front (sign ∷ []) _ _ (rw (h.2, h'.2) at e) ∙ append_assoc h'.0 h'.1 (41 ∷ v') in
    let one = parts_cut a b h.0 h'.0 s.1 s'.1 s.0 s'.0 h.4 h'.4 s.3 s'.3 (rw (s.2, s'.2) at inside) in
    let more = alternatives_cut 124 as' bs' h.1 h'.1 v v' (λ q. omega arith) h.5 h'.5 (s.2 ∙ one.1 ∙ sym s'.2) in
    (cc (one.0, more.0), more.1)

list_cuts : (as' bs' : List (List Atom)) (u u' v v' : List ℕ) → ListText as' u → ListText bs' u' → u ++ v ≡ u' ++ v' → (as' ≡ bs') × (v ≡ v')
list_cuts as' bs' u u' v v' h h' e =
    alternatives_cut 40 as' bs' h.inside h'.inside v v' (λ q. omega arith) h.is_inside h'.is_inside
    (sym (append_assoc h.inside (41 ∷ []) v) ∙ rw (h.text, h'.text) at e ∙ append_assoc h'.inside (41 ∷ []) v')

-- items

bracket_cuts : (p q : Atom) (u u' v v' : List ℕ) → AtomText p u → AtomText q u' → u ++ v ≡ u' ++ v' → (item_of_atom p ≡ item_of_atom q) × (v ≡ v')
bracket_cuts p q u u' v v' h h' e = let cut = atom_cuts p q u u' v v' h h' e in (ap item_of_atom cut.0, cut.1)

item_cuts : (i j : Item) (u u' v v' : List ℕ) → ItemText i u → ItemText j u' → u ++ v ≡ u' ++ v' → (i ≡ j) × (v ≡ v')
item_cuts (item.Byte b) (item.Byte c) u u' v v' h h' e = bracket_cuts (atom.Byte b) (atom.Byte c) u u' v v' h h' e
item_cuts item.Any item.Any u u' v v' h h' e = (refl, cut_front (63 ∷ 63 ∷ []) v v' (rw (h, h') at e))
item_cuts (item.Gap least max) (item.Gap least' max') u u' v v' h h' e = let cut = gap_cuts least least' max max' u u' v v' h h' e in (cc (cut.0, cut.1), cut.2)
item_cuts (item.Alt as') (item.Alt bs') u u' v v' h h' e = let cut = list_cuts as' bs' u u' v v' h h' e in
    (ap (λ (x : List (List Atom)). item.Alt x) cut.0, cut.1)
item_cuts (item.Range a b) (item.Range c d) u u' v v' h h' e = bracket_cuts (atom.Range a b) (atom.Range c d) u u' v v' h h' e
item_cuts (item.Range a b) (item.Not c) u u' v v' h h' e = bracket_cuts (atom.Range a b) (atom.Not c) u u' v v' h h' e
item_cuts (item.Range a b) (item.NotRange c d) u u' v v' h h' e = bracket_cuts (atom.Range a b) (atom.NotRange c d) u u' v v' h h' e
item_cuts (item.Not a) (item.Range c d) u u' v v' h h' e = bracket_cuts (atom.Not a) (atom.Range c d) u u' v v' h h' e
item_cuts (item.Not a) (item.Not c) u u' v v' h h' e = bracket_cuts (atom.Not a) (atom.Not c) u u' v v' h h' e
item_cuts (item.Not a) (item.NotRange c d) u u' v v' h h' e = bracket_cuts (atom.Not a) (atom.NotRange c d) u u' v v' h h' e
item_cuts (item.NotRange a b) (item.Range c d) u u' v v' h h' e = bracket_cuts (atom.NotRange a b) (atom.Range c d) u u' v v' h h' e
item_cuts (item.NotRange a b) (item.Not c) u u' v v' h h' e = bracket_cuts (atom.NotRange a b) (atom.Not c) u u' v v' h h' e
item_cuts (item.NotRange a b) (item.NotRange c d) u u' v v' h h' e = bracket_cuts (atom.NotRange a b) (atom.NotRange c d) u u' v v' h h' e
item_cuts i j u u' v v' h h' e = let same = apart i j u u' v v' h h' e in absurd (omega arith)

-- a text spells one list of items alone
pub spells_one : (e e' : List Item) (t : List ℕ) → Spells e t → Spells e' t → e ≡ e'
spells_one [] [] t h h' = refl
spells_one [] (i ∷ e') t h h' = let some = some_items (i ∷ e') [] t (omega arith) h' h in absurd (omega arith)
spells_one (i ∷ e) [] t h h' = let some = some_items (i ∷ e) [] t (omega arith) h h' in absurd (omega arith)
spells_one (i ∷ e) (j ∷ e') t h h' =
    let one = item_cuts i j h.0 h'.0 h.1 h'.1 h.3 h'.3 (sym h.2 ∙ h'.2) in
    let more = spells_one e e' h.1 h.4 (rw one.1 h'.4) in
    cc (one.0, more)
