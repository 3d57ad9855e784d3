-- Bytes at the front of a sequence stand in each file in which it stands.
use Rattle.std.proofs.Common.{◌≡◌, ℕ, ◌+◌, ◌<◌, ◌≤◌, List, [], ◌∷◌, ◌++◌, All, Some, get_or, length, slice_get, suc, subst, sym, take, zero, ap, ◌∙◌}
use Rattle.std.proofs.Common.{arith, refl}
use Rattle.std.proofs.lemmas.List.{get_or-append-add, get_or_append_left, length-append}
use Rattle.std.proofs.lemmas.List.Elements.{All-head, All-tail}
use Rattle.sig_expr.specs.declared.item.Item.{Item}
use Rattle.sig_expr.specs.declared.item.Item.TheVariants as item
use Rattle.sig_expr.specs.Words.{Lang, Word}
use Rattle.sig_table.specs.declared.position.Position.TheVariants as position
use Rattle.sig_table.specs.Standing.{Stands, StandsAt}
use Rattle.sig_table.specs.Views.{SequenceView}
use Rattle.sig_find.specs.Clashes.{AreDifferentBytes, IsOneByte, StandsFrom}

one_byte_length : (i : Item) (u : List ℕ) → IsOneByte i → Word i u → length u ≡ 1
one_byte_length (item.Byte b) u one word = ap length word
one_byte_length item.Any u one word = word.0
one_byte_length (item.Gap min max) u one word = absurd one
one_byte_length (item.Alt alternatives) u one word = absurd one
one_byte_length (item.Range a b) u one word = absurd one
one_byte_length (item.Not a) u one word = absurd one
one_byte_length (item.NotRange a b) u one word = absurd one

first_byte : (i : Item) (u v : List ℕ) (b : ℕ) → Some i ≡ Some (item.Byte b) → Word i u → (0 < length (u ++ v)) × (get_or (u ++ v) 0 0 ≡ b)
first_byte i u v b at word =
    let same : i ≡ item.Byte b = cc in
    let is : u ≡ b ∷ [] = subst (λ (j : Item). Word j u) same word in
    subst (λ (l : List ℕ). (0 < length (l ++ v)) × (get_or (l ++ v) 0 0 ≡ b)) (sym is) (omega arith, refl)

-- a byte behind bytes and `??` stands as far behind the begin of each word
front_byte : (items : List Item) (w : List ℕ) (k n b : ℕ) → k ≤ n → All IsOneByte (take n items) → slice_get items k ≡ Some (item.Byte b) → Lang items w
    → (k < length w) × (get_or w k 0 ≡ b)
front_byte [] w k n b below front at lang = absurd (cc)
front_byte (i ∷ items) w zero n b below front at (u, v, is, word, rest) =
    subst (λ (l : List ℕ). (0 < length l) × (get_or l 0 0 ≡ b)) (sym is) (first_byte i u v b at word)
front_byte (i ∷ items) w (suc k) zero b below front at (u, v, is, word, rest) = absurd (omega arith)
front_byte (i ∷ items) w (suc k) (suc n) b below front at (u, v, is, word, rest) =
    let one : length u ≡ 1 = one_byte_length i u (All-head IsOneByte i (take n items) front) word in
    let later = front_byte items v k n b (omega arith) (All-tail IsOneByte i (take n items) front) at rest in
    let long = length-append u v in
    let within = later.0 in
    let same : length u + k ≡ suc k = omega arith in
    let read : get_or (u ++ v) (suc k) 0 ≡ b = subst (λ m. get_or (u ++ v) m 0 ≡ b) same (get_or-append-add u v k 0 ∙ later.1) in
    subst (λ (l : List ℕ). (suc k < length l) × (get_or l (suc k) 0 ≡ b)) (sym is) (omega arith, read)

stands_byte : (items : List Item) (file : List ℕ) (at k n b : ℕ) → k ≤ n → All IsOneByte (take n items) → slice_get items k ≡ Some (item.Byte b)
    → StandsFrom at items file → get_or file (at + k) 0 ≡ b
stands_byte items file at k n b below front is (c, begins) =
    let found = front_byte items c.word k n b below front is c.is_word in
    let within = found.0 in
    let long = length-append c.front c.word in
    let in_word : get_or (c.front ++ c.word) (length c.front + k) 0 ≡ b = get_or-append-add c.front c.word k 0 ∙ found.1 in
    let in_file : get_or ((c.front ++ c.word) ++ c.back) (length c.front + k) 0 ≡ b =
    get_or_append_left (c.front ++ c.word) c.back 0 (length c.front + k) (omega arith) ∙ in_word in
    subst (λ m. get_or file (m + k) 0 ≡ b) begins (subst (λ (l : List ℕ). get_or l (length c.front + k) 0 ≡ b) (sym c.cut) in_file)

pub different_never_stand : (x y : List Item) (a b m n k l : ℕ) (i j : Item) (file : List ℕ) → k ≤ m → l ≤ n → a + k ≡ b + l → All IsOneByte (take m x)
    → All IsOneByte (take n y) → slice_get x k ≡ Some i → slice_get y l ≡ Some j
    → AreDifferentBytes i j → StandsFrom a x file → ¬ StandsFrom b y file
different_never_stand x y a b m n k l i j file below_m below_n same_place front_x front_y at_x at_y (c, d, is_c, is_d, differ) first second =
    let read_c : get_or file (a + k) 0 ≡ c = stands_byte x file a k m c below_m front_x (at_x ∙ ap Some is_c) first in
    let read_d : get_or file (b + l) 0 ≡ d = stands_byte y file b l n d below_n front_y (at_y ∙ ap Some is_d) second in
    differ (sym read_c ∙ ap (λ p. get_or file p 0) same_place ∙ read_d)

-- a sequence with one offset begins there
pub begins_at : (s : SequenceView) (min max : ℕ) (file : List ℕ) → s.position ≡ position.Bof min max → min ≡ max → Stands s file → StandsFrom min s.items file
begins_at s min max file is same stands =
    let at : StandsAt (position.Bof min max) s.items file = subst (λ p. StandsAt p s.items file) is stands in
    let low = at.1 in
    let high = at.2 in
    (at.0, omega arith)
