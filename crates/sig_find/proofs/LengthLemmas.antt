-- How short a file can be in which sequences stand.
use Rattle.std.proofs.Common.{◌≡◌, ℕ, ◌+◌, ◌≤◌, List, [], ◌∷◌, ◌++◌, All, length, ap, arith, ◌∙◌}
use Rattle.std.proofs.lemmas.List.{length-append}
use Rattle.std.proofs.lemmas.List.Elements.{All-contains}
use Rattle.std.proofs.lemmas.List.Sums.{sum_by-cons}
use Rattle.sig_expr.specs.declared.item.Atom.{Atom}
use Rattle.sig_expr.specs.declared.item.Atom.TheVariants as atom
use Rattle.sig_expr.specs.declared.item.Item.{Item}
use Rattle.sig_expr.specs.declared.item.Item.TheVariants as item
use Rattle.sig_expr.specs.Words.{AlternativeWord, PartWord, Word}
use Rattle.sig_table.specs.declared.position.Position.TheVariants as position
use Rattle.sig_table.specs.Standing.{Cut, StandsAt}
use Rattle.sig_find.specs.Lengths.{IsLeastOfItem, IsLeastOfItems, part_length, parts_length}

length-PartWord : (p : Atom) (w : List ℕ) → PartWord p w → length w ≡ part_length p
length-PartWord (atom.Byte b) w h = ap length h
length-PartWord (atom.Range a b) w h = h.0.0
length-PartWord (atom.Not a) w h = h.0.0
length-PartWord (atom.NotRange a b) w h = h.0.0

length-AlternativeWord : (parts : List Atom) (w : List ℕ) → AlternativeWord parts w → length w ≡ parts_length parts
length-AlternativeWord [] w h = ap length h
length-AlternativeWord (p ∷ parts) w (u, v, is, word, rest) =
    let first = length-PartWord p u word in
    let later = length-AlternativeWord parts v rest in
    let all = sum_by-cons part_length p parts in
    let len = ap length is ∙ length-append u v in
    omega arith

pub alternatives_least : (alternatives : List (List Atom)) (n : ℕ) → All (λ parts. n ≤ parts_length parts) alternatives → (w : List ℕ)
    → Word (item.Alt alternatives) w → n ≤ length w
alternatives_least alternatives n all w word =
    let below = All-contains (λ parts. n ≤ parts_length parts) alternatives word.0 all word.1 in
    let len = length-AlternativeWord word.0 w word.2 in
    omega arith

-- one item in front of others
pub one_more_item : (i : Item) (items : List Item) (first later sum : ℕ) → sum ≤ first + later → IsLeastOfItem i first → IsLeastOfItems items later
    → IsLeastOfItems (i ∷ items) sum
one_more_item i items first later sum is one more w (u, v, cut, word, rest) =
    let front = one u word in
    let back = more v rest in
    let len = ap length cut ∙ length-append u v in
    omega arith

cut_length : (items : List Item) (file : List ℕ) (n : ℕ) (c : Cut items file) → IsLeastOfItems items n → n + length c.front ≤ length file
cut_length items file n c least =
    let word = least c.word c.is_word in
    let whole = ap length c.cut ∙ length-append (c.front ++ c.word) c.back in
    let front = length-append c.front c.word in
    omega arith

cut_back : (items : List Item) (file : List ℕ) (n : ℕ) (c : Cut items file) → IsLeastOfItems items n → n + length c.back ≤ length file
cut_back items file n c least =
    let word = least c.word c.is_word in
    let whole = ap length c.cut ∙ length-append (c.front ++ c.word) c.back in
    let front = length-append c.front c.word in
    omega arith

pub bof_least : (items : List Item) (low high n sum : ℕ) (file : List ℕ) → IsLeastOfItems items n → sum ≤ n + low → StandsAt (position.Bof low high) items file
    → sum ≤ length file
bof_least items low high n sum file least is (c, above, below) = let len = cut_length items file n c least in omega arith

pub eof_least : (items : List Item) (low high n sum : ℕ) (file : List ℕ) → IsLeastOfItems items n → sum ≤ n + low → StandsAt (position.Eof low high) items file
    → sum ≤ length file
eof_least items low high n sum file least is (c, above, below) = let len = cut_back items file n c least in omega arith

pub variable_least : (items : List Item) (n : ℕ) (file : List ℕ) → IsLeastOfItems items n → StandsAt position.Variable items file → n ≤ length file
variable_least items n file least c = let len = cut_length items file n c least in omega arith
