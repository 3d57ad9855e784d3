use Rattle.sig_scan.proofs.Common.{None, Option, Some, subst, sym, ℕ, List, All, ◌≡◌, IfSome, Atom, Item, Word, HasLength, parts_length}
use Rattle.sig_expr.specs.declared.item.Item.TheVariants as item
use Rattle.sig_scan.proofs.LengthLemmas.{HasLength-Alt}
use Rattle.sig_scan.proofs.lengths.fixed_length.Goals as goal

of_any : (alternatives : List (List Atom)) (found : Option ℕ) → IfSome found (λ n. All (λ a. parts_length a ≡ n) alternatives)
    → IfSome found (λ n. HasLength (Word (item.Alt alternatives)) n)
of_any alternatives None all = tt
of_any alternatives (Some n) all = HasLength-Alt alternatives n all

pub returns-in-Alt : goal.returns-in-Alt
returns-in-Alt c = subst (λ (i : Item). IfSome c.fixed_length_of_any.result (λ n. HasLength (Word i) n)) (sym c.in-Alt.is)
    (of_any c.in-Alt.alternatives c.fixed_length_of_any.result c.fixed_length_of_any.ensures)
