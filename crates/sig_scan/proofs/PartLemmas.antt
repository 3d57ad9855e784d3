-- How long the words of a part are.
use Rattle.sig_scan.proofs.Common.{◌≡◌, ℕ, List, length, ap, arith, Atom, PartWord, part_length}
use Rattle.sig_expr.specs.declared.item.Atom.TheVariants as atom

-- how long the words of a part are
pub PartWord-length : (p : Atom) (w : List ℕ) → PartWord p w → length w ≡ part_length p
PartWord-length (atom.Byte b) w h = ap length h
PartWord-length _ w h = omega arith
