-- The lengths of parts.
use Rattle.std.specs.Prelude.{ℕ, length}
use Rattle.sig_expr.specs.declared.item.Atom.{Atom}
use Rattle.sig_expr.specs.declared.item.Atom.TheVariants as atom

-- how many bytes each word of the part has
abbrev pub part_len : Atom → ℕ
part_len (atom.Byte b) = 1
part_len (atom.Range a b) = length a
part_len (atom.Not a) = length a
part_len (atom.NotRange a b) = length a
