-- What a text spells, and why it is refused.
use Rattle.std.specs.Prelude.{◌≡◌, ◌⊎◌, ℕ, nat_lt, if◌then◌else◌, List, length, Option, Some, None, Result, Ok, Err, IsOk}
use Rattle.sig_expr.specs.declared.item.Item.{Item}
use Rattle.sig_expr.specs.declared.error.ExprError.{ExprError}
use Rattle.sig_expr.specs.declared.error.ExprError.TheVariants as error
use Rattle.sig_expr.specs.Passes.{stop_of, fault_in, items_of}

-- the first fault of a gap or a bracket, or else the items
abbrev pub unless_fault : Option ExprError → List Item → Result (List Item) ExprError
unless_fault None items = Ok items
unless_fault (Some fault) items = Err fault

-- the place where no expression goes on, or else the answer
abbrev pub unless_stop : Option ℕ → Result (List Item) ExprError → Result (List Item) ExprError
unless_stop None answer = answer
unless_stop (Some place) answer = Err (error.Syntax place)

-- the items that the text spells, or its first fault
unfoldable pub expr_of : List ℕ → Result (List Item) ExprError
expr_of t = if nat_lt 8192 (length t) then Err error.TooLong else unless_stop (stop_of t) (unless_fault (fault_in t) (items_of t))

-- what is answered is what is expected, or want of memory in the place of the items
abbrev pub Exact : Result (List Item) ExprError → Result (List Item) ExprError → Type 0
Exact (Ok e) expected = expected ≡ Ok e
Exact (Err fault) expected = (expected ≡ Err fault) ⊎ ((fault ≡ error.OutOfMemory) × IsOk expected)
