-- The passes over the bytes of a text.
use Rattle.std.specs.Prelude.{ℕ, ◌+◌, if◌then◌else◌, List, [], ◌∷◌, Option, Some, None}
use Rattle.sig_expr.specs.declared.lexer.State.{State}
use Rattle.sig_expr.specs.declared.lexer.Step.{Step}
use Rattle.sig_expr.specs.declared.lexer.Step.TheVariants as step
use Rattle.sig_expr.specs.declared.item.Item.{Item}
use Rattle.sig_expr.specs.declared.error.ExprError.{ExprError}
use Rattle.sig_expr.specs.Reading.{feed_of, next_of, is_end_of, is_between, start}
use Rattle.sig_expr.specs.Faults.{fault_of}
use Rattle.sig_expr.specs.Built.{Built, fresh, built_of}

-- the place of a refused byte, or what is said of the rest
abbrev pub stop_at : Step → ℕ → Option ℕ → Option ℕ
stop_at step.Refused n rest = Some n
stop_at (step.More k) n rest = rest
stop_at (step.Whole p) n rest = rest

-- where no expression goes on, from the state on, the next byte being that at n
unfoldable pub stop_from : State → ℕ → List ℕ → Option ℕ
stop_from s n [] = if is_end_of s then None else Some n
stop_from s n (b ∷ t) = stop_at (feed_of s b) n (stop_from (next_of s (feed_of s b)) (n + 1) t)

-- where no expression goes on
abbrev pub stop_of : List ℕ → Option ℕ
stop_of t = stop_from start 0 t

-- where the piece of the next byte begins, the byte being that at n
abbrev pub opened_of : State → ℕ → ℕ → ℕ
opened_of s opened n = if is_between s.token then n else opened

-- the fault, or what is said of the rest
abbrev pub or_else : Option ExprError → Option ExprError → Option ExprError
or_else None rest = rest
or_else (Some e) rest = Some e

-- the fault of a piece that ends, or what is said of the rest
abbrev pub fault_at : Step → ℕ → Option ExprError → Option ExprError
fault_at step.Refused n rest = rest
fault_at (step.More k) n rest = rest
fault_at (step.Whole p) n rest = or_else (fault_of p n) rest

-- the first fault of a gap or a bracket
unfoldable pub fault_from : State → ℕ → ℕ → List ℕ → Option ExprError
fault_from s opened n [] = None
fault_from s opened n (b ∷ t) =
    fault_at (feed_of s b) (opened_of s opened n) (fault_from (next_of s (feed_of s b)) (opened_of s opened n) (n + 1) t)

-- the first fault of the text's gaps and brackets
abbrev pub fault_in : List ℕ → Option ExprError
fault_in t = fault_from start 0 0 t

-- what is built behind a byte
abbrev pub built_step : Built → Step → Built
built_step u step.Refused = u
built_step u (step.More k) = u
built_step u (step.Whole p) = built_of u p

-- what is built of the rest
unfoldable pub built_from : Built → State → List ℕ → Built
built_from u s [] = u
built_from u s (b ∷ t) = built_from (built_step u (feed_of s b)) (next_of s (feed_of s b)) t

-- the items of a text
abbrev pub items_of : List ℕ → List Item
items_of t = (built_from fresh start t).items
