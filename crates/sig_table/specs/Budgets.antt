-- What remains of a budget.
use Rattle.std.specs.Prelude.{ℕ, ◌-◌, nat_lt, if◌then◌else◌, Option, Some, None}

-- the rest, if there is enough
abbrev pub minus : ℕ → ℕ → Option ℕ
minus budget n = if nat_lt budget n then None else Some (budget - n)
