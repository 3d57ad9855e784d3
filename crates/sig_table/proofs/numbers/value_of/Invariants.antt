use Rattle.std.proofs.Common.{◌≡◌, ℕ, ◌<◌, take, get_or}
use Rattle.std.specs.Int.{IsInRange}
use Rattle.std.specs.Str.Parse.{digits_value}
use Rattle.sig_table.proofs.numbers.value_of.Given as goal

-- the value of the digits so far, all of which are digits
abbrev pub invariant-loop-b : goal.invariant-loop-b
invariant-loop-b l = record {
  value : l.value ≡ digits_value 10 (take l.b-index l.text);
  digits : (k : ℕ) → k < l.b-index → IsInRange 48 57 (get_or l.text k 0);
}
