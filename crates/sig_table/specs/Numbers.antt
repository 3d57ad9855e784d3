-- The numbers that fields write.
use Rattle.std.specs.Prelude.{ℕ, Bool, ◌==◌, ◌&&◌, nat_lt, List, length, slice_index, Option, Some, None, if◌then◌else◌}
use Rattle.std.specs.Str.{all_ascii_digits}
use Rattle.std.specs.Str.Parse.{digits_value}

-- the number that the text writes, where it has digits alone
abbrev pub digits_number : List ℕ → Option ℕ
digits_number text = if all_ascii_digits text then Some (digits_value 10 text) else None

-- a 0 with more digits behind it
abbrev pub has_leading_zero : List ℕ → Bool
has_leading_zero text = (slice_index text 0 == 48) && nat_lt 1 (length text)

-- the number that one to so many digits with no leading zero write
unfoldable pub number_of : ℕ → List ℕ → Option ℕ
number_of most text =
    if length text == 0 then None
    else (if nat_lt most (length text) then None
    else (if has_leading_zero text then None
    else digits_number text))

-- the same of one to nine digits, the first not 0
unfoldable pub positive_of : List ℕ → Option ℕ
positive_of text = if slice_index text 0 == 48 then None else number_of 9 text
