-- How many files came to what, and how many bytes they have.
use Rattle.std.specs.Prelude.{◌==◌, ◌+◌, ◌-◌, ◌^◌, ℕ, List, ◌++◌, codes, if◌then◌else◌, min}
use Rattle.std.specs.Fmt.{decimal}
use Rattle.sig_engines.specs.declared.tally.Tally.{Tally}

-- one number and another, as far as 64 bits go
abbrev pub plus : ℕ → ℕ → ℕ
plus a b = min (a + b) (2 ^ 64 - 1)

-- no file yet
abbrev pub none_yet : Tally
none_yet = record { identified = 0; several = 0; none = 0; failed = 0; bytes = 0 }

-- one more file, which left no format, one or several
abbrev pub with_none : Tally → ℕ → Tally
with_none tally bytes = record { identified = tally.identified; several = tally.several; none = plus tally.none 1; failed = tally.failed; bytes = plus tally.bytes bytes }

abbrev pub with_one : Tally → ℕ → Tally
with_one tally bytes = record { identified = plus tally.identified 1; several = tally.several; none = tally.none; failed = tally.failed; bytes = plus tally.bytes bytes }

abbrev pub with_several : Tally → ℕ → Tally
with_several tally bytes = record { identified = tally.identified; several = plus tally.several 1; none = tally.none; failed = tally.failed; bytes = plus tally.bytes bytes }

-- one more file with so many hits and bytes
abbrev pub with_file : Tally → ℕ → ℕ → Tally
with_file tally hits bytes = if hits == 0 then with_none tally bytes else (if hits == 1 then with_one tally bytes else with_several tally bytes)

-- one more fault
abbrev pub with_fault : Tally → Tally
with_fault tally = record { identified = tally.identified; several = tally.several; none = tally.none; failed = plus tally.failed 1; bytes = tally.bytes }

-- how many files are done
abbrev pub done_of : Tally → ℕ
done_of tally = plus (plus (plus tally.identified tally.several) tally.none) tally.failed

-- the last line
abbrev pub summary_line : Tally → List ℕ
summary_line tally =
    (codes "files " ++ decimal (done_of tally)) ++ (codes " identified " ++ decimal tally.identified) ++ (codes " several " ++ decimal tally.several) ++ (codes " none " ++ decimal tally.none) ++ (codes " failed " ++ decimal tally.failed) ++ (codes " bytes " ++ decimal tally.bytes) ++ codes "\n"
