-- What the error output shows while many files are matched: how many are done.
use Rattle.std.specs.Prelude.{◌==◌, ◌||◌, ◌%◌, ℕ, nat_lt, Bool, true, false, List, [], ◌++◌, codes, if◌then◌else◌}
use Rattle.std.specs.Fmt.{decimal}

-- one report, written over the one before
abbrev pub done_line : ℕ → List ℕ
done_line done = codes "\r" ++ decimal done ++ codes " files"

-- whether so many are reported: each of the first hundred, and then each hundredth
abbrev pub is_shown : ℕ → Bool
is_shown done = nat_lt done 100 || (done % 100 == 0)

-- what is shown behind a file without a fault, and first of all
abbrev pub done_text : Bool → ℕ → List ℕ
done_text false done = []
done_text true done = if is_shown done then done_line done else []

-- what is told of a file with a fault: its line, and with reports an end of the last one before it and one behind it
abbrev pub told_text : Bool → ℕ → List ℕ → List ℕ
told_text false done line = line
told_text true done line = codes "\n" ++ line ++ done_line done

-- what ends the reports
abbrev pub end_text : Bool → List ℕ
end_text false = []
end_text true = codes "\n"
