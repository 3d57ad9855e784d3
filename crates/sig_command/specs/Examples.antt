-- Lines of words, and what their arguments are.
use Rattle.std.specs.Prelude.{ℕ, Bool, List, [], ◌∷◌, None, Option, Some, codes, nat_eq}
use Rattle.std.specs.List.{slice_split}
use Rattle.clap.specs.Words.{Kinds, Text}
use Rattle.sig_command.specs.CommandLine.{all_named, fault_of_words, first_named, one_named, takes_words}

-- the words of a line, between blanks
abbrev pub words_of : List ℕ → List Text
words_of line = slice_split (λ c. nat_eq c 32) line

-- whether clap takes the words of a line, and the faults that it finds in them
abbrev pub takes_line : List ℕ → Bool
takes_line line = takes_words (words_of line)

abbrev pub fault_of_line : List ℕ → Kinds
fault_of_line line = fault_of_words (words_of line)

-- the files of the table that the words of a line name
abbrev pub table_in : List ℕ → Option Text × Option Text
table_in line = (first_named (codes "SIGS") (words_of line), first_named (codes "PRIOS") (words_of line))

-- a line, the name of an argument, and a value
abbrev pub Example : Type 0 → Type 0
Example V = List ℕ × Text × V

-- the first value of the argument in the line, what is read of it, and all its values
abbrev pub first_in : Example (Option Text) → Option Text
first_in example = first_named example.1 (words_of example.0)

abbrev pub one_in : Example (Option Text) → Option Text
one_in example = one_named example.1 (words_of example.0)

abbrev pub all_in : Example (Option (List Text)) → Option (List Text)
all_in example = all_named example.1 (words_of example.0)

-- the value that stands in an example
abbrev pub value_of : {V : Type 0} → Example V → V
value_of example = example.2

-- ---- with a file of priorities

-- lines that ask for something
abbrev pub taken_lines : List (List ℕ)
taken_lines =
    codes "show a b"
    ∷ codes "lint a b"
    ∷ codes "match a b c"
    ∷ codes "match a b c d"
    ∷ codes "match --all a b c"
    ∷ codes "match --with-names a b c"
    ∷ codes "match --csv -0 --files-from - a b"
    ∷ codes "find --out a b c"
    ∷ codes "find --budget 100000 --out a b c"
    ∷ codes "find --progress --budget 100000 --out a b c"
    ∷ codes "conflicts a b"
    ∷ codes "conflicts --budget 100000 a b"
    ∷ codes "conflicts --progress --budget 100000 a b"
    ∷ codes "conflicts --only fmt/1 --class a b"
    ∷ codes "dead a b"
    ∷ codes "check a b c"
    ∷ codes "witness a b c"
    ∷ []

-- lines that name a and b as the files of the table
abbrev pub table_lines : List (List ℕ)
table_lines =
    codes "show a b"
    ∷ codes "lint a b"
    ∷ codes "match a b c"
    ∷ codes "match a b -- --no-priorities"
    ∷ codes "find --budget 100000 --out c a b"
    ∷ codes "conflicts --budget 100000 --hex a b"
    ∷ codes "dead --hex a b"
    ∷ codes "check a b c"
    ∷ codes "witness a b c"
    ∷ []

-- the files that are matched
abbrev pub file_examples : List (Example (Option (List Text)))
file_examples =
    (codes "match a b c", codes "FILE", Some (words_of (codes "c")))
    ∷ (codes "match --all a b c d", codes "FILE", Some (words_of (codes "c d")))
    ∷ (codes "match --with-names a b c", codes "FILE", Some (words_of (codes "c")))
    ∷ (codes "match --files-from c a b", codes "FILE", None)
    ∷ (codes "match a b -- --no-priorities", codes "FILE", Some (words_of (codes "--no-priorities")))
    ∷ []

-- arguments with one value
abbrev pub value_examples : List (Example (Option Text))
value_examples =
    (codes "match --files-from c a b", codes "NAMES", Some (codes "c"))
    ∷ (codes "match --names d a b c", codes "FORMATS", Some (codes "d"))
    ∷ (codes "find --budget 100000 --out c a b", codes "OUT", Some (codes "c"))
    ∷ (codes "conflicts --only fmt/1 --class a b", codes "PUID", Some (codes "fmt/1"))
    ∷ (codes "conflicts --hex a b", codes "PUID", None)
    ∷ (codes "check a b c", codes "CERT", Some (codes "c"))
    ∷ (codes "witness a b c", codes "FILE", Some (codes "c"))
    ∷ []

-- flags, and numbers, with what is read of one that is left out
abbrev pub read_examples : List (Example (Option Text))
read_examples =
    (codes "match --all a b c d", codes "all", Some (codes "true"))
    ∷ (codes "match a b c", codes "all", Some (codes "false"))
    ∷ (codes "match --with-names a b c", codes "with-names", Some (codes "true"))
    ∷ (codes "match --all a b c", codes "with-names", Some (codes "false"))
    ∷ (codes "match --csv a b c", codes "csv", Some (codes "true"))
    ∷ (codes "match -0 --files-from c a b", codes "null", Some (codes "true"))
    ∷ (codes "find --budget 5 --out c a b", codes "N", Some (codes "5"))
    ∷ (codes "find --out c a b", codes "N", Some (codes "100000"))
    ∷ (codes "find --progress --budget 5 --out c a b", codes "progress", Some (codes "true"))
    ∷ (codes "conflicts --budget 5 --hex a b", codes "N", Some (codes "5"))
    ∷ (codes "conflicts a b", codes "N", Some (codes "100000"))
    ∷ (codes "conflicts --budget 5 --hex a b", codes "hex", Some (codes "true"))
    ∷ (codes "conflicts --only fmt/1 --class a b", codes "class", Some (codes "true"))
    ∷ (codes "conflicts --hex a b", codes "class", Some (codes "false"))
    ∷ (codes "dead --hex a b", codes "N", Some (codes "100000"))
    ∷ []

-- ---- with the flag `--no-priorities`

-- lines that ask for something, and name a as the signatures
abbrev pub lone_lines : List (List ℕ)
lone_lines =
    codes "show --no-priorities a"
    ∷ codes "show a --no-priorities"
    ∷ codes "lint --no-priorities a"
    ∷ codes "match --no-priorities a b c"
    ∷ codes "match --no-priorities --files-from b a"
    ∷ codes "find --no-priorities --out b a"
    ∷ codes "conflicts --priorities b --no-priorities a"
    ∷ codes "dead --no-priorities a"
    ∷ codes "check --no-priorities a b"
    ∷ codes "witness --no-priorities a b"
    ∷ []

-- the files that are matched
abbrev pub lone_file_examples : List (Example (Option (List Text)))
lone_file_examples = (codes "match --no-priorities a b c", codes "FILE", Some (words_of (codes "b c"))) ∷ []

-- arguments with one value
abbrev pub lone_value_examples : List (Example (Option Text))
lone_value_examples =
    (codes "match --no-priorities --files-from b a", codes "NAMES", Some (codes "b"))
    ∷ (codes "check --no-priorities a b", codes "CERT", Some (codes "b"))
    ∷ (codes "witness --no-priorities a b", codes "FILE", Some (codes "b"))
    ∷ []
