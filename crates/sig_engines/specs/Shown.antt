-- What is shown of a table.
use Rattle.std.specs.Prelude.{ℕ, List, ◌∷◌, ◌++◌}
use Rattle.sig_table.specs.Canonical.{priority_csv, signature_csv}
use Rattle.sig_table.specs.Views.{TableView}

-- the canonical signature file, an empty line, and the canonical priority file
abbrev pub show_text : TableView → List ℕ
show_text table = signature_csv table ++ 10 ∷ priority_csv table
