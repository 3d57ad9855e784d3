-- A table with other priorities.
use Rattle.std.specs.Prelude.{ℕ, List}
use Rattle.sig_table.specs.Views.{TableView}

-- the formats and signatures of the table, and these pairs
abbrev pub ranked : TableView → List (ℕ × ℕ) → TableView
ranked table pairs = record table { priorities = pairs }
