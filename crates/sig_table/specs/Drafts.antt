-- What a draft keeps.
use Rattle.std.specs.Prelude.{◌≡◌, [], map}
use Rattle.sig_table.specs.declared.draft.Draft.TheInside.{Inside}
use Rattle.sig_table.specs.Views.{TableView}
use Rattle.sig_table.specs.Tables.{HasAllSignatures, IsTable}

-- the rows so far as a table
abbrev pub rows_so_far : Inside → TableView
rows_so_far d = record { formats = d.puids.keys; signatures = d.signatures.items; priorities = [] }

-- the limits of a table in which each format has a signature, and the numbers are those of the signatures
pub record IsDraft (d : Inside) : Type 0 where
  pub table : IsTable (rows_so_far d)
  pub has_all : HasAllSignatures (rows_so_far d)
  pub numbers : d.numbers.keys ≡ map (λ s. s.number) d.signatures.items
