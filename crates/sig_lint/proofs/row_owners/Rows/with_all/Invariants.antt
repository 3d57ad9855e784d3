use Rattle.std.proofs.Common.{◌≡◌, map, take}
use Rattle.std.specs.Prelude.{fold}
use Rattle.sig_lint.specs.EqualRows.{placed, with_row}
use Rattle.sig_lint.proofs.row_owners.Rows.with_all.Given as goal

-- the rows with those of the signature so far
abbrev pub invariant-loop-sequence : goal.invariant-loop-sequence
invariant-loop-sequence l = l.rows ≡ fold with_row l.initial.rows (map (placed l.owner) (take l.sequence-index l.sequences))
