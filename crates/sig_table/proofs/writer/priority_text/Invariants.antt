use Rattle.std.proofs.Common.{◌≡◌, ◌++◌, map, take}
use Rattle.std.specs.List.{flat_map}
use Rattle.csv.specs.Writing.{default_writer, row_text}
use Rattle.sig_table.specs.Canonical.{pair_record}
use Rattle.sig_table.proofs.writer.priority_text.Given as goal

-- the header, and a line for each pair so far
abbrev pub invariant-loop-pair : goal.invariant-loop-pair
invariant-loop-pair l = l.lines ≡ l.initial.lines ++ flat_map (row_text default_writer) (map (pair_record l.formats) (take l.pair-index l.pairs))
