use Rattle.std.proofs.Common.{◌≡◌, ◌++◌, map, take}
use Rattle.std.specs.List.{flat_map}
use Rattle.csv.specs.Writing.{default_writer, row_text}
use Rattle.sig_table.specs.Canonical.{name_of, sequence_record}
use Rattle.sig_table.proofs.writer.with_signature.Given as goal

-- a line for each sequence so far
abbrev pub invariant-loop-sequence : goal.invariant-loop-sequence
invariant-loop-sequence l = l.lines ≡ l.initial.lines ++ flat_map (row_text default_writer)
    (map (sequence_record (name_of l.formats l.signature.format) l.signature.number) (take l.sequence-index l.signature.sequences))
