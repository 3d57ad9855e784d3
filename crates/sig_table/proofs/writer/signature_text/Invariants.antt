use Rattle.std.proofs.Common.{◌≡◌, ◌++◌, take}
use Rattle.std.specs.List.{flat_map}
use Rattle.csv.specs.Writing.{default_writer, row_text}
use Rattle.sig_table.specs.Canonical.{records_of_signature}
use Rattle.sig_table.proofs.writer.signature_text.Given as goal

-- the header, and the lines of each signature so far
abbrev pub invariant-loop-signature : goal.invariant-loop-signature
invariant-loop-signature l = l.lines ≡ l.initial.lines ++ flat_map (row_text default_writer)
    (flat_map (records_of_signature l.table.formats) (take l.signature-index l.table.signatures))
