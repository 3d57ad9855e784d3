use Rattle.std.proofs.Common.{◌≡◌, take}
use Rattle.std.specs.Prelude.{flat_map}
use Rattle.csv.specs.Writing.{default_writer, row_text}
use Rattle.sig_engines.specs.FileTexts.{hit_record}
use Rattle.sig_engines.proofs.file_text.records_of_file.Given as goal

-- the records of the hits so far
abbrev pub invariant-loop-hit : goal.invariant-loop-hit
invariant-loop-hit l = l.text.items ≡ flat_map (λ hit. row_text default_writer (hit_record l.names l.name l.table hit)) (take l.hit-index l.hits)
