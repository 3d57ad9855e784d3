use Rattle.std.proofs.Common.{◌≡◌, take}
use Rattle.std.specs.Prelude.{flat_map}
use Rattle.sig_engines.specs.FileTexts.{named_line}
use Rattle.sig_engines.proofs.file_text.named_lines.Given as goal

-- the lines of the hits so far
abbrev pub invariant-loop-hit : goal.invariant-loop-hit
invariant-loop-hit l = l.text.items ≡ flat_map (named_line l.names l.name l.table) (take l.hit-index l.hits)
