use Rattle.std.proofs.Common.{◌≡◌, map}
use Rattle.std.specs.List.{range_with_len}
use Rattle.sig_engines.specs.Notes.{lines_in}
use Rattle.sig_engines.proofs.summary.lines_of_formats.Given as goal

abbrev pub invariant-loop-format : goal.invariant-loop-format
invariant-loop-format l = l.lines.items ≡ map (lines_in l.notes) (range_with_len 0 l.format)
