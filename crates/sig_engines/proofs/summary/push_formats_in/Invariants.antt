use Rattle.std.proofs.Common.{◌≡◌, ◌++◌, string_bytes}
use Rattle.std.specs.Prelude.{flat_map}
use Rattle.std.specs.List.{filter, range_with_len}
use Rattle.sig_engines.specs.Notes.{lines_in, summary_line}
use Rattle.std.specs.Prelude.{◌==◌}
use Rattle.sig_engines.proofs.summary.push_formats_in.Given as goal

-- the lines of the formats so far
abbrev pub invariant-loop-format : goal.invariant-loop-format
invariant-loop-format l =
    string_bytes l.text ≡ string_bytes l.fn.text ++ flat_map (summary_line l.table l.notes)
    (filter (λ format. lines_in l.notes format == l.count) (range_with_len 0 l.format))
