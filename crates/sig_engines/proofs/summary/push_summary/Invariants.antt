use Rattle.std.proofs.Common.{◌≡◌, ◌++◌, ◌+◌, ◌-◌, length, string_bytes}
use Rattle.std.specs.Prelude.{flat_map}
use Rattle.sig_engines.specs.Notes.{formats_below, summary_line, summary_text}
use Rattle.sig_engines.proofs.summary.push_summary.Given as goal

-- what is written and the lines of the formats in fewer lines are all
abbrev pub invariant-loop-fewer : goal.invariant-loop-fewer
invariant-loop-fewer l =
    string_bytes l.text ++ flat_map (summary_line l.fn.table l.fn.notes)
    (formats_below (length l.fn.table.formats) l.fn.notes (length l.fn.notes + 1 - l.fewer)) ≡ string_bytes l.fn.text ++ summary_text l.fn.table l.fn.notes
