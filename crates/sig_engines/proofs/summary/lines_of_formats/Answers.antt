use Rattle.std.proofs.Common.{arith, sym}
use Rattle.std.proofs.lemmas.List.FromFn.{map-range_with_len_more}
use Rattle.sig_engines.specs.Notes.{lines_in}
use Rattle.sig_engines.proofs.summary.lines_of_formats.Goals as goal

pub loop-format-preserved : goal.loop-format-preserved
loop-format-preserved c =
    rw (c.in_ok-push.ensures.items, c.loop-format.invariant, c.lines_in.ensures)
    (sym (map-range_with_len_more (lines_in c.args.notes.now) 0 c.loop-format.format c.loop-format.format (omega arith)))
