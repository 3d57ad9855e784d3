use Rattle.std.proofs.Common.{length, string_bytes}
use Rattle.sig_engines.proofs.SummaryLemmas.{fewer_written}
use Rattle.sig_engines.proofs.summary.push_summary.Goals as goal

pub loop-fewer-preserved : goal.loop-fewer-preserved
loop-fewer-preserved c =
    fewer_written c.args.table.now c.args.notes.now (length c.args.table.now.formats) c.loop-fewer.fewer (string_bytes c.loop-fewer.text)
    (string_bytes c.push_formats_in.new.text) _ c.loop-fewer-test.true c.loop-fewer.invariant c.in_ok-push_formats_in.ensures
