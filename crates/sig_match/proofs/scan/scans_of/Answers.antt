use Rattle.std.proofs.Common.{◌<◌, arith, length}
use Rattle.sig_match.proofs.ScanLemmas.{scans_more}
use Rattle.sig_match.proofs.scan.scans_of.Goals as goal

pub loop-index-preserved : goal.loop-index-preserved
loop-index-preserved c =
    let within : c.loop-index.index < length c.args.table.now.signatures = omega (arith, c.signature_count-count.ensures.count) in
    rw c.in_ok-push.ensures.items (scans_more c.args.table.now.signatures c.loop-index.scans.items c.loop-index.index c.sequences_of-sequences.result.now _
    within c.sequences_of-sequences.ensures.of_view c.loop-index.invariant c.in_ok-of.ensures)
