use Rattle.sig_scan.proofs.Common.{◌+◌, length}
use Rattle.sig_scan.proofs.WindowLemmas.{least_by_set}
use Rattle.sig_scan.proofs.frontier.least_end.Goals as goal

pub returns : goal.returns
returns c =
    least_by_set c.args.items.now c.args.bytes.now c.fill.new.set c.run.new.ends c.args.count c.args.least (length c.args.bytes.now + 1) c.lowest.result
    c.fill.ensures c.run.ensures c.lowest.ensures
