use Rattle.sig_scan.proofs.Common.{◌*◌, ◌%◌, ◌/◌, ap, mark_of}
use Rattle.sig_scan.proofs.filter.mark_of.Goals as goal

pub returns-clause-value : goal.returns-clause-value
unfolding mark_of
returns-clause-value c = ap (λ n. n * 930722048 % 4294967296 / 65536) c.from.ensures
