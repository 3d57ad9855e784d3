use Rattle.sig_scan.proofs.Common.{◌*◌, ◌%◌, ◌/◌, ap, list_of}
use Rattle.sig_scan.proofs.filter.list_of.Goals as goal

pub returns-clause-value : goal.returns-clause-value
unfolding list_of
returns-clause-value c = ap (λ n. n * 2654435761 % 4294967296 / 1048576) c.from.ensures
