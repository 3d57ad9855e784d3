use Rattle.std.proofs.Common.{sym}
use Rattle.sig_lint.proofs.NameLemmas.{take-known}
use Rattle.sig_lint.proofs.names.Names.formats.Goals as goal

pub returns-clause-formats : goal.returns-clause-formats
returns-clause-formats c = rw (← c.self.view_is) (sym (take-known _ _ c.self.invariant.few c.self.invariant.full))
