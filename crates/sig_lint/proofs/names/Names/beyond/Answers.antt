use Rattle.std.proofs.Common.{sym}
use Rattle.sig_lint.proofs.NameLemmas.{drop-known}
use Rattle.sig_lint.proofs.names.Names.beyond.Goals as goal

pub returns : goal.returns
returns c = rw (← c.self.view_is) (sym (drop-known _ _ c.self.invariant.few c.self.invariant.full))
