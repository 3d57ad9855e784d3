use Rattle.sig_auto.proofs.Common.{sym}
use Rattle.sig_auto.proofs.BeginLemmas.{item_not_nullable}
use Rattle.sig_auto.proofs.start.is_nullable.Goals as goal

pub returns-in_default : goal.returns-in_default
returns-in_default c = sym (item_not_nullable c.args.item.now c.requires c.in_default.not-Gap)
