use Rattle.sig_scan.proofs.Common.{sym, subst, IfSome, Item, IsEitherOf}
use Rattle.sig_scan.proofs.literal.bytes_of.Goals as goal

pub returns-in-Alt : goal.returns-in-Alt
returns-in-Alt c = subst (λ (i : Item). IfSome c.bytes_of_any.result (λ p. IsEitherOf i p.0 p.1)) (sym c.in-Alt.is) c.bytes_of_any.ensures
