use Rattle.sig_expr.proofs.ShortestLemmas.{canon_shortest}
use Rattle.sig_expr.proofs.laws.canonical_is_shortest.Goals as goal

pub returns : goal.returns
returns c = canon_shortest
