use Rattle.sig_expr.proofs.ShortestLemmas.{canon_differs}
use Rattle.sig_expr.proofs.laws.canonical_texts_differ.Goals as goal

pub returns : goal.returns
returns c = canon_differs
