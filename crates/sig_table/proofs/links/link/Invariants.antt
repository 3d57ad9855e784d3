use Rattle.sig_table.proofs.LinkLemmas.{AreLinkedFrom}
use Rattle.sig_table.proofs.links.link.Given as goal

-- the signatures from this place on are linked
abbrev pub invariant-loop-place : goal.invariant-loop-place
invariant-loop-place l = AreLinkedFrom l.place l.signatures l.firsts l.nexts
