use Rattle.sig_scan.proofs.Common.{◌≡◌, drop, max, longest_of}
use Rattle.sig_scan.proofs.lengths.span_of_any.Given as goal

-- with those behind it makes the greatest of all
abbrev pub invariant-loop-alternative : goal.invariant-loop-alternative
invariant-loop-alternative l = max l.greatest (longest_of (drop l.alternative-index l.alternatives)) ≡ longest_of l.alternatives
