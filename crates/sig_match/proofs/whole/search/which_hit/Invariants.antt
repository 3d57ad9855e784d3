use Rattle.std.proofs.Common.{◌≡◌, vec_len}
use Rattle.sig_match.proofs.MarkLemmas.{MarksBelow}
use Rattle.sig_match.proofs.whole.search.which_hit.Given as goal

-- the signatures so far are marked
abbrev pub invariant-loop-index : goal.invariant-loop-index
invariant-loop-index l = record {
  len : vec_len l.marks ≡ l.index;
  marks : MarksBelow l.table l.file l.index l.marks.items;
}
