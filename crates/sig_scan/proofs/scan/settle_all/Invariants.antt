use Rattle.sig_scan.proofs.Common.{◌≡◌, ◌≤◌, List, ℕ, slice_get, AreDone, AreExcluded, Knows, TableView}
use Rattle.sig_scan.proofs.ScanLemmas.{AllMoved}
use Rattle.sig_scan.proofs.scan.settle_all.Given as goal

-- the sequences before this one are settled, and the others are as they were
abbrev pub invariant-loop-k : goal.invariant-loop-k
invariant-loop-k l = record {
  room : l.frontier ≡ l.fn.frontier;
  done : AreDone l.program.courses l.states;
  kept : (i : ℕ) → l.k ≤ i → slice_get l.states i ≡ slice_get l.fn.states i;
  settled : (table : TableView) (file : List ℕ) (known : Knows table file l.program l.site.reach l.site.base l.site.bytes.now l.fn.states l.fn.may_hit)
      → AllMoved l.k l.site.limit known.sequences l.program l.may_hit known.before l.site.bytes.now l.states × AreExcluded table l.may_hit file;
}
