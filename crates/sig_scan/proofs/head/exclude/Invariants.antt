use Rattle.sig_scan.proofs.Common.{take, AreAsked, AreExcluded, AreHeadsOf, TableView}
use Rattle.sig_scan.proofs.head.exclude.Given as goal

-- what is excluded hits no such file, and the heads so far are asked
abbrev pub invariant-loop-head : goal.invariant-loop-head
invariant-loop-head l = record {
  sound : (table : TableView) → AreHeadsOf table l.heads → AreExcluded table l.fn.may_hit l.bytes → AreExcluded table l.may_hit l.bytes;
  asked : AreAsked l.bytes l.may_hit (take l.head-index l.heads);
}
