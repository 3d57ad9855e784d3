use Rattle.sig_scan.proofs.Common.{All, List, ℕ, ◌≡◌, ◌<◌, length, EndsPast, IsScanOf, TableView}
use Rattle.sig_scan.proofs.MarkedLemmas.{AreMarkedTo}
use Rattle.sig_scan.proofs.scan.Scan.finish.Given as goal

-- the marks so far, by the sequences before this one
abbrev pub invariant-loop-k : goal.invariant-loop-k
invariant-loop-k l = record {
  program : l.self.program ≡ l.program;
  owned : All (λ g. g < length l.marks) l.program.owners;
  past : EndsPast l.self;
  len : length l.marks ≡ length l.self.may_hit;
  marked : (table : TableView) (file : List ℕ) → IsScanOf table file l.fn.self
      → (of : IsScanOf table file l.self) × AreMarkedTo l.k table file l.program.owners of.sequences l.self.may_hit l.marks;
}
