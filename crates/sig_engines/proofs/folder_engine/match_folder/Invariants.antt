use Rattle.std.proofs.Common.{◌≡◌, [], false}
use Rattle.sig_engines.specs.ManyFiles.{AddsFiles, IsPrinted}
use Rattle.sig_engines.specs.Visits.{AreIn, AreMet, greatest_depth}
use Rattle.sig_engines.specs.Waiting.{Covers, worth_of}
use Rattle.sig_engines.proofs.folder_engine.match_folder.Given as goal

-- what is printed of all that had its turn, and the rest waits; where no file has a fault and no reports are asked for nothing is told
abbrev pub invariant-entries : goal.invariant-entries
invariant-entries g l = record {
  adds : AddsFiles [] (IsPrinted g.S.Reader.Input.failed l.fn.run.ask (g.K.DroidCore.lists l.fn.run.core.now) (g.S.Store.held l.fn.run.store.now))
      (λ visits. Covers (g.S.Store.held l.fn.run.store.now) (AreIn (AreMet (g.S.Store.held l.fn.run.store.now) greatest_depth)
      (g.S.Store.held l.fn.run.store.now) l.fn.folder) visits l.waiting.items) l.fn.run.ask.progress l.fn.tally
      (g.W.Output.written l.fn.out) (g.W.Output.written l.out) (g.E.Output.failed l.err) (g.E.Output.written l.fn.err) (g.E.Output.written l.err) l.tally;
  quiet : l.fn.run.ask.progress ≡ false → l.tally.failed ≡ 0 → l.err ≡ l.fn.err;
  writes : g.W.Output.failed l.fn.out ≡ false → g.W.Output.failed l.out ≡ false;
  stays_failed : g.E.Output.failed l.err ≡ false → g.E.Output.failed l.fn.err ≡ false;
}

abbrev pub decreases-entries : goal.decreases-entries
decreases-entries g l = worth_of l.waiting.items
