use Rattle.std.proofs.Common.{◌≡◌, List, ℕ, false}
use Rattle.sig_engines.specs.FileTexts.{head_text}
use Rattle.sig_engines.specs.Listed.{TakesNames, left_of, unread_of}
use Rattle.sig_engines.specs.ManyFiles.{AddsFiles, IsPrinted}
use Rattle.sig_engines.specs.Tallies.{none_yet}
use Rattle.sig_engines.specs.Visits.{AreVisits}
use Rattle.sig_engines.proofs.many_engine.match_list.Given as goal

-- what is printed of the names that are taken so far; where no file has a fault and no reports are asked for nothing is told, and no write to the output failed
abbrev pub invariant-names : goal.invariant-names
invariant-names g l = record {
  end : l.list.end ≡ l.fn.list.end;
  names : (names : List (List ℕ)) × TakesNames l.fn.list.end (unread_of g.I.Input.to_come l.fn.list) names (unread_of g.I.Input.to_come l.list)
      × AddsFiles (head_text l.fn.run.ask.csv) (IsPrinted g.S.Reader.Input.failed l.fn.run.ask (g.K.DroidCore.lists l.fn.run.core.now)
      (g.S.Store.held l.fn.run.store.now)) (AreVisits l.fn.run.ask.recursive (g.S.Store.held l.fn.run.store.now) names) l.fn.run.ask.progress none_yet
      (g.W.Output.written l.fn.out) (g.W.Output.written l.out) (g.E.Output.failed l.err) (g.E.Output.written l.fn.err) (g.E.Output.written l.err) l.tally;
  quiet : l.fn.run.ask.progress ≡ false → l.tally.failed ≡ 0 → l.err ≡ l.fn.err;
  sound : g.W.Output.failed l.out ≡ false;
  stays_failed : g.E.Output.failed l.err ≡ false → g.E.Output.failed l.fn.err ≡ false;
}

abbrev pub decreases-names : goal.decreases-names
decreases-names g l = left_of g.I.Input.limit l.list
