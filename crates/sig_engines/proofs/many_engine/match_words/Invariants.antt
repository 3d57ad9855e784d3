use Rattle.std.proofs.Common.{◌≡◌, false, map, take}
use Rattle.sig_engines.specs.FileTexts.{head_text}
use Rattle.sig_engines.specs.ManyFiles.{AddsFiles, IsPrinted}
use Rattle.sig_engines.specs.Tallies.{none_yet}
use Rattle.sig_engines.specs.Visits.{AreVisits}
use Rattle.sig_engines.proofs.many_engine.match_words.Given as goal

-- what is printed of the files so far; where no file has a fault and no reports are asked for nothing is told, and no write to the output failed
abbrev pub invariant-loop-name : goal.invariant-loop-name
invariant-loop-name g l =
    AddsFiles (head_text l.fn.run.ask.csv) (IsPrinted g.S.Reader.Input.failed l.fn.run.ask (g.K.DroidCore.lists l.fn.run.core.now)
    (g.S.Store.held l.fn.run.store.now)) (AreVisits l.fn.run.ask.recursive (g.S.Store.held l.fn.run.store.now)
    (map (λ n. n.now) (take l.name-index l.fn.names))) l.fn.run.ask.progress none_yet (g.W.Output.written l.fn.out) (g.W.Output.written l.out)
    (g.E.Output.failed l.err) (g.E.Output.written l.fn.err) (g.E.Output.written l.err) l.tally
    × (l.fn.run.ask.progress ≡ false → l.tally.failed ≡ 0 → l.err ≡ l.fn.err)
    × (g.W.Output.failed l.out ≡ false)
    × (g.E.Output.failed l.err ≡ false → g.E.Output.failed l.fn.err ≡ false)
