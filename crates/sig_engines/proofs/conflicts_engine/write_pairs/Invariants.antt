use Rattle.std.proofs.Common.{◌+◌, ◌-◌, ◌++◌, map}
use Rattle.std.specs.List.{filter, flat_map, range_with_len}
use Rattle.sig_cert.specs.Pairs.{pairs_with}
use Rattle.sig_engines.specs.Asks.{is_asked}
use Rattle.sig_engines.specs.Pairs.{AreTold}
use Rattle.sig_engines.specs.Stores.{IsMade}
use Rattle.sig_engines.proofs.conflicts_engine.write_pairs.Given as goal

abbrev pub invariant-loop-i : goal.invariant-loop-i
invariant-loop-i g l = g.O.Observer.becomes l.fn.observer l.observer
    × AreTold (IsMade g.S.Store.name_of g.S.Writer.Output.written g.S.Writer.Output.failed (g.S.Store.held l.fn.run.store.now)) l.fn.run.ask l.fn.run.table.now
    (filter (is_asked l.fn.run.ask.only) (flat_map (pairs_with l.formats) (range_with_len l.i (l.formats - l.i)))) l.told.counts l.told.notes.items
    (g.W.Output.written l.fn.out) (g.W.Output.written l.out)

abbrev pub invariant-loop-j : goal.invariant-loop-j
invariant-loop-j g l = g.O.Observer.becomes l.fn.observer l.observer
    × AreTold (IsMade g.S.Store.name_of g.S.Writer.Output.written g.S.Writer.Output.failed (g.S.Store.held l.fn.run.store.now)) l.fn.run.ask l.fn.run.table.now
    (filter (is_asked l.fn.run.ask.only) (map (λ j. (l.i, j)) (range_with_len l.j (l.formats - l.j)) ++ flat_map (pairs_with l.formats)
    (range_with_len (l.i + 1) (l.formats - (l.i + 1))))) l.told.counts l.told.notes.items (g.W.Output.written l.fn.out) (g.W.Output.written l.out)
