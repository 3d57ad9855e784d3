use Rattle.std.proofs.Common.{◌-◌}
use Rattle.std.specs.List.{range_with_len}
use Rattle.sig_engines.specs.Fates.{AreFatesTold}
use Rattle.sig_engines.proofs.dead_engine.write_formats.Given as goal

abbrev pub invariant-loop-index : goal.invariant-loop-index
invariant-loop-index g l = record {
  observed : g.O.Observer.becomes l.fn.observer l.observer;
  told : AreFatesTold l.fn.with_hex l.fn.table l.fn.budget (range_with_len l.index (l.formats - l.index)) l.found.formats.items l.found.signatures.items
      (g.W.Output.written l.fn.out) (g.W.Output.written l.out);
}
