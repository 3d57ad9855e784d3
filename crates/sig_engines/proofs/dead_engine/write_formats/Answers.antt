use Rattle.std.proofs.Common.{◌+◌, ◌-◌}
use Rattle.std.specs.List.{range_with_len}
use Rattle.std.proofs.lemmas.Result.{err_from_is_err_and}
use Rattle.sig_engines.proofs.FateLemmas.{ends_cut, formats_from, goes_on}
use Rattle.sig_engines.proofs.dead_engine.write_formats.Goals as goal

pub returns-in_err-write_format-clause-cut : goal.returns-in_err-write_format-clause-cut
returns-in_err-write_format-clause-cut g c =
    let n = c.format_count-formats.result in
    let i = c.loop-index.index in
    let p = err_from_is_err_and c.from_residual.result c.from_residual.ensures.1 in
    rw (p.1, p.2) (ends_cut c.in_err-write_format.field-0.0 c.args.with_hex c.args.table.now c.args.budget i (range_with_len i (n - i))
    (range_with_len (i + 1) (n - (i + 1))) c.loop-index.found.formats.items c.loop-index.found.signatures.items _ (g.W.Output.written c.args.out.now)
    (g.W.Output.written c.loop-index.out) _
    (formats_from n i c.loop-index-test.true) c.loop-index.invariant.told c.in_err-write_format.ensures.cut)

pub loop-index-preserved : goal.loop-index-preserved
loop-index-preserved g c =
    let n = c.format_count-formats.result in
    let i = c.loop-index.index in
    record {
      observed = g.met.O.Observer.goes_on _ _ _ c.loop-index.invariant.observed c.report-in-loop-index.ensures;
      told = goes_on c.args.with_hex c.args.table.now c.args.budget i (range_with_len i (n - i)) (range_with_len (i + 1) (n - (i + 1)))
          c.loop-index.found.formats.items c.write_format.new.found.formats.items c.loop-index.found.signatures.items c.write_format.new.found.signatures.items
          (g.W.Output.written c.args.out.now) (g.W.Output.written c.loop-index.out) (g.W.Output.written c.write_format.new.out)
          (formats_from n i c.loop-index-test.true) c.loop-index.invariant.told c.in_ok-write_format.ensures.told;
    }
