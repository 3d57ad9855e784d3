use Rattle.std.proofs.Common.{None, Some, append-nil, sym, ◌∙◌}
use Rattle.std.proofs.lemmas.Bool.{false≢true}
use Rattle.std.proofs.lemmas.Result.{err_from_is_err_and}
use Rattle.sig_cert.specs.Pairs.{AreRelated}
use Rattle.sig_find.proofs.Exports.{related_pairs_leave_none}
use Rattle.sig_engines.specs.Conflicts.{IsSettled}
use Rattle.sig_engines.specs.Stores.{IsMade}
use Rattle.sig_engines.proofs.TellingLemmas.{adds_nothing, line_is_cut, no_file, none_counted, none_is_classed, pair_is_told}
use Rattle.sig_engines.proofs.conflicts_engine.write_pair.Goals as goal

pub returns-then-are_related-clause-told : goal.returns-then-are_related-clause-told
returns-then-are_related-clause-told g c =
    let related : AreRelated c.args.run.now.table.now (c.args.a.0, c.args.b.0) = c.are_related.ensures.0 c.if-are_related.true in
    record {
      decision = None;
      class = None;
      settled = record {
        decides = related;
        tells = related_pairs_leave_none c.args.run.now.table.now c.args.a.0 c.args.b.0 related;
        classed =
            none_is_classed c.args.run.now.ask c.args.run.now.table.now (c.args.a.0, c.args.b.0);
      };
      counts = none_counted c.args.told.now.counts;
      notes = sym (append-nil c.args.told.now.notes.items);
      file = no_file (IsMade g.S.Store.name_of g.S.Writer.Output.written g.S.Writer.Output.failed (g.S.Store.held c.args.run.now.store.now))
          c.args.run.now.table.now
          c.args.run.now.ask.files (c.args.a.0, c.args.b.0);
      adds = adds_nothing (g.W.Output.written c.args.out.now);
    }

pub returns-clause-told : goal.returns-clause-told
returns-clause-told g c =
    let table = c.args.run.now.table.now in
    let unrelated : ¬ AreRelated table (c.args.a.0, c.args.b.0) = λ related. false≢true (sym c.if-are_related.false ∙ c.are_related.ensures.1 related) in
    let settled : IsSettled c.args.run.now.ask table (record {
      formats = (c.args.a.0, c.args.b.0);
      decision = Some c.in_ok-decision.decision;
      class =
          c.in_ok-class.class;
    }) = record {
      decides = (unrelated, c.in_ok-decision.ensures.decision, c.in_ok-decision.ensures.names);
      tells = c.in_ok-decision.ensures.decides;
      classed = c.in_ok-class.ensures;
    } in
    pair_is_told (IsMade g.S.Store.name_of g.S.Writer.Output.written g.S.Writer.Output.failed (g.S.Store.held c.args.run.now.store.now)) c.args.run.now.ask
    table
    (c.args.a.0, c.args.b.0) c.in_ok-decision.decision c.in_ok-class.class _ _ _ _ _ _ _
    settled c.in_ok-add.ensures.counted c.in_ok-add.ensures.noted c.in_ok-keep_witness.ensures.kept (c.as_str.ensures.value ∙ c.in_ok-line.ensures)
    c.in_ok-write_line.ensures.adds

pub returns-in_err-write_line-clause-cut : goal.returns-in_err-write_line-clause-cut
returns-in_err-write_line-clause-cut g c =
    let table = c.args.run.now.table.now in
    let unrelated : ¬ AreRelated table (c.args.a.0, c.args.b.0) = λ related. false≢true (sym c.if-are_related.false ∙ c.are_related.ensures.1 related) in
    let settled : IsSettled c.args.run.now.ask table (record {
      formats = (c.args.a.0, c.args.b.0);
      decision = Some c.in_ok-decision.decision;
      class =
          c.in_ok-class.class;
    }) = record {
      decides = (unrelated, c.in_ok-decision.ensures.decision, c.in_ok-decision.ensures.names);
      tells = c.in_ok-decision.ensures.decides;
      classed = c.in_ok-class.ensures;
    } in
    let p = err_from_is_err_and c.from_residual-in_err-write_line.result c.from_residual-in_err-write_line.ensures.1 in
    rw (p.1, p.2) (line_is_cut g.S.Writer.Output.failed c.in_err-write_line.field-0.0 c.args.run.now.ask table (c.args.a.0, c.args.b.0)
    c.in_ok-decision.decision
    c.in_ok-class.class _ _ _ _ settled (c.as_str.ensures.value ∙ c.in_ok-line.ensures) c.in_err-write_line.ensures.cut)
