use Rattle.std.proofs.Common.{◌∙◌, rules, subst}
use Rattle.sig_command.specs.Faults.{TellsWrite}
use Rattle.sig_engines.proofs.Exports.{any_settles}
use Rattle.sig_engines.specs.Conflicts.{Settles}
use Rattle.sig_engines.specs.Stores.{IsAny, IsMade}
use Rattle.sig_command.proofs.PairsLemmas.{answer_told, pairs_keep, write_has_failed}
use Rattle.sig_command.proofs.requests.settle_pairs.Goals as goal

pub returns-in-Ok-clause-told : goal.returns-in-Ok-clause-told
returns-in-Ok-clause-told g c =
    let any : Settles IsAny c.args.progress c.in-Ok.is_yes c.in_ok-ask.ask c.in_ok-table.table (g.W.Output.written c.args.out.now)
    (g.W.Output.written c.settle.new.out) (g.E.Output.failed c.settle.new.err) (g.E.Output.written c.args.err.now) (g.E.Output.written c.settle.new.err) =
    any_settles (IsMade g.S.Store.name_of g.S.Writer.Output.written g.S.Writer.Output.failed (g.S.Store.held c.args.store.now)) c.in_ok-table.table
    c.args.progress c.in-Ok.is_yes c.in_ok-ask.ask _ _ _ _ _ c.in-Ok.ensures.settles in
    answer_told g.S.Reader.Input.failed (g.S.Store.held c.args.store.now) c.args.table c.args.options g.E.Output.failed g.E.Output.written c.args.err.now
    c.settle.new.err c.args.progress c.in-Ok.is_yes c.in_ok-table.table c.in_ok-table.ensures.read c.in_ok-ask.ask c.in_ok-ask.ensures.asks _ _ any
    (λ none. c.in-Ok.ensures.shown (c.in_ok-ask.ensures.asks.priorities ∙ none))

pub returns-in-Ok-clause-answered : goal.returns-in-Ok-clause-answered
returns-in-Ok-clause-answered g c =
    let any : Settles IsAny c.args.progress c.in-Ok.is_yes c.in_ok-ask.ask c.in_ok-table.table (g.W.Output.written c.args.out.now)
    (g.W.Output.written c.settle.new.out) (g.E.Output.failed c.settle.new.err) (g.E.Output.written c.args.err.now) (g.E.Output.written c.settle.new.err) =
    any_settles (IsMade g.S.Store.name_of g.S.Writer.Output.written g.S.Writer.Output.failed (g.S.Store.held c.args.store.now)) c.in_ok-table.table
    c.args.progress c.in-Ok.is_yes c.in_ok-ask.ask _ _ _ _ _ c.in-Ok.ensures.settles in
    record {
      answers = (c.in_ok-table.table, c.in_ok-table.ensures.read, c.in_ok-ask.ask, c.in_ok-ask.ensures.asks, any.refused, any.adds);
      shown = search rules;
    }

pub returns-in-Ok-clause-progress : goal.returns-in-Ok-clause-progress
returns-in-Ok-clause-progress g c =
    let any : Settles IsAny c.args.progress c.in-Ok.is_yes c.in_ok-ask.ask c.in_ok-table.table (g.W.Output.written c.args.out.now)
    (g.W.Output.written c.settle.new.out) (g.E.Output.failed c.settle.new.err) (g.E.Output.written c.args.err.now) (g.E.Output.written c.settle.new.err) =
    any_settles (IsMade g.S.Store.name_of g.S.Writer.Output.written g.S.Writer.Output.failed (g.S.Store.held c.args.store.now)) c.in_ok-table.table
    c.args.progress c.in-Ok.is_yes c.in_ok-ask.ask _ _ _ _ _ c.in-Ok.ensures.settles in (
      λ none. c.in-Ok.ensures.shown (c.in_ok-ask.ensures.asks.priorities ∙ none),
      (c.in_ok-table.table, c.in_ok-table.ensures.read, c.in_ok-ask.ask, c.in_ok-ask.ensures.asks, any),
    )

pub returns-clause-refused : goal.returns-clause-refused
returns-clause-refused g c = record {
  is = search rules;
  write = λ tells.
      write_has_failed g.S.Writer.Output.failed (g.S.Store.held c.args.store.now) c.args.table c.args.options c.args.progress c.in_ok-table.table
      c.in_ok-table.ensures.read c.in_ok-ask.ask c.in_ok-ask.ensures.asks _ _ _ c.in-Err.fault c.in-Err.ensures.stops.stops
      (subst TellsWrite c.pairs_fault.ensures tells);
  untouched = search rules;
  lists = tt;
  whole = λ other.
      pairs_keep g.S.Writer.Output.failed g.S.Reader.Input.failed (g.S.Store.held c.args.store.now) c.args.table c.args.options c.args.progress
      c.in_ok-table.table c.in_ok-table.ensures.read c.in_ok-ask.ask c.in_ok-ask.ensures.asks
      g.W.Output.failed g.W.Output.written c.args.out.now c.settle.new.out c.in-Err.fault c.in-Err.ensures.stops.stops c.in-Err.ensures.stops.untouched;
}
