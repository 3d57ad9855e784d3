use Rattle.std.proofs.Common.{◌≡◌, ◌++◌, subst, string_bytes, ◌∙◌}
use Rattle.std.proofs.lemmas.Result.{err_from_is_err_and}
use Rattle.sig_engines.specs.Asks.{shows_class}
use Rattle.sig_engines.specs.Conflicts.{AddsConflicts, counts_line}
use Rattle.sig_engines.specs.Forced.{Forces}
use Rattle.sig_engines.specs.Notes.{summary_if_asked}
use Rattle.sig_engines.specs.Stores.{IsMade}
use Rattle.sig_engines.proofs.SettledLemmas.{all_answered, conflicts_decide, last_is_cut, some_left}
use Rattle.sig_engines.proofs.conflicts_engine.answer_pairs.Goals as goal

pub returns-in_err-write_line-clause-stops : goal.returns-in_err-write_line-clause-stops
returns-in_err-write_line-clause-stops g c =
    let p = err_from_is_err_and c.from_residual-in_err-write_line.result c.from_residual-in_err-write_line.ensures.1 in
    rw (p.1, p.2) (record {
      stops = last_is_cut (IsMade g.S.Store.name_of g.S.Writer.Output.written g.S.Writer.Output.failed (g.S.Store.held c.args.run.now.store.now))
          c.args.run.now.ask
          c.args.run.now.table.now c.in_ok-told.told.counts c.in_ok-told.told.notes.items (g.W.Output.written c.args.out.now)
          (g.W.Output.written c.write_pairs.new.out) _
          c.in_ok-told.ensures.told
          c.as_str.result.now (subst (λ n. c.as_str.result.now ≡ summary_if_asked c.args.run.now.ask.summary c.args.run.now.table.now n ++ counts_line
          (shows_class c.args.run.now.ask)
          c.in_ok-told.told.counts) c.deref-2.ensures.value (c.as_str.ensures.value ∙ c.in_ok-lines.ensures)) g.S.Writer.Output.failed
          c.in_err-write_line.field-0.0 _ c.in_err-write_line.ensures.cut;
      unmade = tt;
      untouched = λ never. never;
    })

pub returns-clause-answers : goal.returns-clause-answers
returns-clause-answers g c =
    all_answered (IsMade g.S.Store.name_of g.S.Writer.Output.written g.S.Writer.Output.failed (g.S.Store.held c.args.run.now.store.now)) c.args.run.now.ask
    c.args.run.now.table.now
    c.in_ok-told.told.counts c.in_ok-told.told.notes.items (g.W.Output.written c.args.out.now) (g.W.Output.written c.write_pairs.new.out)
    (g.W.Output.written c.write_line.new.out) c.in_ok-told.ensures.told
    c.as_str.result.now (subst (λ n. c.as_str.result.now ≡ summary_if_asked c.args.run.now.ask.summary c.args.run.now.table.now n ++ counts_line
    (shows_class c.args.run.now.ask)
    c.in_ok-told.told.counts) c.deref-2.ensures.value (c.as_str.ensures.value ∙ c.in_ok-lines.ensures)) c.are_all_decided.result
    (string_bytes c.in_ok-refused.refused) c.in_ok-write_line.ensures.adds
    c.are_all_decided.ensures.0 (some_left c.in_ok-told.told.counts.ambiguous c.in_ok-told.told.counts.unknown c.are_all_decided.result
    c.are_all_decided.ensures.1) (subst (λ n. Forces (IsMade g.S.Store.name_of g.S.Writer.Output.written g.S.Writer.Output.failed
    (g.S.Store.held c.args.run.now.store.now)) c.args.run.now.table.now c.args.run.now.ask.budget c.args.run.now.ask.priorities n
    (string_bytes c.in_ok-refused.refused))
    c.deref.ensures.value c.in_ok-refused.ensures.forces)

pub returns-clause-decided : goal.returns-clause-decided
returns-clause-decided g c =
    let adds : AddsConflicts (IsMade g.S.Store.name_of g.S.Writer.Output.written g.S.Writer.Output.failed (g.S.Store.held c.args.run.now.store.now))
    c.are_all_decided.result (string_bytes c.in_ok-refused.refused) c.args.run.now.ask c.args.run.now.table.now (g.W.Output.written c.args.out.now)
    (g.W.Output.written c.write_line.new.out) =
    all_answered (IsMade g.S.Store.name_of g.S.Writer.Output.written g.S.Writer.Output.failed (g.S.Store.held c.args.run.now.store.now)) c.args.run.now.ask
    c.args.run.now.table.now
    c.in_ok-told.told.counts c.in_ok-told.told.notes.items (g.W.Output.written c.args.out.now) (g.W.Output.written c.write_pairs.new.out)
    (g.W.Output.written c.write_line.new.out) c.in_ok-told.ensures.told
    c.as_str.result.now (subst (λ n. c.as_str.result.now ≡ summary_if_asked c.args.run.now.ask.summary c.args.run.now.table.now n ++ counts_line
    (shows_class c.args.run.now.ask)
    c.in_ok-told.told.counts) c.deref-2.ensures.value (c.as_str.ensures.value ∙ c.in_ok-lines.ensures)) c.are_all_decided.result
    (string_bytes c.in_ok-refused.refused) c.in_ok-write_line.ensures.adds
    c.are_all_decided.ensures.0 (some_left c.in_ok-told.told.counts.ambiguous c.in_ok-told.told.counts.unknown c.are_all_decided.result
    c.are_all_decided.ensures.1) (subst (λ n. Forces (IsMade g.S.Store.name_of g.S.Writer.Output.written g.S.Writer.Output.failed
    (g.S.Store.held c.args.run.now.store.now)) c.args.run.now.table.now c.args.run.now.ask.budget c.args.run.now.ask.priorities n
    (string_bytes c.in_ok-refused.refused))
    c.deref.ensures.value c.in_ok-refused.ensures.forces) in
    conflicts_decide (IsMade g.S.Store.name_of g.S.Writer.Output.written g.S.Writer.Output.failed (g.S.Store.held c.args.run.now.store.now))
    c.are_all_decided.result
    (string_bytes c.in_ok-refused.refused) c.args.run.now.ask c.args.run.now.table.now (g.W.Output.written c.args.out.now)
    (g.W.Output.written c.write_line.new.out)
    c.write_pairs.ensures.limits adds
