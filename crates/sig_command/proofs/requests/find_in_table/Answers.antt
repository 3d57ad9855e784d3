use Rattle.std.proofs.Common.{inl, rules}
use Rattle.sig_command.proofs.FindLemmas.{found_shown, found_told, unfound_told}
use Rattle.sig_command.proofs.StoreLemmas.{file_write}
use Rattle.sig_command.proofs.requests.find_in_table.Goals as goal

pub returns-in-Ok-clause-told : goal.returns-in-Ok-clause-told
returns-in-Ok-clause-told g c =
    found_told g.S.Reader.Input.failed (g.S.Store.held c.args.store.now) c.args.table c.args.ask c.in_ok-table.table
    c.in-Ok.is_yes g.E.Output.failed g.E.Output.written c.args.err.now c.run_find.new.err
    (g.W.Output.written c.args.out.now) (g.W.Output.written c.run_find.new.out) c.in_ok-table.ensures.read c.in-Ok.ensures.told c.in-Ok.ensures.why

pub returns-in-Ok-clause-progress : goal.returns-in-Ok-clause-progress
returns-in-Ok-clause-progress g c =
    found_shown (g.S.Store.held c.args.store.now) c.args.table c.args.ask c.in_ok-table.table c.in-Ok.is_yes
    (g.E.Output.failed c.run_find.new.err) c.args.err.now c.run_find.new.err (g.E.Output.written c.args.err.now) (g.E.Output.written c.run_find.new.err)
    (g.W.Output.written c.args.out.now) (g.W.Output.written c.run_find.new.out) c.in_ok-table.ensures.read c.in-Ok.ensures.told c.in-Ok.ensures.why

pub returns-clause-told : goal.returns-clause-told
returns-clause-told g c =
    unfound_told g.S.Reader.Input.failed (g.S.Store.held c.args.store.now) c.args.table c.args.ask g.E.Output.failed
    g.E.Output.written c.args.err.now c.run_find.new.err (c.in-Err.ensures.told (λ same. cc))

pub returns-clause-refused : goal.returns-clause-refused
returns-clause-refused g c = record {
  is = search rules;
  write = file_write c.args.ask.out c.in-Err.fault c.file_fault.result _ c.file_fault.ensures c.in-Err.ensures.stops.write;
  untouched = search rules;
  lists = tt;
  whole = λ other sound. inl (c.in-Err.ensures.stops.whole sound);
}
