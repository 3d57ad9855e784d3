use Rattle.std.proofs.Common.{string_bytes}
use Rattle.sig_engines.proofs.ForcedLemmas.{forces_written}
use Rattle.sig_engines.proofs.conflicts_engine.write_forced.Goals as goal

pub returns-in-Ok-clause-forces : goal.returns-in-Ok-clause-forces
returns-in-Ok-clause-forces g c =
    forces_written g.S.Store.name_of g.S.Writer.Output.written g.S.Writer.Output.failed (g.S.Store.held c.args.run.now.store.now) c.args.run.now.table.now
    c.args.run.now.ask.budget
    c.args.run.now.ask.priorities c.args.file c.in-Some.file c.write.new.out c.args.notes.now
    c.in_ok-forced.forced.ranking (string_bytes c.in_ok-forced.forced.refused) c.in-Some.is c.requires.file c.requires.limits c.in_ok-forced.ensures
    c.in-Ok.ensures.whole.text c.in-Ok.ensures.whole.writes
