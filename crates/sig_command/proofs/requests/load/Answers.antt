use Rattle.std.proofs.Common.{Err, ap}
use Rattle.sig_engines.specs.PriorityInputs.{to_come_of}
use Rattle.sig_command.proofs.StoreLemmas.{table_fault, table_read}
use Rattle.sig_command.proofs.requests.load.Goals as goal

pub returns-in-Ok-clause-read : goal.returns-in-Ok-clause-read
returns-in-Ok-clause-read g c =
    table_read (g.S.Store.held c.args.store.now) c.args.paths (g.S.Reader.Input.to_come c.in_ok-signatures.signatures)
    (to_come_of g.S.Reader.Input.to_come c.in_ok-priorities.priorities) c.in-Ok.table
    c.in_ok-signatures.ensures.opens c.in_ok-priorities.ensures.opens c.in-Ok.ensures.limits.0 c.in-Ok.ensures.exact

pub returns-clause-faults : goal.returns-clause-faults
returns-clause-faults g c =
    table_fault g.S.Reader.Input.failed (g.S.Store.held c.args.store.now) c.args.paths (g.S.Reader.Input.to_come c.in_ok-signatures.signatures)
    (to_come_of g.S.Reader.Input.to_come c.in_ok-priorities.priorities) c.load.new.signatures c.load.new.priorities c.in-Err.error
    c.in_ok-signatures.ensures.opens c.in_ok-priorities.ensures.opens c.in-Err.ensures.exact (λ is. c.in-Err.ensures.failed.of_signatures (ap Err is))
    (λ is. (c.in-Err.ensures.failed.of_priorities (ap Err is)).1)
