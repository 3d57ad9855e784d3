use Rattle.std.proofs.Common.{rules}
use Rattle.sig_engines.proofs.ProgressLemmas.{metered, shown_if}
use Rattle.sig_engines.specs.declared.progress.Things.TheVariants.{Formats}
use Rattle.sig_engines.proofs.dead_engine.find_dead.Goals as goal

pub returns-clause-shown : goal.returns-clause-shown
returns-clause-shown g c =
    shown_if c.args.ask.progress Formats _ c.args.err.now _ _ _ (search rules)
    (metered g.E.Output.failed g.E.Output.written c.new-meter.result c.run_dead-answer.new.observer c.end.new.self Formats c.args.err.now _
    c.new-meter.ensures.things c.new-meter.ensures.unchanged c.run_dead-answer.ensures.observed c.end.ensures.same_reference c.end.ensures.sound
    c.end.ensures.ends (search rules))
