use Rattle.std.proofs.Common.{rules}
use Rattle.sig_engines.proofs.ProgressLemmas.{metered}
use Rattle.sig_engines.specs.declared.progress.Things.TheVariants.{Products}
use Rattle.sig_engines.proofs.find_engine.find_shown.Goals as goal

pub returns-clause-shown : goal.returns-clause-shown
returns-clause-shown g c =
    metered g.E.Output.failed g.E.Output.written c.new-meter.result c.find_observed-found.new.observer c.end.new.self Products c.args.err.now _
    c.new-meter.ensures.things c.new-meter.ensures.unchanged c.find_observed-found.ensures.observed c.end.ensures.same_reference c.end.ensures.sound
    c.end.ensures.ends (search rules)
