use Rattle.std.proofs.Common.{rules}
use Rattle.sig_engines.proofs.ProgressLemmas.{metered, shown_if}
use Rattle.sig_engines.specs.declared.progress.Things.TheVariants.{Pairs}
use Rattle.sig_engines.proofs.settling.search.Goals as goal

pub returns-clause-shown : goal.returns-clause-shown
returns-clause-shown g c =
    shown_if c.args.progress Pairs _ c.args.err.now _ _ _ (search rules)
    (metered g.E.Output.failed g.E.Output.written c.new-meter.result c.answer_pairs-answer.new.observer c.end.new.self Pairs c.args.err.now _
    c.new-meter.ensures.things c.new-meter.ensures.unchanged c.answer_pairs-answer.ensures.observed c.end.ensures.same_reference c.end.ensures.sound
    c.end.ensures.ends (search rules))
