use Rattle.std.proofs.Common.{List, Option, rules, subst}
use Rattle.clap.specs.Words.{Row, Text}
use Rattle.sig_command.proofs.EndLemmas.{ends_by_fault, fault_is_reported, fault_keeps_errors, fault_keeps_output, help_answers, memory_is_reported}
use Rattle.sig_command.proofs.EndLemmas.{memory_tells, nothing_is_shown}
use Rattle.sig_command.specs.CommandLine.{Asks, texts_of}
use Rattle.sig_command.specs.Requests.{ShowsWords}
use Rattle.sig_command.proofs.requests.command_over.Goals as goal

pub returns-in-Err-clause-faults : goal.returns-in-Err-clause-faults
returns-in-Err-clause-faults g c = λ taken high.
    let memory = c.in-Err.ensures.taken taken in (
      taken.1.0,
      taken.1.1,
      memory_is_reported g.S.Reader.Input.failed _ (g.S.Store.held c.args.store.now) taken.1.0 _ g.E.Output.failed g.E.Output.written c.args.err.now
          c.show_usage.new.err _ _ (c.show_usage.ensures.status.memory memory) (c.show_usage.ensures.memory memory),
    )

pub returns-in-Err-clause-told : goal.returns-in-Err-clause-told
returns-in-Err-clause-told g c =
    memory_tells (g.S.Store.held c.args.store.now) (texts_of c.args.words.now) _ _ _ _ _ _ _ _
    (λ taken. c.show_usage.ensures.status.memory (c.in-Err.ensures.taken taken))

pub returns-in-Err-clause-status : goal.returns-in-Err-clause-status
returns-in-Err-clause-status g c = (
  search rules,
  ends_by_fault (texts_of c.args.words.now) c.in-Err.error _ c.in-Err.ensures.kinds c.show_usage.ensures.status,
)

pub returns-in-Err-clause-answers : goal.returns-in-Err-clause-answers
returns-in-Err-clause-answers g c =
    help_answers g.S.Store.name_of g.S.Writer.Output.written g.S.Writer.Output.failed (g.S.Store.held c.args.store.now) (texts_of c.args.words.now) _ _ _
    c.in-Err.error c.show_usage.ensures.status c.in-Err.ensures.taken c.in-Err.ensures.help

pub returns-clause-errors : goal.returns-clause-errors
returns-clause-errors g c =
    let asks = subst (λ (o : Option (Text × List Row)). Asks o c.in-Some.request) c.in-Ok.ensures.found c.in-Some.ensures.asked in
    let answered = c.in-Err-answer.ensures in
    fault_keeps_errors g.S.Reader.Input.failed (g.S.Store.held c.args.store.now) (texts_of c.args.words.now) c.in-Some.request c.in-Err-answer.fault _
    g.E.Output.failed g.E.Output.written c.args.err.now c.answer.new.err c.report.new.err (g.W.Output.written c.args.out.now)
    (g.W.Output.written c.answer.new.out) (g.W.Output.failed c.answer.new.out)
    asks answered.refused.is answered.refused.lists answered.told answered.joined c.report.ensures.status c.report.ensures.sound c.report.ensures.reported

pub returns-clause-output : goal.returns-clause-output
returns-clause-output g c =
    let asks = subst (λ (o : Option (Text × List Row)). Asks o c.in-Some.request) c.in-Ok.ensures.found c.in-Some.ensures.asked in
    let answered = c.in-Err-answer.ensures in
    fault_keeps_output g.S.Reader.Input.failed g.S.Writer.Output.failed (g.S.Store.held c.args.store.now) (texts_of c.args.words.now) c.in-Some.request
    c.in-Err-answer.fault _ g.W.Output.failed g.W.Output.written c.args.out.now c.answer.new.out
    asks answered.refused c.report.ensures.status

pub returns-clause-faults : goal.returns-clause-faults
returns-clause-faults g c = λ taken high.
    let asks = subst (λ (o : Option (Text × List Row)). Asks o c.in-Some.request) c.in-Ok.ensures.found c.in-Some.ensures.asked in
    let answered = c.in-Err-answer.ensures in (
      c.in-Some.request,
      asks,
      fault_is_reported g.S.Reader.Input.failed g.S.Writer.Output.failed (g.S.Store.held c.args.store.now) c.in-Some.request c.in-Err-answer.fault _
          g.W.Output.failed g.W.Output.written c.args.out.now c.answer.new.out g.E.Output.failed g.E.Output.written c.args.err.now c.answer.new.err
          c.report.new.err answered.refused answered.told answered.joined c.report.ensures.status c.report.ensures.sound c.report.ensures.reported,
    )

pub returns-in-Err-clause-errors : goal.returns-in-Err-clause-errors
returns-in-Err-clause-errors g c =
    nothing_is_shown (ShowsWords g.S.Reader.Input.failed (g.S.Store.held c.args.store.now) (texts_of c.args.words.now)) _ _ _ _ _ _ _ c.show_usage.ensures.errors
