use Rattle.sig_command.specs.CommandLine.{texts_of}
use Rattle.sig_command.proofs.EndLemmas.{errors_of_some, output_of_some, words_keep_errors}
use Rattle.sig_command.proofs.requests.run.Goals as goal

pub returns-in-Ok-clause-errors : goal.returns-in-Ok-clause-errors
returns-in-Ok-clause-errors g c = errors_of_some _ (texts_of c.as_slice.result.now) _ _ _ _ _ _ _ _ c.command.ensures.errors

pub returns-in-Err-clause-errors : goal.returns-in-Err-clause-errors
returns-in-Err-clause-errors g c =
    words_keep_errors _ _ c.in-Err.fault _ _ _ _ _ _ c.in-Err.ensures c.report.ensures.status c.report.ensures.reported

pub returns-in-Ok-clause-output : goal.returns-in-Ok-clause-output
returns-in-Ok-clause-output g c = output_of_some _ (texts_of c.as_slice.result.now) _ _ _ _ _ _ c.command.ensures.output

pub returns-in-Ok-clause-denied : goal.returns-in-Ok-clause-denied
returns-in-Ok-clause-denied g c = λ no. (texts_of c.as_slice.result.now, c.command.ensures.answers.denied no)
