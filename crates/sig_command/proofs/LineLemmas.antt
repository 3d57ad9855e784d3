-- The words of `match`.
use Rattle.std.proofs.Common.{◌≡◌, ◌∙◌, Result, Ok, Err, IfOk, ap}
use Rattle.clap.specs.Words.{App, app_of}
use Rattle.clap.specs.declared.Command.{Command}
use Rattle.clap.specs.declared.Command.TheViews.{out-Command as fields_of}
use Rattle.clap.specs.declared.error.Error.{Error}
use Rattle.sig_command.specs.CommandLine.{IsLine, of_many}

-- those for many files behind those for several
pub with_many : (result : Result Command Error) (line : Command) (app : App) → IsLine app line → IfOk result (λ r. app_of r ≡ of_many (app_of line))
    → IfOk result (λ r. (fields_of r).has_globals ≡ (fields_of line).has_globals) → IfOk result (IsLine (of_many app))
with_many (Ok r) line app is shape globals = record { is_app = shape ∙ ap of_many is.is_app; has_no_globals = globals ∙ is.has_no_globals }
with_many (Err e) line app is shape globals = tt
