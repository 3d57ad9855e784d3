use Rattle.std.proofs.Common.{◌≡◌, Option, Some, ap, ap₂, ◌∙◌}
use Rattle.clap.specs.Lexer.{usize_max}
use Rattle.clap.specs.Words.{Rule, rule_of}
use Rattle.clap.specs.declared.builder.range.ValueRange.{ValueRange}
use Rattle.sig_command.proofs.RowLemmas.{some_of}
use Rattle.sig_command.proofs.args.several.Goals as goal

pub returns-clause-rule : goal.returns-clause-rule
returns-clause-rule c =
    let range : c.num_args.result.num_vals ≡ Some (record { start_inclusive = 1; end_inclusive = usize_max }) =
    some_of c.num_args.result.num_vals (record { start_inclusive = 1; end_inclusive = usize_max }) c.num_args.ensures.1 in
    ap rule_of c.num_args.ensures.0 ∙ ap₂ (λ (rule : Rule) (r : Option ValueRange). record rule { range = r }) c.optional.ensures.rule range
