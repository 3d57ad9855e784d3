use Rattle.std.proofs.Common.{◌≡◌, ◌∷◌, [], Option, Some, ap, ap₂, codes, ◌∙◌}
use Rattle.std.specs.Prelude.{pos}
use Rattle.clap.specs.Words.{Rule, rule_of}
use Rattle.clap.specs.declared.builder.value_parser.ValueParser.{ValueParser}
use Rattle.clap.specs.declared.builder.value_parser.ValueParser.TheVariants as vp
use Rattle.sig_command.specs.CommandLine.{named}
use Rattle.sig_command.proofs.args.budget.Goals as goal

pub returns-clause-rule : goal.returns-clause-rule
returns-clause-rule c =
    let given = c.value_parser-2.ensures.given in
    let made : c.range.result ≡ vp.Signed (pos 1) (pos 4294967295) = rw c.value_parser.ensures at c.range.ensures in
    let parser : c.value_parser-2.result.value_parser ≡ Some (vp.Signed (pos 1) (pos 4294967295)) =
    given.1 ∙ ap (λ (q : ValueParser). Some q) (given.2 ∙ made) in
    let defaulted : rule_of c.default_value.result ≡ record (named (codes "budget") (codes "N")) { defaults = codes "100000" ∷ [] } =
    ap rule_of c.default_value.ensures ∙ ap (λ (rule : Rule). record rule { defaults = codes "100000" ∷ [] }) c.option.ensures.rule in
    let with_parser : rule_of c.value_parser-2.result ≡ record (rule_of c.default_value.result) { parser = c.value_parser-2.result.value_parser } =
    ap rule_of c.value_parser-2.ensures.others in
    with_parser ∙ ap₂ (λ (rule : Rule) (q : Option ValueParser). record rule { parser = q }) defaulted parser
