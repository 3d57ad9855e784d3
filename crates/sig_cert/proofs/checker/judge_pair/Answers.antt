use Rattle.std.proofs.Common.{sym, ◌∙◌, ap, if◌then◌else◌}
use Rattle.std.proofs.lemmas.Bool.{false≢true}
use Rattle.sig_cert.proofs.KindLemmas.{unrelated_judged}
use Rattle.sig_cert.proofs.checker.judge_pair.Goals as goal

pub returns-else-related-clause-judged : goal.returns-else-related-clause-judged
returns-else-related-clause-judged c =
    unrelated_judged c.args.version c.args.table.now c.args.pair (c.args.formats.0.0, c.args.formats.1.0) c.args.view.now c.in_ok-kind.kind.now c.field.new.view
    c.judge_tables.new.view c.judge_tables.result c.in_ok-kind.ensures
    (c.if-kind-kind_of.false ∙ c.kind_of.ensures ∙ ap (λ b. if b then 0 else 1) c.if-related.false)
    (λ related. false≢true (sym c.if-related.false ∙ c.are_related-related.ensures.1 related)) c.judge_tables.ensures.judged

pub returns-else-related-clause-memory : goal.returns-else-related-clause-memory
returns-else-related-clause-memory c short = record {
  unrelated = λ related. false≢true (sym c.if-related.false ∙ c.are_related-related.ensures.1 related);
  first = c.judge_tables.ensures.first short;
  second = c.judge_tables.ensures.second short;
}
