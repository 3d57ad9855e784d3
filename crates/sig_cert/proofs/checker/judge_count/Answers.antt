use Rattle.std.proofs.Common.{sym, ◌∙◌, ap, length}
use Rattle.sig_cert.specs.Pairs.{format_pairs}
use Rattle.sig_cert.proofs.CountLemmas.{counted_judged}
use Rattle.sig_cert.proofs.checker.judge_count.Goals as goal

pub returns-clause-judged : goal.returns-clause-judged
returns-clause-judged c =
    counted_judged c.args.version c.args.table.now c.args.view.now c.number_of_four.new.view c.judge_pairs.new.view c.judge_pairs.result c.in_ok-count.ensures.1
    c.in_ok-count.ensures.2
    (sym c.in_ok-count.ensures.0 ∙ c.if-count-pair_count.false ∙ c.pair_count.ensures ∙ ap (λ n. length (format_pairs n)) c.format_count.ensures.count)
    c.judge_pairs.ensures.judged

pub returns-clause-memory : goal.returns-clause-memory
returns-clause-memory c short = (
  record {
    whole = c.in_ok-count.ensures.1;
    count = sym c.in_ok-count.ensures.0 ∙ c.if-count-pair_count.false ∙ c.pair_count.ensures ∙ ap
        (λ n. length (format_pairs n)) c.format_count.ensures.count;
  },
  c.judge_pairs.ensures.memory short,
)
