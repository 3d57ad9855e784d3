use Rattle.std.proofs.Common.{◌∙◌, ap, sym}
use Rattle.sig_command.proofs.FlagLemmas.{flag_decides, is_end, is_flag, others_decide}
use Rattle.sig_command.proofs.args.names_priorities.Goals as goal

pub returns-then-eq-2 : goal.returns-then-eq-2
returns-then-eq-2 c =
    let text = sym c.as_str-word.ensures.value in
    sym (flag_decides c.args.words.now c.loop-word.word-index c.word-item.result c.loop-word-test.true c.word-item.is
    (ap is_end text ∙ sym c.eq.ensures ∙ c.if-eq.false) (ap is_flag text ∙ sym c.eq-in-loop-word.ensures ∙ c.if-eq-2.true)) ∙ c.loop-word.invariant

pub loop-word-preserved : goal.loop-word-preserved
loop-word-preserved c =
    let text = sym c.as_str-word.ensures.value in
    sym (others_decide c.args.words.now c.loop-word.word-index c.word-item.result c.loop-word-test.true c.word-item.is
    (ap is_end text ∙ sym c.eq.ensures ∙ c.if-eq.false) (ap is_flag text ∙ sym c.eq-in-loop-word.ensures ∙ c.if-eq-2.false)) ∙ c.loop-word.invariant
