use Rattle.std.proofs.Common.{[], ◌∷◌}
use Rattle.std.proofs.lemmas.List.{drop_all}
use Rattle.sig_expr.specs.Canon.{alternatives_text}
use Rattle.sig_expr.proofs.WritingLemmas.{wrote_nothing, wrote_more}
use Rattle.sig_expr.proofs.CanonLemmas.{alternatives_text-rest}
use Rattle.sig_expr.proofs.printer.put_alternatives.Goals as goal

pub loop-alternative-preserved : goal.loop-alternative-preserved
loop-alternative-preserved g c = λ end w.
    c.loop-alternative.invariant end (rw (
      alternatives_text-rest (c.loop-alternative.sign ∷ []) c.args.alternatives.now c.loop-alternative.alternative-index
          c.alternative-item.result c.loop-alternative-test.true,
      ← c.alternative-item.is,
      ← c.as_slice.ensures.value,
    )
    (wrote_more _ _ _ _ _ c.in_ok-put.ensures.wrote (wrote_more _ _ _ _ _ c.in_ok-put_alternative.ensures.wrote w)))

pub returns : goal.returns
unfolding alternatives_text
returns g c =
    record {
      fails = tt;
      wrote = c.loop-alternative.invariant _ (rw (drop_all c.loop-alternative.alternative-index c.args.alternatives.now
          c.loop-alternative-test.false) (wrote_nothing _));
    }
