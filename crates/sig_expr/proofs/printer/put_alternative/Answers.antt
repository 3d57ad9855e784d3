use Rattle.std.proofs.lemmas.List.{drop_all}
use Rattle.sig_expr.specs.Canon.{alternative_text}
use Rattle.sig_expr.proofs.WritingLemmas.{wrote_nothing, wrote_more}
use Rattle.sig_expr.proofs.CanonLemmas.{alternative_text-rest}
use Rattle.sig_expr.proofs.printer.put_alternative.Goals as goal

pub loop-atom-preserved : goal.loop-atom-preserved
loop-atom-preserved g c = λ end w.
    c.loop-atom.invariant end (rw (
      alternative_text-rest c.args.alternative.now c.loop-atom.atom-index c.atom-item.result c.loop-atom-test.true,
      ← c.atom-item.is,
    ) (wrote_more _ _ _ _ _ c.in_ok-put_atom.ensures.wrote w))

pub returns : goal.returns
unfolding alternative_text
returns g c =
    record {
      fails = tt;
      wrote = c.loop-atom.invariant _ (rw (drop_all c.loop-atom.atom-index c.args.alternative.now c.loop-atom-test.false) (wrote_nothing _));
    }
