use Rattle.std.proofs.lemmas.List.{drop_all}
use Rattle.hex.specs.Hex.{encode_with}
use Rattle.sig_expr.proofs.WritingLemmas.{wrote_nothing, wrote_more}
use Rattle.sig_expr.proofs.CanonLemmas.{encode_upper-rest}
use Rattle.sig_expr.proofs.printer.put_word.Goals as goal

pub loop-byte-preserved : goal.loop-byte-preserved
loop-byte-preserved g c = λ end w.
    c.loop-byte.invariant end (rw (encode_upper-rest c.as_bytes-byte-items.result.now c.loop-byte.byte-index 0 c.loop-byte-test.true)
    (wrote_more _ _ _ _ _ c.in_ok-put_pair.ensures.wrote w))

pub returns : goal.returns
unfolding encode_with
returns g c =
    record {
      fails = tt;
      wrote = rw (← c.as_bytes-byte-items.ensures.bytes)
          (c.loop-byte.invariant _ (rw (drop_all c.loop-byte.byte-index c.as_bytes-byte-items.result.now c.loop-byte-test.false) (wrote_nothing _)));
    }
