use Rattle.std.proofs.Common.{◌≡◌, [], string_bytes, subst, sym, ◌∙◌, length}
use Rattle.std.proofs.lemmas.Bool.{eqb-true}
use Rattle.std.proofs.lemmas.List.{nil_from_length}
use Rattle.sig_bits.specs.Device.{Adds}
use Rattle.sig_engines.specs.declared.progress.Things.TheVariants.{Pairs}
use Rattle.sig_engines.proofs.FoundLemmas.{shown_adds}
use Rattle.sig_engines.proofs.TellingLemmas.{adds_nothing}
use Rattle.sig_engines.proofs.WriteLemmas.{printed}
use Rattle.sig_engines.proofs.settling.settle.Goals as goal
use Rattle.sig_engines.proofs.settling.settle.Goals.{then-not-is_empty, else-not-is_empty}

pub returns-clause-settles : goal.returns-clause-settles
returns-clause-settles g c =
    let refused = string_bytes c.in_ok-answer.answer.refused in
    let mid = g.E.Output.written c.search.new.err in
    elim c.if-not-is_empty.branch [
      | then-not-is_empty w ↦
          rw w.err-is (record {
            refused = refused;
            adds = c.in_ok-answer.ensures.answers;
            tells = λ whole. record {
              mid = mid;
              shows = shown_adds c.args.progress Pairs (g.E.Output.failed c.search.new.err) g.E.Output.written c.args.err.now c.search.new.err
                  c.in_ok-answer.ensures.shown (w.put.ensures.sound whole);
              tells = subst (λ l. Adds mid l (g.E.Output.written w.put.new.err)) c.as_str-refused.ensures.value
                  (printed w.put.result _ mid (g.E.Output.written w.put.new.err) _ w.put.ensures.prints whole);
            };
          })
      | else-not-is_empty w ↦
          let empty : c.as_str-refused.result.now ≡ [] = nil_from_length c.as_str-refused.result.now
          (eqb-true (length c.as_str-refused.result.now) 0 (sym c.is_empty.ensures ∙ w.if-not-is_empty.false)) in
          rw w.err-is (record {
            refused = refused;
            adds = c.in_ok-answer.ensures.answers;
            tells = λ whole. record {
              mid = mid;
              shows = shown_adds c.args.progress Pairs (g.E.Output.failed c.search.new.err) g.E.Output.written c.args.err.now c.search.new.err
                  c.in_ok-answer.ensures.shown whole;
              tells = subst (λ l. Adds mid l mid) (sym empty ∙ c.as_str-refused.ensures.value) (adds_nothing mid);
            };
          })
    ]
