use Rattle.std.proofs.Common.{◌≡◌, false, string_bytes, subst, true}
use Rattle.sig_bits.specs.Device.{Adds}
use Rattle.sig_engines.specs.Finding.{is_answered}
use Rattle.sig_engines.specs.declared.progress.Things.TheVariants.{Products}
use Rattle.sig_engines.proofs.FoundLemmas.{shown_adds, why_is_told}
use Rattle.sig_engines.proofs.WriteLemmas.{printed}
use Rattle.sig_engines.proofs.find_engine.run_find.Goals as goal

pub returns-in-Ok-true-clause-answers : goal.returns-in-Ok-true-clause-answers
returns-in-Ok-true-clause-answers g c =
    let answered : true ≡ is_answered c.in-Ok.found = cc (c.in-Ok-true.ensures.answered, c.in-Ok-true.field-0-test) in
    record {
      adds = record { found = c.in-Ok.found; is_found = c.in-Ok.ensures.found; is = answered; adds = c.in-Ok-true.ensures.lines };
      kept = c.in-Ok-true.ensures.made;
    }

pub returns-in-Ok-false-clause-answers : goal.returns-in-Ok-false-clause-answers
returns-in-Ok-false-clause-answers g c =
    let answered : false ≡ is_answered c.in-Ok.found = cc (c.in-Ok-false.ensures.answered, c.in-Ok-false.field-0-test) in
    record {
      adds = record { found = c.in-Ok.found; is_found = c.in-Ok.ensures.found; is = answered; adds = c.in-Ok-false.ensures.lines };
      kept = c.in-Ok-false.ensures.made;
    }

pub returns-in-Ok-false-clause-why : goal.returns-in-Ok-false-clause-why
returns-in-Ok-false-clause-why g c given whole =
    let answered : false ≡ is_answered c.in-Ok.found = cc (c.in-Ok-false.ensures.answered, c.in-Ok-false.field-0-test) in
    let mid = g.E.Output.written c.search.new.err in
    let after = g.E.Output.written c.put.new.err in
    why_is_told c.args.ask.progress c.args.ask.hex c.args.table.now c.args.ask.budget c.in-Ok.found (string_bytes c.in-Ok-reason_of.reason)
    (g.W.Output.written c.args.out.now) (g.W.Output.written c.write_answer.new.out) (g.E.Output.written c.args.err.now) mid after
    c.in-Ok.ensures.found answered c.in-Ok-reason_of.ensures c.in-Ok-false.ensures.lines
    (shown_adds c.args.ask.progress Products (g.E.Output.failed c.search.new.err) g.E.Output.written c.args.err.now c.search.new.err c.search.ensures.shown
    (c.put.ensures.sound whole))
    (subst (λ l. Adds mid l after) c.as_str.ensures.value (printed c.put.result _ mid after _ c.put.ensures.prints whole))
