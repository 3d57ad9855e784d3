use Rattle.std.proofs.Common.{◌≡◌, ap, ◌∙◌}
use Rattle.std.proofs.lemmas.Result.{err_from_is_err_and}
use Rattle.sig_engines.specs.Fates.{fates_line}
use Rattle.sig_engines.proofs.FateLemmas.{all_answered, last_is_cut}
use Rattle.sig_engines.proofs.dead_engine.run_dead.Goals as goal

pub returns-in_err-write_line-clause-cut : goal.returns-in_err-write_line-clause-cut
returns-in_err-write_line-clause-cut g c =
    let p = err_from_is_err_and c.from_residual-in_err-write_line.result c.from_residual-in_err-write_line.ensures.1 in
    let formats = c.in_ok-found.found.formats.items in
    let is : c.as_str.result.now ≡ fates_line formats c.in_ok-found.found.signatures.items =
    c.as_str.ensures.value ∙ c.in_ok-line.ensures ∙ ap (λ l. fates_line l c.deref-2.result.now) c.deref.ensures.value ∙ ap (fates_line formats)
    c.deref-2.ensures.value in
    rw (p.1, p.2) (last_is_cut c.in_err-write_line.field-0.0 c.args.with_hex c.args.table.now c.args.budget formats c.in_ok-found.found.signatures.items
    c.as_str.result.now _ (g.W.Output.written c.args.out.now) (g.W.Output.written c.write_formats.new.out) _ c.in_ok-found.ensures.told is
    c.in_err-write_line.ensures.cut)

pub returns-clause-answers : goal.returns-clause-answers
returns-clause-answers g c =
    let formats = c.in_ok-found.found.formats.items in
    let is : c.as_str.result.now ≡ fates_line formats c.in_ok-found.found.signatures.items =
    c.as_str.ensures.value ∙ c.in_ok-line.ensures ∙ ap (λ l. fates_line l c.deref-2.result.now) c.deref.ensures.value ∙ ap (fates_line formats)
    c.deref-2.ensures.value in
    all_answered c.args.with_hex c.args.table.now c.args.budget formats c.in_ok-found.found.signatures.items c.as_str.result.now
    (g.W.Output.written c.args.out.now) (g.W.Output.written c.write_formats.new.out) (g.W.Output.written c.write_line.new.out) c.are_alive.result
    c.in_ok-found.ensures.told is c.in_ok-write_line.ensures.adds c.are_alive.ensures
