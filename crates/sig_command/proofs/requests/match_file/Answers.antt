use Rattle.std.proofs.Common.{Err, ap, refl, rules, subst}
use Rattle.std.proofs.lemmas.Result.{err_from_is_err_and}
use Rattle.sig_engines.specs.Lines.{AddsLinesOfSome}
use Rattle.sig_command.specs.declared.args.Request.TheVariants.{Match}
use Rattle.sig_command.proofs.FaultLemmas.{file_unopened, read_last, run_fault}
use Rattle.sig_command.proofs.StoreLemmas.{has_opened, match_fault, match_is_answered}
use Rattle.sig_command.proofs.requests.match_file.Goals as goal

pub returns-in-Ok-clause-answered : goal.returns-in-Ok-clause-answered
returns-in-Ok-clause-answered g c =
    let before = g.W.Output.written c.args.out.now in
    let after = g.W.Output.written c.run_match.new.out in
    let to_come = g.S.Reader.Input.to_come c.in_ok-file.file in
    record {
      answers = match_is_answered (g.S.Store.held c.args.store.now) _ c.args.all c.args.table c.args.name c.in_ok-load.field-0 to_come before after refl
          c.in_ok-load.ensures.read c.in_ok-file.ensures.opens
          (subst (λ t. AddsLinesOfSome c.args.all t to_come before after) c.new-core.ensures c.in-Ok.ensures.answers);
      shown = search rules;
    }

pub returns-in_err-file-clause-refused : goal.returns-in_err-file-clause-refused
returns-in_err-file-clause-refused g c =
    let p = err_from_is_err_and c.from_residual-in_err-file.result c.from_residual-in_err-file.ensures.1 in
    rw (p.1, p.2) (file_unopened g.S.Reader.Input.failed g.S.Writer.Output.failed (g.S.Store.held c.args.store.now) c.args.all c.args.table c.args.name
    c.in_ok-load.field-0 g.W.Output.failed g.W.Output.written c.args.out.now _ c.in_ok-load.ensures.read c.in_err-file.ensures.unopened)

pub returns-clause-refused : goal.returns-clause-refused
returns-clause-refused g c =
    let refuses = c.in-Err.ensures.refuses in
    run_fault g.S.Reader.Input.failed g.S.Writer.Output.failed (g.S.Store.held c.args.store.now) (Match c.args.all c.args.table c.args.name) g.W.Output.failed
    g.W.Output.written c.args.out.now c.run_match.new.out c.in-Err.error tt
    (match_fault g.S.Reader.Input.failed (g.S.Store.held c.args.store.now) c.args.table c.args.name c.args.all c.in_ok-load.field-0 c.in-Err.error
    c.in_ok-load.ensures.read (has_opened _ _ _ c.in_ok-file.ensures.opens)
    (λ same. record { reader = c.run_match.new.file; has_failed = refuses.read (ap Err same) }))
    (λ same. refuses.write (ap Err same))
    (read_last c.in-Err.error _ (λ same. refuses.read_stays (ap Err same)) (λ same. refuses.memory_stays (ap Err same)))
