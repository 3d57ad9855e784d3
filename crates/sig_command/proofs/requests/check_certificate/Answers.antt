use Rattle.std.proofs.Common.{refl, rules}
use Rattle.sig_command.proofs.StoreLemmas.{check_is_answered}
use Rattle.sig_command.proofs.requests.check_certificate.Goals as goal

pub returns-in-Ok-clause-answered : goal.returns-in-Ok-clause-answered
returns-in-Ok-clause-answered g c = record {
  answers = check_is_answered (g.S.Store.held c.args.store.now) _ c.args.table c.args.name c.in_ok-table.table
      (g.S.Reader.Input.to_come c.in_ok-certificate.certificate) (g.W.Output.written c.args.out.now) (g.W.Output.written c.run_check.new.out)
      c.in-Ok.is_accepted
      refl c.in_ok-table.ensures.read c.in_ok-certificate.ensures.opens c.in-Ok.ensures.answers;
  shown = search rules;
}
