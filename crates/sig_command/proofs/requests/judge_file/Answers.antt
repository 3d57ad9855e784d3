use Rattle.std.proofs.Common.{refl, rules}
use Rattle.sig_command.proofs.StoreLemmas.{witness_is_answered}
use Rattle.sig_command.proofs.requests.judge_file.Goals as goal

pub returns-in-Ok-clause-answered : goal.returns-in-Ok-clause-answered
returns-in-Ok-clause-answered g c = record {
  answers = witness_is_answered (g.S.Store.held c.args.store.now) _ c.args.table c.args.name c.in_ok-table.table (g.S.Reader.Input.to_come c.in_ok-file.file)
      (g.W.Output.written c.args.out.now) (g.W.Output.written c.run_witness.new.out) c.in-Ok.is_ambiguous
      refl c.in_ok-table.ensures.read c.in_ok-file.ensures.opens c.in-Ok.ensures.answers;
  shown = search rules;
}
