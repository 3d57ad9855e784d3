use Rattle.std.proofs.Common.{◌≡◌, rules}
use Rattle.std.specs.Prelude.{IfSome}
use Rattle.sig_engines.specs.Witnessed.{AddsWitness}
use Rattle.sig_engines.proofs.witness_engine.run_witness.Goals as goal

pub returns-clause-answers : goal.returns-clause-answers
returns-clause-answers g c =
    let to_come : IfSome (g.R.Input.to_come c.args.file.now) (λ all. c.deref.result.now ≡ all) = search rules in
    let adds : AddsWitness c.is_some.result c.args.table.now c.deref.result.now (g.W.Output.written c.args.out.now) (g.W.Output.written c.write_all.new.self) =
    search rules in
    record { file = c.deref.result.now; bytes = c.in_ok-two.ensures.bytes; is_to_come = to_come; adds_witness = adds }
