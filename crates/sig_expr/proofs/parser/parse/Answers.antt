use Rattle.std.proofs.Common.{◌≡◌, inl, Some, None, rules, arith}
use Rattle.sig_expr.specs.Reading.{start}
use Rattle.sig_expr.specs.Passes.{stop_of, fault_in}
use Rattle.sig_expr.specs.Texts.{expr_of}
use Rattle.sig_expr.proofs.FaultLemmas.{fault_means}
use Rattle.sig_expr.proofs.FirstFaultLemmas.{found_first}
use Rattle.sig_expr.proofs.ShortestLemmas.{is_expression}
use Rattle.sig_expr.proofs.RefusalLemmas.{spells_built, no_text}
use Rattle.sig_expr.proofs.parser.parse.Goals as goal

pub returns-in-Some-clause-refused : goal.returns-in-Some-clause-refused
returns-in-Some-clause-refused c =
    let stops : stop_of c.args.text.now ≡ Some c.in-Some.place = search rules in
    no_text c.args.text.now c.in-Some.place (omega arith) stops

pub returns-in-Some-first_fault-clause-exact : goal.returns-in-Some-first_fault-clause-exact
unfolding expr_of
returns-in-Some-first_fault-clause-exact c =
    inl (search rules)

pub returns-in-Some-first_fault-clause-refused : goal.returns-in-Some-first_fault-clause-refused
returns-in-Some-first_fault-clause-refused c =
    let stops : stop_of c.args.text.now ≡ None = search rules in
    let faulty : fault_in c.args.text.now ≡ Some c.in-Some-first_fault.fault = search rules in
    fault_means start 0 0 c.args.text.now c.in-Some-first_fault.fault faulty c.args.text.now
    (found_first c.in-Some-first_fault.fault c.args.text.now (omega arith) stops faulty)

pub new-requires : goal.new-requires
new-requires c =
    let stops : stop_of c.args.text.now ≡ None = search rules in
    let quiet : fault_in c.args.text.now ≡ None = search rules in
    let built = spells_built c.args.text.now (omega arith) stops quiet in
    rw c.in-Ok.ensures (is_expression _ c.args.text.now built.0 built.1)

pub returns-in-Ok-clause-spelled : goal.returns-in-Ok-clause-spelled
returns-in-Ok-clause-spelled c =
    let stops : stop_of c.args.text.now ≡ None = search rules in
    let quiet : fault_in c.args.text.now ≡ None = search rules in
    rw (c.new.ensures, c.in-Ok.ensures) (spells_built c.args.text.now (omega arith) stops quiet)

pub returns-in-Err-clause-refused : goal.returns-in-Err-clause-refused
returns-in-Err-clause-refused c =
    let stops : stop_of c.args.text.now ≡ None = search rules in
    let quiet : fault_in c.args.text.now ≡ None = search rules in
    (spells_built c.args.text.now (omega arith) stops quiet).0
