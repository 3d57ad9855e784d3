use Rattle.std.proofs.Common.{◌≡◌, ◌+◌, ◌++◌, List, ℕ, flat_map, get_or, map, take, subst}
use Rattle.std.proofs.lemmas.List.{take_all}
use Rattle.sig_cert.specs.Layouts.{four_bytes}
use Rattle.sig_table.specs.declared.ids.SigId.{SigId}
use Rattle.sig_find.proofs.WrittenLemmas.{flat_more, pushed}
use Rattle.sig_find.proofs.writer.write_blockers.Goals as goal

pub loop-blocker-preserved : goal.loop-blocker-preserved
loop-blocker-preserved c =
    let blockers : List SigId = c.args.blockers.now in
    let number : SigId → ℕ = λ b. b.0 in
    let i = c.loop-blocker.blocker-index in
    pushed c.args.out.now.items (flat_map four_bytes (map number (take i blockers))) (four_bytes (get_or blockers i (record { 0 = 0 })).0)
    (flat_map four_bytes (map number (take (i + 1) blockers)))
    c.loop-blocker.out.items c.write_four.new.out.items c.loop-blocker.invariant c.in_ok-write_four.ensures
    (flat_more four_bytes number blockers i (record { 0 = 0 }) c.loop-blocker-test.true)

pub returns : goal.returns
returns c =
    let number : SigId → ℕ = λ b. b.0 in
    subst (λ (xs : List SigId). c.loop-blocker.out.items ≡ c.args.out.now.items ++ flat_map four_bytes (map number xs))
    (take_all c.loop-blocker.blocker-index c.args.blockers.now c.loop-blocker-test.false) c.loop-blocker.invariant
