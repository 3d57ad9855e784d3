use Rattle.std.proofs.Common.{rules}
use Rattle.sig_table.proofs.LinkLemmas.{linked_from-end, linked_from-more}
use Rattle.sig_table.proofs.signatures_of.SignaturesOfIterator.next.Goals as goal

pub returns-then-place-self-clause-steps : goal.returns-then-place-self-clause-steps
returns-then-place-self-clause-steps c =
    let none = linked_from-end c.args.self.now.nexts.now c.args.self.now.place c.if-place-self.true in
    (none, none)

pub returns-clause-steps : goal.returns-clause-steps
returns-clause-steps c = linked_from-more c.args.self.now.nexts.now c.args.self.now.place c.args.self.now.rise c.if-place-self.false

pub returns-clause-goes : goal.returns-clause-goes
returns-clause-goes c = let steps = returns-clause-steps c in search rules
