use Rattle.sig_auto.proofs.Common.{false, arith, rules, tests, ◌-◌, Within, Cell}
use Rattle.sig_auto.proofs.BehindLemmas.{a_cell, between_ends, guessed}
use Rattle.sig_auto.proofs.behind.find.Goals as goal

pub returns : goal.returns
returns c = between_ends c.args.cells.now c.args.p c.loop-high.low c.loop-high.high c.requires.ready.lined c.requires.within c.loop-high.invariant (omega arith)
    a_cell

pub returns-then-cells-guess : goal.returns-then-cells-guess
returns-then-cells-guess c =
    let d : Cell = record { class = Within 0 0; before = 0; count = 0; least = 0; endless = false; front = 0; behind = 0 } in
    guessed c.args.cells.now c.args.p (c.args.p - 1) d c.requires.ready.lined c.requires.above (search (rules, tests)) (search (rules, tests))
