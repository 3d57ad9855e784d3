use Rattle.sig_auto.proofs.Common.{◌∙◌, arith, inl, inr, length, refl, rules, sym, cases_lt, false≢true, lt-ltb, ltb-true, slice_get_past, slice_get_read}
use Rattle.sig_auto.proofs.CellStepLemmas.{enters_none, enters_one, first_room}
use Rattle.sig_auto.proofs.step.enter_if.Goals as goal

pub set_bit-requires : goal.set_bit-requires
set_bit-requires c =
    let cells = c.args.cells.now in
    let here = slice_get_read cells (length cells) c.args.at c.in-Some.cell.now refl (ltb-true c.args.at (length cells) (sym c.in-Some.ensures.lookup.0))
    c.in-Some.ensures.lookup.1 in
    let room = first_room cells c.args.at c.in-Some.cell.now c.requires.ready.lined here in
    omega arith

pub returns-in-Some : goal.returns-in-Some
returns-in-Some c =
    let cells = c.args.cells.now in
    let here = slice_get_read cells (length cells) c.args.at c.in-Some.cell.now refl (ltb-true c.args.at (length cells) (sym c.in-Some.ensures.lookup.0))
    c.in-Some.ensures.lookup.1 in
    enters_one cells c.args.to.now c.set_bit.new.bits c.args.at _ c.in-Some.cell.now c.args.is_entered (search rules) here refl c.set_bit.ensures

pub returns-in_default : goal.returns-in_default
returns-in_default c = enters_none c.args.cells.now c.args.to.now c.args.at c.args.is_entered
    (inr (slice_get_past c.args.cells.now c.args.at (elim (cases_lt c.args.at (length c.args.cells.now)) [
      | inl low ↦ absurd (false≢true (c.in_default.ensures.lookup.0 ∙ lt-ltb c.args.at (length c.args.cells.now) low))
      | inr past ↦ past
    ])))
