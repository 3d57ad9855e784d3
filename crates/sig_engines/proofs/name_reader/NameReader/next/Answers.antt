use Rattle.std.proofs.Common.{Ok, ap, sym, ◌∙◌}
use Rattle.sig_engines.proofs.TakenLemmas.{last_taken, none_taken, taken}
use Rattle.sig_engines.proofs.name_reader.NameReader.next.Goals as goal

pub returns-in-Ok-true-clause-takes : goal.returns-in-Ok-true-clause-takes
returns-in-Ok-true-clause-takes g c = λ is.
    let moves = rw c.in-Ok-true.field-0-test at c.in-Ok-true.ensures.moves in
    rw (sym c.pieces.invariant.end) (taken c.pieces.self.end _ _ _ _ _ _ c.pieces.invariant.lacks c.pieces.invariant.given moves)

pub returns-in-Ok-false-refill-clause-takes : goal.returns-in-Ok-false-refill-clause-takes
returns-in-Ok-false-refill-clause-takes g c = λ is.
    let moves = rw c.in-Ok-false.field-0-test at c.in-Ok-false.ensures.moves in
    let ended = c.refill.ensures.none (c.in-Ok-false-refill.is ∙ ap Ok c.in-Ok-false-refill.field-0-test) in
    rw (sym c.pieces.invariant.end) (last_taken c.pieces.self.end _ _ _ _ _ _ _ _ c.pieces.invariant.lacks c.pieces.invariant.given moves
    c.in-Ok-false-refill.ensures.gives ended.0 ended.1 _ (rw (sym c.move_name.new.name.ok.0) c.is_empty.ensures) is)

pub returns-in-Ok-false-refill-clause-done : goal.returns-in-Ok-false-refill-clause-done
returns-in-Ok-false-refill-clause-done g c = λ is.
    let moves = rw c.in-Ok-false.field-0-test at c.in-Ok-false.ensures.moves in
    let ended = c.refill.ensures.none (c.in-Ok-false-refill.is ∙ ap Ok c.in-Ok-false-refill.field-0-test) in
    rw (sym c.pieces.invariant.end) (none_taken c.pieces.self.end _ _ _ _ _ _ _ _ c.pieces.invariant.lacks c.pieces.invariant.given moves
    c.in-Ok-false-refill.ensures.gives ended.0 ended.1 _ (rw (sym c.move_name.new.name.ok.0) c.is_empty.ensures) is)
