use Rattle.std.proofs.Common.{◌≤◌, ◌+◌, length, drop, sym, ◌∙◌, arith, length-drop}
use Rattle.std.proofs.lemmas.List.{drop-drop, take_rest}
use Rattle.sig_expr.proofs.WholePairLemmas.{stop_behind_pair}
use Rattle.sig_expr.proofs.parser.syntax_place.Goals as goal

pub text-preserved-in-text : goal.text-preserved-in-text
text-preserved-in-text c =
    let place = c.text.place in
    let text = c.args.text.now in
    let pair = rw (take_rest text place) at (sym c.in-Some.ensures.byte) in
    let two : place + 2 ≤ length text = let two = rw (take_rest text place) at c.in-Some.ensures.within in omega (arith, length-drop place text) in
    record {
      within = two;
      same = rw (c.next-state.ensures, ← drop-drop 2 place text) (sym
          (stop_behind_pair c.text.state (sym c.is_between.ensures ∙ c.if-is_between.true) place c.in-Some.byte (drop place text) pair)
          ∙ c.text.invariant.same);
    }
