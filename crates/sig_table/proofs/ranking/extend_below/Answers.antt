use Rattle.std.proofs.Common.{◌≡◌, [], ◌∙◌, sym, get_or, arith}
use Rattle.std.proofs.lemmas.List.{get_or-set_other, get_or_default, length-set}
use Rattle.sig_table.specs.declared.format_set.FormatSet.{FormatSet}
use Rattle.sig_table.specs.RankingViews.{AreBelow}
use Rattle.sig_table.proofs.BelowLemmas.{one_more, there-already}
use Rattle.sig_table.proofs.ranking.extend_below.Goals as goal

pub extend_set-requires-clause-there : goal.extend_set-requires-clause-there
extend_set-requires-clause-there c =
    let none : FormatSet = record { bits = [] } in
    let lowest : FormatSet = get_or c.args.below.now c.args.lower.0 none in
    let old : FormatSet = get_or c.loop-x.below c.loop-x.x none in
    let as_before = c.loop-x.invariant.later c.loop-x.x (omega arith) old in
    let at : get_or c.loop-x.below c.loop-x.x old ≡ old = get_or_default c.loop-x.below c.loop-x.x old none (omega (arith, c.loop-x.invariant.same_length)) in
    there-already c.args.below.now c.requires.below.0 c.requires.below.1 c.args.higher.0 c.args.lower.0 lowest c.insert.new.self
    c.requires.lower (get_or_default c.args.below.now c.args.lower.0 lowest none c.requires.lower) c.insert.ensures
    c.loop-x.x old c.loop-x-test.true (sym as_before ∙ at)

pub loop-x-preserved : goal.loop-x-preserved
loop-x-preserved c = record {
  same_length = length-set c.loop-x.below c.loop-x.x _ ∙ c.loop-x.invariant.same_length;
  later = λ k past set. get_or-set_other c.loop-x.below c.loop-x.x k _ set (λ e. omega arith) ∙ c.loop-x.invariant.later k (omega arith) set;
  done = λ pairs rows.
      let none : FormatSet = record { bits = [] } in
      let lowest : FormatSet = get_or c.args.below.now c.args.lower.0 none in
      let old : FormatSet = get_or c.loop-x.below c.loop-x.x none in
      let at : get_or c.loop-x.below c.loop-x.x old ≡ old = get_or_default c.loop-x.below c.loop-x.x old none (omega (arith, c.loop-x.invariant.same_length)) in
      one_more c.args.below.now pairs rows c.args.higher.0 c.args.lower.0 lowest c.insert.new.self
      c.requires.lower (get_or_default c.args.below.now c.args.lower.0 lowest none c.requires.lower) c.insert.ensures
      c.loop-x.below c.loop-x.x old c.extend_set.new.set (omega (arith, c.loop-x.invariant.same_length)) c.loop-x.invariant.same_length at
      (c.loop-x.invariant.later c.loop-x.x (omega arith) old) c.extend_set.ensures (c.loop-x.invariant.done pairs rows);
}

pub returns : goal.returns
unfolding AreBelow
returns c pairs rows k within set at = c.loop-x.invariant.done pairs rows k (omega (arith, c.loop-x.invariant.same_length)) set at
