use Rattle.std.proofs.Common.{arith, refl, ◌<◌, length, get_or, ℕ, subst, List}
use Rattle.std.proofs.lemmas.Bool.{false≢true}
use Rattle.std.proofs.lemmas.List.{take_all}
use Rattle.sig_match.specs.declared.whole.frontier.Interval.{Interval}
use Rattle.sig_match.specs.Frontiers.{IsWithin, Meets}
use Rattle.sig_match.proofs.FrontierLemmas.{IsIn-at, Meets-none_more, nowhere}
use Rattle.sig_match.proofs.whole.anchored.overlaps.Goals as goal

pub loop-interval-init : goal.loop-interval-init
loop-interval-init c = λ h. absurd h.is_in

pub returns-then-max-min : goal.returns-then-max-min
returns-then-max-min c =
    let frontier = c.args.frontier.now in
    let i = c.loop-interval.interval-index in
    let at : c.loop-interval.interval-index < length c.args.frontier.now = omega arith in (
      λ _. record {
        offset = c.max.result;
        is_in = IsIn-at frontier i (get_or frontier i nowhere) c.max.result at refl (omega arith, omega arith);
        is_offset = (omega arith, omega arith);
      },
      λ _. refl,
    )

pub loop-interval-preserved : goal.loop-interval-preserved
loop-interval-preserved c =
    let x : Interval = get_or c.args.frontier.now c.loop-interval.interval-index nowhere in
    Meets-none_more (IsWithin c.args.other) c.args.frontier.now c.loop-interval.interval-index x (omega arith) refl
    (λ (o : ℕ) (within : IsWithin x o) (other : IsWithin c.args.other o). let a = within.0 in let b = within.1 in let d = other.0 in let e = other.1 in
    omega arith)
    c.loop-interval.invariant

pub returns : goal.returns
returns c =
    let P : List Interval → Type 0 = λ l. Meets (IsWithin c.args.other) l → ⊥ in
    let none = subst P (take_all c.loop-interval.interval-index c.args.frontier.now (omega arith)) c.loop-interval.invariant in
    (λ t. absurd (false≢true t), λ h. absurd (none h))
