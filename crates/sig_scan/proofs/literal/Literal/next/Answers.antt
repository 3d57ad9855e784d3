use Rattle.sig_scan.proofs.Common.{ℕ, ◌+◌, ◌-◌, arith, subst, sym, Some, None, IsFirst, LiteralView, StandsAt}
use Rattle.sig_scan.proofs.LiteralLemmas.{IsBehind, IsFirst-no_offset, IsFirst-offset}
use Rattle.sig_scan.proofs.literal.Literal.next.Goals as goal

pub returns-in_err-place : goal.returns-in_err-place
returns-in_err-place c =
    let bytes = c.args.bytes.now in
    let l : LiteralView = c.args.self.now in
    let P : ℕ → Type 0 = λ n. IsFirst (StandsAt l bytes) (c.args.from + n) (c.min-end.result - 1 + n + 1) None in
    rw c.from_residual.ensures
    (IsFirst-no_offset bytes l c.args.from c.min-end.result c.args.to c.min-end.ensures (λ _. subst P c.at-at.ensures.at c.in_err-place.ensures))

pub returns : goal.returns
returns c =
    let bytes = c.args.bytes.now in
    let l : LiteralView = c.args.self.now in
    let place = c.in_ok-place.place in
    let P : ℕ → Type 0 = λ n. IsFirst (StandsAt l bytes) (c.args.from + n) (c.min-end.result - 1 + n + 1) (Some place) in
    let Q : ℕ → Type 0 = λ n. IsFirst (IsBehind bytes l) c.args.from c.args.to (Some (place - n)) in
    subst Q (sym c.at-at.ensures.at)
    (IsFirst-offset bytes l c.args.from c.min-end.result c.args.to place (omega arith) c.min-end.ensures (subst P c.at-at.ensures.at c.in_ok-place.ensures))
