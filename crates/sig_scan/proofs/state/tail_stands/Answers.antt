use Rattle.sig_scan.proofs.Common.{ℕ, ◌+◌, ◌-◌, List, arith, false, length, subst, take, ◌↔◌, IsTrue, false≢true, Item, IsLeastEnd, AreBounded, TailStands}
use Rattle.sig_scan.proofs.Common.{TailView}
use Rattle.sig_scan.proofs.StateLemmas.{TailStands-close, TailStands-judged, TailStands-literal, TailStands-nowhere}
use Rattle.sig_scan.proofs.state.tail_stands.Goals as goal

pub returns-clause-stands : goal.returns-clause-stands
returns-clause-stands c =
    let t : TailView = record { items = c.tail.inside.items.items; min = c.tail.inside.min; max = c.tail.inside.max } in
    let bytes = c.args.bytes.now in
    let last : ℕ = length bytes - c.from-min.result in
    let near = c.max-near.result in
    let first = c.in-Some.first in
    let longest = c.tail.invariant.0 in
    let P : TailView → Type 0 = λ v. AreBounded v.items → IsTrue c.is_some.result ↔ TailStands v bytes c.args.from in
    subst P c.tail.view_is
    (λ bounded.
    let close = TailStands-close t bytes c.args.from near c.saturating_sub.result bounded (omega arith) (omega arith) in
    let behind = TailStands-literal t c.tail.inside.literal bytes near first last c.tail.invariant.1 (omega arith) (omega arith) c.in-Some.ensures.0.low
    c.in-Some.ensures.0.before in
    let judged : IsTrue c.is_some.result ↔ TailStands t bytes first =
    rw c.is_some.ensures
    (TailStands-judged t bytes first last c.saturating_sub-least.result c.first_end.result (omega arith) (omega arith) (omega arith)
    (subst (λ (l : List Item). IsLeastEnd l (take last bytes) first (last + 1) c.saturating_sub-least.result c.first_end.result)
    c.deref.ensures.value c.first_end.ensures.end)) in
    (λ yes. close.1 (behind.1 (judged.0 yes)), λ w. judged.1 (behind.0 (close.0 w))))

pub returns-in_default-clause-stands : goal.returns-in_default-clause-stands
returns-in_default-clause-stands c =
    let t : TailView = record { items = c.tail.inside.items.items; min = c.tail.inside.min; max = c.tail.inside.max } in
    let bytes = c.args.bytes.now in
    let last : ℕ = length bytes - c.from-min.result in
    let near = c.max-near.result in
    let longest = c.tail.invariant.0 in
    let P : TailView → Type 0 = λ v. AreBounded v.items → IsTrue false ↔ TailStands v bytes c.args.from in
    subst P c.tail.view_is
    (λ bounded.
    let close = TailStands-close t bytes c.args.from near c.saturating_sub.result bounded (omega arith) (omega arith) in
    let never = TailStands-nowhere t c.tail.inside.literal bytes near last c.tail.invariant.1 (omega arith) (omega arith) c.in_default.ensures in
    (λ no. absurd (false≢true no), λ w. absurd (never (close.0 w))))
