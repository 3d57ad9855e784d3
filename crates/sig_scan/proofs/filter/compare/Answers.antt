use Rattle.sig_scan.proofs.Common.{get_or, inl, inr, get_or_default, State}
use Rattle.sig_scan.proofs.FilterLemmas.{IsPassedAt-none, IsPassedAt-set}
use Rattle.sig_scan.proofs.filter.compare.Goals as goal
use Rattle.sig_scan.proofs.filter.compare.Goals.{else-k-states-via-then-k-states+else-k-found, else-k-states-via-else-k-states}

pub returns-then-k-found-clause-passed : goal.returns-then-k-found-clause-passed
returns-then-k-found-clause-passed c =
    let e = c.args.entry.now in
    let states = c.args.states.now in
    let zero : State = record { done = 0; from = 0 } in
    let v : State = get_or states e.sequence zero in
    IsPassedAt-set e c.args.bytes.now states c.args.place c.args.found.now c.first_of.result v c.if-k-states.true c.if-k-found.true
    (get_or_default states e.sequence zero v c.if-k-states.true) c.first_of.ensures.passed

pub returns-else-k-states-clause-passed : goal.returns-else-k-states-clause-passed
returns-else-k-states-clause-passed c =
    let e = c.args.entry.now in
    elim c.else-k-states.branch [
      | else-k-states-via-then-k-states+else-k-found w ↦ IsPassedAt-none e c.args.bytes.now c.args.states.now c.args.place c.args.found.now
          (inr w.if-k-found.false)
      | else-k-states-via-else-k-states w ↦ IsPassedAt-none e c.args.bytes.now c.args.states.now c.args.place c.args.found.now (inl w.if-k-states.false)
    ]
