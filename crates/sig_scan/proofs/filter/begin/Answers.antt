use Rattle.sig_scan.proofs.Common.{◌≤◌, ℕ, List, ap, arith, get_or, length, sym, subst, get_or_default, set, AreOwned, State}
use Rattle.sig_scan.proofs.FilterLemmas.{AreOwned-set}
use Rattle.sig_scan.proofs.filter.begin.Goals as goal
use Rattle.sig_scan.proofs.filter.begin.Goals.{then-is_wanted+then-k-states+then-k-found+then-states-k, else-is_wanted}

pub loop-entry-preserved : goal.loop-entry-preserved
loop-entry-preserved c =
    let entries = c.args.entries.now in
    let states = c.args.states.now in
    let len : ℕ = c.args.len in
    let first = c.args.found.now in
    let e = c.entry-item.result in
    let Now : ℕ → List ℕ → Type 0 = λ end l. (end ≤ len) × AreOwned entries states len end first l in
    let now : Now c.if-is_wanted.end c.if-is_wanted.found =
    elim c.if-is_wanted.branch [
      | then-is_wanted+then-k-states+then-k-found+then-states-k w ↦ (
          let end : ℕ = c.loop-entry.end in
          let old = c.loop-entry.found in
          let n : ℕ = w.offsets_up_to-offsets.result in
          let to : ℕ = w.min-end.result in
          let zero : State = record { done = 0; from = 0 } in
          let v : State = get_or states e.sequence zero in
          let text = ap length w.text.ensures.text in
          let at = w.at.ensures.at in
          let within = c.loop-entry.invariant.within in
          let most = w.max.ensures in
          let least = w.min-end.ensures in
          subst (λ l. Now c.if-is_wanted.end l) (sym w.found-is)
          (subst (λ m. Now m (set old e.sequence n)) (sym w.end-is) (
            omega arith,
            AreOwned-set entries states len end to first old c.loop-entry.entry-index n e v c.loop-entry-test.true c.entry-item.is w.if-k-states.true
                w.if-k-found.true (get_or_default states e.sequence zero v w.if-k-states.true) (sym w.if-states-k.true) (omega arith) (omega arith)
                c.loop-entry.invariant.owned,
          )))
      | else-is_wanted w ↦ subst (λ l. Now c.if-is_wanted.end l) (sym w.found-is)
          (subst (λ n. Now n c.loop-entry.found) (sym w.end-is) (c.loop-entry.invariant.within, c.loop-entry.invariant.owned))
    ] in
    record { within = now.0; owned = now.1 }
