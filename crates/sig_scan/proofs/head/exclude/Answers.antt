use Rattle.sig_scan.proofs.Common.{◌+◌, ◌<◌, ◌∙◌, arith, Bool, List, false, false≢true, get_or, get_or_past, length, set, subst, sym, take, AreAsked}
use Rattle.sig_scan.proofs.Common.{AreExcluded, AreHeadsOf, Head, MayHave, TableView}
use Rattle.sig_scan.proofs.HeadLemmas.{AreAsked-head, AreAsked-set, AreExcluded-head, off-set}
use Rattle.sig_scan.proofs.head.exclude.Goals as goal
use Rattle.sig_scan.proofs.head.exclude.Goals.{else-k-may_hit, then-k-may_hit+then-not-may_stand, else-k-may_hit-via-else-k-may_hit}
use Rattle.sig_scan.proofs.head.exclude.Goals.{else-k-may_hit-via-then-k-may_hit+else-not-may_stand}

pub loop-head-preserved : goal.loop-head-preserved
loop-head-preserved c =
    let heads = c.args.heads.now in
    let bytes = c.args.bytes.now in
    let index = c.loop-head.head-index in
    let old = c.loop-head.may_hit in
    let zero : Head = record { signature = 0; at = 0; text = 0; other = 0 } in
    let h : Head = get_or heads index zero in
    let within : index < length heads = omega arith in
    let before = c.loop-head.invariant in
    let Now : List Bool → Type 0 = λ l. ((table : TableView) → AreHeadsOf table heads → AreExcluded table c.args.may_hit.now bytes → AreExcluded table l bytes)
    × AreAsked bytes l (take (index + 1) heads) in
    let now : Now c.if-k-may_hit.may_hit =
    elim c.if-k-may_hit.branch [
      | then-k-may_hit+then-not-may_stand w ↦ (
          let never : (MayHave bytes h → ⊥) = λ has. false≢true (sym w.if-not-may_stand.true ∙ w.may_stand.ensures.1 has) in
          subst Now (sym w.may_hit-is) (
            λ table of was. AreExcluded-head table old bytes h w.if-k-may_hit.true (of index _ within) never (before.sound table of was),
            AreAsked-head bytes (set old h.signature false) heads index zero within (λ on. absurd (off-set old h.signature w.if-k-may_hit.true on))
                (AreAsked-set bytes old (take index heads) h.signature w.if-k-may_hit.true before.asked),
          ))
      | else-k-may_hit w ↦ subst Now (sym w.may_hit-is) (
        before.sound,
        AreAsked-head bytes old heads index zero within
            (λ on. elim w.else-k-may_hit.branch [
              | else-k-may_hit-via-then-k-may_hit+else-not-may_stand v ↦ v.may_stand.ensures.0 v.if-not-may_stand.false
              | else-k-may_hit-via-else-k-may_hit v ↦ absurd (false≢true (sym (get_or_past old h.signature false v.if-k-may_hit.false) ∙ on))
            ])
            before.asked,
      )
    ] in
    record { sound = now.0; asked = now.1 }
