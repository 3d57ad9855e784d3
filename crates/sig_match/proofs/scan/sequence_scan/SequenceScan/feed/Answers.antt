use Rattle.std.proofs.Common.{◌≡◌, ◌+◌, ◌++◌, ◌∙◌, List, ℕ, ap, arith, length, refl, subst, sym, take}
use Rattle.std.proofs.lemmas.List.{take_all}
use Rattle.sig_match.specs.Scans.{IsSequenceScanOf}
use Rattle.sig_match.proofs.ScanLemmas.{feed_begins, feed_goes_on, written}
use Rattle.sig_match.proofs.scan.sequence_scan.SequenceScan.feed.Goals as goal

pub loop-byte-init : goal.loop-byte-init
loop-byte-init c = record {
  set_long = c.self.invariant.0;
  next_long = c.self.invariant.1;
  goes_on = λ file s is. feed_begins file s _ _ c.self.view_is is;
}

pub loop-byte-preserved : goal.loop-byte-preserved
loop-byte-preserved c =
    let inv = c.loop-byte.invariant in
    let inside = c.loop-byte.self-inside in
    let to = c.step_set.new.to in
    let long : length to ≡ inside.next.len = c.step_set.auto.to ∙ c.deref_mut.ensures.len in
    let set : c.swap.new.x.items ≡ to = rw c.swap.ensures.x_after (written to _ inside.next.len long) in
    let next : c.swap.new.y.items ≡ inside.set.items = rw c.swap.ensures.y_after refl in
    record {
      set_long = ap length set ∙ c.step_set.auto.to ∙ ap length c.deref_mut.ensures.value ∙ inv.next_long;
      next_long = ap length next ∙ inv.set_long;
      goes_on = λ file s is.
          let P : List ℕ → Type 0 = λ l. IsSequenceScanOf (file ++ take c.loop-byte.byte-index c.args.piece.now) s (record { sequence = inside.auto; set = l })
          in
          let Q : List ℕ → Type 0 = λ l. IsSequenceScanOf (file ++ take (c.loop-byte.byte-index + 1) c.args.piece.now) s
          (record { sequence = inside.auto; set = l }) in
          subst Q (sym set) (feed_goes_on file c.args.piece.now s inside.auto c.deref.result.now to c.loop-byte.byte-index (omega arith) c.step_set.ensures
          (subst P (sym c.deref.ensures.value) (inv.goes_on file s is)));
    }

pub returns : goal.returns
returns c file s is =
    let inside = c.loop-byte.self-inside in
    let P : List ℕ → Type 0 = λ l. IsSequenceScanOf (file ++ l) s (record { sequence = inside.auto; set = inside.set.items }) in
    subst P (take_all c.loop-byte.byte-index c.args.piece.now (omega arith)) (c.loop-byte.invariant.goes_on file s is)
