use Rattle.sig_scan.proofs.Common.{◌≡◌, ◌∙◌, ◌+◌, ◌*◌, ◌%◌, ◌/◌, ◌≤◌, ◌<◌, ℕ, zero, suc, arith, inl, inr, refl, subst, sym, cases_lt, IsListed, behind_of}
use Rattle.sig_scan.proofs.Common.{text_of, LiteralView, byte_of}
use Rattle.sig_scan.proofs.FilterLemmas.{AreKept-twice, IsListed-kept}
use Rattle.sig_scan.proofs.filter.enter_all.Goals as goal

-- where each place has one byte, all texts are the same
byte_same : (l : LiteralView) (k n : ℕ) → byte_of l k 0 ≡ byte_of l k 1 → byte_of l k n ≡ byte_of l k 0
byte_same l k zero one = refl
byte_same l k (suc n) one = sym one

texts_same : (l : LiteralView) (v n : ℕ) → ((k : ℕ) → v ≤ k → k < v + 4 → byte_of l k 0 ≡ byte_of l k 1)
    → (text_of l v n ≡ text_of l v 0) × (behind_of l v n ≡ behind_of l v 0)
texts_same l v n whole =
    let b0 = byte_same l v (n % 2) (whole v (omega arith) (omega arith)) in
    let b1 = byte_same l (v + 1) (n / 2 % 2) (whole (v + 1) (omega arith) (omega arith)) in
    let b2 = byte_same l (v + 2) (n / 4 % 2) (whole (v + 2) (omega arith) (omega arith)) in
    let b3 = byte_same l (v + 3) (n / 8 % 2) (whole (v + 3) (omega arith) (omega arith)) in
    omega arith

pub returns-clause-listed : goal.returns-clause-listed
returns-clause-listed c is n few =
    elim c.text_count-choice-end.ensures.all [
      | inl all ↦ c.loop-choice.invariant.listed n (omega arith)
      | inr one ↦ (
          let same = texts_same c.args.literal.now c.args.window n one.1 in
          rw (same.0, same.1) (c.loop-choice.invariant.listed 0 (omega (arith, one.0))))
    ]

pub loop-choice-preserved : goal.loop-choice-preserved
loop-choice-preserved c =
    let l : LiteralView = c.args.literal.now in
    let v : ℕ = c.args.window in
    let id : ℕ = c.args.id in
    let n : ℕ = c.loop-choice.choice in
    let marks = c.enter.new.marks in
    let slots = c.enter.new.slots in
    let behind : ℕ = c.behind_of-behind.result in
    let here : IsListed marks slots id (text_of l v n) (behind_of l v n) =
    subst (λ b. IsListed marks slots id (byte_of l v (n % 2) + b * 256) b) c.behind_of-behind.ensures.value
    (subst (λ x. IsListed marks slots id (x + behind * 256) behind) (c.from.ensures ∙ c.byte.ensures) (c.enter.ensures.listed c.if-not-enter.false)) in
    record {
      kept = AreKept-twice c.args.marks.now c.args.slots.now c.loop-choice.marks c.loop-choice.slots marks slots c.loop-choice.invariant.kept
          c.enter.ensures.kept;
      listed = λ k few. elim (cases_lt k n) [
        | inl before ↦ IsListed-kept c.loop-choice.marks c.loop-choice.slots marks slots id _ _ c.enter.ensures.kept c.requires.some
            (c.loop-choice.invariant.listed k before)
        | inr last ↦ (let same : n ≡ k = omega arith in subst (λ m. IsListed marks slots id (text_of l v m) (behind_of l v m)) same here)
      ];
    }
