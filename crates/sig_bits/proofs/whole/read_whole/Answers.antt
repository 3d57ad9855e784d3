use Rattle.std.proofs.Common.{◌≡◌, ◌≤◌, ◌+◌, arith, Bool, true, false, length, take, sym, ◌∙◌, inl, inr, ℕ, length-take, length-drop}
use Rattle.std.proofs.lemmas.Bool.{cases_Bool}
use Rattle.std.proofs.lemmas.List.{length-take-le}
use Rattle.sig_bits.proofs.DeviceLemmas.{Gives-more, take-read}
use Rattle.sig_bits.proofs.whole.read_whole.Goals as goal

-- what is not true is false
false_from_not : (b : Bool) → (b ≡ true → ⊥) → b ≡ false
false_from_not b never = elim (cases_Bool b) [ inl t ↦ absurd (never t) | inr f ↦ f ]

pub pieces-preserved : goal.pieces-preserved
pieces-preserved g c =
    let len : length c.deref_mut.result.now ≡ c.make_room.new.bytes.len = c.deref_mut.ensures.len in
    let room : c.pieces.filled + 4096 ≤ c.make_room.new.bytes.len = c.in_ok-make_room.ensures.room in
    let at : length (take c.pieces.filled c.deref_mut.result.now) ≡ c.pieces.filled = length-take-le c.pieces.filled c.deref_mut.result.now (omega arith) in
    let front : take c.pieces.filled c.deref_mut.result.now ≡ take c.pieces.filled c.pieces.bytes.items =
    rw c.deref_mut.ensures.value c.in_ok-make_room.ensures.front in
    let within : c.in-Ok.n ≤ length c.read.new.buf = c.in-Ok.ensures.reads.within in
    let fits : c.pieces.filled + c.in-Ok.n ≤ c.make_room.new.bytes.len = let kept = c.read.auto.buf in
    omega (arith, length-take {A = ℕ}, length-drop {A = ℕ}) in
    let sound : g.R.Input.failed c.pieces.input ≡ false = false_from_not _ (λ t. let lie : false ≡ true = c.in-Ok.ensures.stays_failed t in cc) in
    record {
      within = fits;
      failed = c.in-Ok.ensures.fails ∙ sym sound ∙ c.pieces.invariant.failed;
      lowered = omega (arith, c.in-Ok.ensures.lowers, c.pieces.invariant.lowered);
      given =
          rw (take-read c.pieces.filled c.in-Ok.n c.make_room.new.bytes.len _ c.read.new.buf _ _ at within fits, front)
          (Gives-more _ _ _ _ _ c.pieces.invariant.given c.in-Ok.ensures.reads.gives);
    }
