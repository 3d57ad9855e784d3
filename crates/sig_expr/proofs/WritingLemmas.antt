-- Writes one after the other.
use Rattle.std.proofs.Common.{◌≡◌, ℕ, ◌+◌, ◌<◌, Bool, false, List, [], ◌∷◌, ◌++◌, length, Option, Some, None, Result, Ok, Err, OnOk, IsErr, IsTrue, is_err}
use Rattle.std.proofs.Common.{refl, sym, ◌∙◌, ap, arith, length-append, append_assoc, append-nil}
use Rattle.sig_bits.specs.Device.{Adds}
use Rattle.sig_expr.specs.Writing.{Sink, Wrote, Printed}

adds_nothing : (w : Option (List ℕ)) → Adds w [] w
adds_nothing None = tt
adds_nothing (Some x) = sym (append-nil x)

adds_more : (v w x : Option (List ℕ)) (s t : List ℕ) → Adds v s w → Adds w t x → Adds v (s ++ t) x
adds_more None w x s t p q = tt
adds_more (Some v) None x s t p q = absurd p
adds_more (Some v) (Some w) None s t p q = q
adds_more (Some v) (Some w) (Some x) s t p q = q ∙ ap (λ (y : List ℕ). y ++ t) p ∙ append_assoc v s t

-- no write is made
pub wrote_nothing : (a : Sink) → Wrote a [] a
wrote_nothing a = record { stays = refl; sound = λ h. absurd (omega arith); lowers = omega arith; adds = adds_nothing a.written }

sound_more : (a b : Bool) (s t : List ℕ) → b ≡ a → (0 < length s → a ≡ false) → (0 < length t → b ≡ false) → 0 < length (s ++ t) → a ≡ false
sound_more a b [] t e p q h = sym e ∙ q h
sound_more a b (x ∷ s) t e p q h = p (omega arith)

-- one text is written, and then another
pub wrote_more : (a b c : Sink) (s t : List ℕ) → Wrote a s b → Wrote b t c → Wrote a (s ++ t) c
wrote_more a b c s t p q = record {
  stays = q.stays ∙ p.stays;
  sound = sound_more a.failed b.failed s t p.stays p.sound q.sound;
  lowers = simp length-append (omega (arith, p.lowers, q.lowers));
  adds = adds_more a.written b.written c.written s t p.adds q.adds;
}

-- one text is written, and then another is printed
pub prints_then : {X E : Type 0} (r : Result X E) (a b c : Sink) (s t : List ℕ) → Wrote a s b → Printed b t r c → Printed a (s ++ t) r c
prints_then r a b c s t p q = record { fails = q.fails; wrote = then_wrote r q.wrote }
  where
    then_wrote : {X E : Type 0} (r : Result X E) → OnOk r (Wrote b t c) → OnOk r (Wrote a (s ++ t) c)
    then_wrote (Ok x) q = wrote_more a b c s t p q
    then_wrote (Err e) q = tt

-- what the output says of a text that is printed and not empty
pub record Says {X E : Type 0} (a : Sink) (t : List ℕ) (r : Result X E) (b : Sink) : Type 0 where
  pub fails : b.failed ≡ is_err r
  pub stays_failed : IsTrue a.failed → IsErr r
  pub lowers : OnOk r (a.limit ≡ length t + b.limit)
  pub adds : OnOk r (Adds a.written t b.written)

pub printed_says : {X E : Type 0} (r : Result X E) (a b : Sink) (t : List ℕ) → 0 < length t → Printed a t r b → Says a t r b
printed_says (Ok x) a b t some p = record {
  fails = p.wrote.stays ∙ p.wrote.sound some;
  stays_failed = λ failed. absurd (cc (p.wrote.sound some));
  lowers =
      p.wrote.lowers;
  adds = p.wrote.adds;
}
printed_says (Err e) a b t some p = record { fails = p.fails; stays_failed = λ failed. refl; lowers = tt; adds = tt }
