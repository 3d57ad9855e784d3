-- The bytes that lead on, and the cuts between them: what walks add, one after the other.
use Rattle.sig_auto.proofs.Common.{◌↔◌, ◌⊎◌, ℕ, ◌+◌, inl, inr, arith, ByteClass, AddsCuts, AddsLive}

pub live_none : (old : ByteClass) (R : ℕ → ℕ → Type 0) → ((b q : ℕ) → R b q → ⊥) → AddsLive old old R
live_none old R none b small = (λ h. inl h, λ h. elim h [ inl had ↦ had | inr some ↦ absurd (none b some.0 some.1) ])

pub cuts_none : (old : ByteClass) (R : ℕ → ℕ → Type 0) → ((b q : ℕ) → R b q → ⊥) → AddsCuts old old R
cuts_none old R none b small out = (out, λ q. (λ r. absurd (none b q r), λ r. absurd (none (b + 1) q r)))

pub live_as : (old new : ByteClass) (R A : ℕ → ℕ → Type 0) → ((b q : ℕ) → R b q ↔ A b q) → AddsLive old new A → AddsLive old new R
live_as old new R A same adds b small = grind arith

pub cuts_as : (old new : ByteClass) (R A : ℕ → ℕ → Type 0) → ((b q : ℕ) → R b q ↔ A b q) → AddsCuts old new A → AddsCuts old new R
cuts_as old new R A same adds b small out = grind arith

pub live_both : (old mid new : ByteClass) (R A B : ℕ → ℕ → Type 0) → ((b q : ℕ) → R b q ↔ (A b q ⊎ B b q)) → AddsLive old mid A → AddsLive mid new B
    → AddsLive old new R
live_both old mid new R A B either first second b small = grind arith

pub cuts_both : (old mid new : ByteClass) (R A B : ℕ → ℕ → Type 0) → ((b q : ℕ) → R b q ↔ (A b q ⊎ B b q)) → AddsCuts old mid A → AddsCuts mid new B
    → AddsCuts old new R
cuts_both old mid new R A B either first second b small out = grind arith
