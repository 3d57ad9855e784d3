-- Where words of one length stand in a part of a file.
use Rattle.std.proofs.Common.{◌≡◌, ℕ, ◌+◌, ◌-◌, ◌≤◌, ◌<◌, List, length, subst, ap, ◌∙◌, sym, inl, inr, arith}
use Rattle.std.specs.Prelude.{slice_range}
use Rattle.std.proofs.lemmas.Bool.{cases_lt}
use Rattle.sig_expr.specs.declared.item.Atom.{Atom}
use Rattle.sig_expr.specs.declared.item.Atom.TheVariants as atom
use Rattle.sig_expr.specs.Words.{PartWord}
use Rattle.sig_match.specs.declared.whole.frontier.Interval.{Interval}
use Rattle.sig_match.specs.Frontiers.{IsWithin, Gains, Reaches}
use Rattle.sig_match.specs.Parts.{part_len}
use Rattle.sig_match.proofs.FrontierLemmas.{Gains-more, Gains-same}
use Rattle.sig_match.proofs.ReachLemmas.{Reaches-starts, length-slice_range}

-- how long the words of a part are
pub PartWord-length : (p : Atom) (w : List ℕ) → PartWord p w → length w ≡ part_len p
PartWord-length (atom.Byte b) w h = ap length h
PartWord-length (atom.Range a b) w h = h.0.0
PartWord-length (atom.Not a) w h = h.0.0
PartWord-length (atom.NotRange a b) w h = h.0.0

-- words of one length
abbrev pub Fixed : (List ℕ → Type 0) → ℕ → Type 0
Fixed W m = (w : List ℕ) → W w → length w ≡ m

-- a word of one length ends so far behind its start
pub Reaches-fixed_end : (W : List ℕ → Type 0) (m : ℕ) (fixed : Fixed W m) (file : List ℕ) (S : ℕ → Type 0) (e : ℕ) → (r : Reaches W file S e) → e ≡ r.start + m
Reaches-fixed_end W m fixed file S e r =
    let order = r.in_order in
    let len : e - r.start ≡ m = sym (length-slice_range file r.start e r.in_order r.within) ∙ fixed (slice_range file r.start e) r.is_word in
    omega arith

-- the starts in an interval below an offset
abbrev pub IsPassed : Interval → ℕ → ℕ → Type 0
IsPassed x at a = IsWithin x a × (a < at)

-- the interval's starts below its first offset are none
pub Gains-start : (W : List ℕ → Type 0) (m : ℕ) (fixed : Fixed W m) (file : List ℕ) (x : Interval) (old : List Interval)
    → Gains (Reaches W file (IsPassed x x.from)) old old
Gains-start W m fixed file x old = record {
  sound = λ o h. inl h;
  kept = λ o h. h;
  gained = λ o h. absurd (let low = h.is_start.0.0 in let high = h.is_start.1 in omega arith);
}

-- a word stands at an offset of the interval
pub Gains-here : (W : List ℕ → Type 0) (m : ℕ) (fixed : Fixed W m) (file : List ℕ) (x : Interval) (at e : ℕ) (old mid new : List Interval) → IsWithin x at
    → at ≤ e → e ≤ length file → W (slice_range file at e) → Gains (Reaches W file (IsPassed x at)) old mid
    → Gains (IsWithin (record { from = e; to = e })) mid new → Gains (Reaches W file (IsPassed x (at + 1))) old new
Gains-here W m fixed file x at e old mid new within order fits word before gains =
    let here : Reaches W file (IsPassed x (at + 1)) e = record { start = at; is_start = (within, omega arith); in_order = order; within = fits; is_word = word }
    in
    let at_end : e ≡ at + m = Reaches-fixed_end W m fixed file (IsPassed x (at + 1)) e here in
    Gains-more (Reaches W file (IsPassed x at)) (IsWithin (record { from = e; to = e })) (Reaches W file (IsPassed x (at + 1))) old mid new
    (λ o r. Reaches-starts W file _ _ o (λ a _ h. (h.0, let below = h.1 in omega arith)) r)
    (λ o h. (let low = h.0 in let high = h.1 in let same : e ≡ o = omega arith in subst (Reaches W file (IsPassed x (at + 1))) same here))
    (λ o r.
    elim (cases_lt r.start at) [
      | inl below ↦ inl (record { start = r.start; is_start = (r.is_start.0, below); in_order = r.in_order; within = r.within; is_word = r.is_word })
      | inr above ↦ inr (
          let high = r.is_start.1 in
          let o_end = Reaches-fixed_end W m fixed file _ o r in
          (omega arith, omega arith)
          )
    ])
    before gains

-- no word stands from an offset up to another
pub Gains-none : (W : List ℕ → Type 0) (m : ℕ) (fixed : Fixed W m) (file : List ℕ) (x : Interval) (at until : ℕ) (old new : List Interval) → at ≤ until
    → ((k : ℕ) → at ≤ k → k < until → k ≤ x.to → k + m ≤ length file → W (slice_range file k (k + m)) → ⊥) → Gains (Reaches W file (IsPassed x at)) old new
    → Gains (Reaches W file (IsPassed x until)) old new
Gains-none W m fixed file x at until old new order none before =
    Gains-same (Reaches W file (IsPassed x at)) (Reaches W file (IsPassed x until)) old new
    (λ o r. Reaches-starts W file _ _ o (λ a _ h. (h.0, let below = h.1 in omega arith)) r)
    (λ o r.
    elim (cases_lt r.start at) [
      | inl below ↦ record { start = r.start; is_start = (r.is_start.0, below); in_order = r.in_order; within = r.within; is_word = r.is_word }
      | inr above ↦ absurd (
          let o_end : o ≡ r.start + m = Reaches-fixed_end W m fixed file _ o r in
          let fits = r.within in
          let P : ℕ → Type 0 = λ t. W (slice_range file r.start t) in
          none r.start above r.is_start.1 r.is_start.0.1 (omega arith) (subst P o_end r.is_word)
          )
    ])
    before

-- all starts of the interval at which a word has room are passed
pub Gains-passed : (W : List ℕ → Type 0) (m : ℕ) (fixed : Fixed W m) (file : List ℕ) (x : Interval) (at : ℕ) (old new : List Interval)
    → ((a : ℕ) → a ≤ x.to → a + m ≤ length file → a < at) → Gains (Reaches W file (IsPassed x at)) old new → Gains (Reaches W file (IsWithin x)) old new
Gains-passed W m fixed file x at old new passed before =
    Gains-same (Reaches W file (IsPassed x at)) (Reaches W file (IsWithin x)) old new
    (λ o r. Reaches-starts W file _ _ o (λ a _ h. h.0) r)
    (λ o r.
    let fits = r.within in
    let o_end = Reaches-fixed_end W m fixed file _ o r in
    record {
      start = r.start;
      is_start = (r.is_start, passed r.start r.is_start.1 (omega arith));
      in_order = r.in_order;
      within = r.within;
      is_word =
          r.is_word;
    })
    before
