-- The lemmas that other crates use.
use Rattle.std.proofs.Common.{◌≡◌, ℕ, nat_lt, true, List, length, sym, ap, ◌∙◌, refl, inl, inr, arith, rules, tests, Result, Ok, Err}
use Rattle.std.proofs.lemmas.Bool.{cases_lt}
use Rattle.sig_expr.specs.declared.error.ExprError.{ExprError}
use Rattle.sig_expr.specs.declared.error.ExprError.TheVariants as error
use Rattle.sig_expr.specs.declared.item.Item.{Item}
use Rattle.sig_expr.specs.FirstFaults.{IsFirstFault}
use Rattle.sig_expr.specs.Profile.{InProfile, IsExpression}
use Rattle.sig_expr.specs.Refusals.{IsLongestFront, IsNoText, Means}
use Rattle.sig_expr.specs.Texts.{expr_of}
use Rattle.sig_expr.proofs.FirstFaultLemmas.{first_answered, first_faulty}
use Rattle.sig_expr.proofs.ProfileLemmas.{read_text}
use Rattle.sig_expr.proofs.RefusalLemmas.{refusal_means}
use Rattle.sig_expr.proofs.ShortestLemmas.{is_expression}
-- the words of the crate `hex` in which canonical texts are written
pub use Rattle.hex.specs.Hex.{encode_upper, upper_digits}
unfoldable pub use Rattle.hex.specs.Hex.{encode_with}
-- the order of words, and whether one is outside a range
pub use Rattle.sig_expr.proofs.BeforeLemmas.{IsBefore-cases, IsBefore-either, IsBefore-lower, IsBefore-same, IsUpTo-before, IsUpTo-behind, IsUpTo-cases}
pub use Rattle.sig_expr.proofs.BeforeLemmas.{IsUpTo-first, IsUpTo-itself, IsUpTo-rest, IsUpTo-same, not_before_itself}
pub use Rattle.sig_expr.proofs.OrderLemmas.{leaves_no_all}
-- canonical texts
pub use Rattle.sig_expr.proofs.ShortestLemmas.{canon_spells, expression_read}
-- what is read is spelled
pub use Rattle.sig_expr.proofs.RefusalLemmas.{read_spells}

-- what is read is an expression
pub read_expression : (e : List Item) (t : List ℕ) → expr_of t ≡ Ok e → IsExpression e
read_expression e t h = let text = read_spells e t h in is_expression e t text.0 text.1

-- a text has one longest front
one_front : (t : List ℕ) (m n : ℕ) → IsLongestFront t m → IsLongestFront t n → m ≡ n
one_front t m n x y = elim (cases_lt m n) [
  | inl below ↦ absurd (x.longest n below y.within y.begins)
  | inr up ↦ elim (cases_lt n m) [ inl below ↦ absurd (y.longest m below x.within x.begins) | inr down ↦ omega arith ]
]

-- a text outside the grammar is refused where its longest front ends
no_text_refused : (t : List ℕ) (n : ℕ) → ¬ InProfile t → IsNoText t n → (r : Result (List Item) ExprError) → expr_of t ≡ r → r ≡ Err (error.Syntax n)
no_text_refused t n outside none (Ok e) h = absurd (outside (read_spells e t h).0)
no_text_refused t n outside none (Err f) h = ap (λ e. Err e) (by_fault f (refusal_means f t h))
  where
    faulty : (f : ExprError) → IsFirstFault f t → f ≡ error.Syntax n
    faulty f first = absurd (none.no_text (first_faulty f t first).is_text)

    by_fault : (f : ExprError) → Means f t → f ≡ error.Syntax n
    by_fault error.TooLong m = absurd (let short = none.short in omega (arith, m))
    by_fault (error.Syntax k) m = ap (λ p. error.Syntax p) (one_front t k n m.front none.front)
    by_fault (error.GapNumber k) m = faulty (error.GapNumber k) m
    by_fault (error.GapEmpty k) m = faulty (error.GapEmpty k) m
    by_fault (error.GapOrder k) m = faulty (error.GapOrder k) m
    by_fault (error.RangeOrder k) m = faulty (error.RangeOrder k) m
    by_fault (error.ClassEmpty k) m = faulty (error.ClassEmpty k) m
    by_fault error.OutOfMemory m = absurd (outside m)
    by_fault (error.RangeLength k) m = faulty (error.RangeLength k) m
    by_fault (error.BracketTooLong k) m = faulty (error.BracketTooLong k) m

-- a text outside the profile has the refusal whose meaning is true of it
pub meant_refused : (f : ExprError) (t : List ℕ) → ¬ InProfile t → Means f t → expr_of t ≡ Err f
unfolding expr_of
meant_refused error.TooLong t outside m =
    let long : nat_lt 8192 (length t) ≡ true = search (rules, tests) in
    rw long refl
meant_refused (error.Syntax n) t outside m = no_text_refused t n outside m (expr_of t) refl
meant_refused (error.GapNumber n) t outside m = first_answered (error.GapNumber n) t m
meant_refused (error.GapEmpty n) t outside m = first_answered (error.GapEmpty n) t m
meant_refused (error.GapOrder n) t outside m = first_answered (error.GapOrder n) t m
meant_refused (error.RangeOrder n) t outside m = first_answered (error.RangeOrder n) t m
meant_refused (error.ClassEmpty n) t outside m = first_answered (error.ClassEmpty n) t m
meant_refused error.OutOfMemory t outside m = absurd (outside m)
meant_refused (error.RangeLength n) t outside m = first_answered (error.RangeLength n) t m
meant_refused (error.BracketTooLong n) t outside m = first_answered (error.BracketTooLong n) t m

-- and what is refused is outside the profile
pub refused_meant : (f : ExprError) (t : List ℕ) → expr_of t ≡ Err f → ¬ InProfile t × Means f t
refused_meant f t h = (λ p. cc (sym h ∙ read_text p.items t p p.spells), refusal_means f t h)
