-- What holds of a table holds of it with a row more.
use Rattle.std.proofs.Common.{◌≡◌, ◌⊎◌, ℕ, ◌<◌, ◌≤◌, Bool, true, false, nat_eq, List, [], ◌∷◌, ◌++◌, append_assoc, length, map, sym, ap, ◌∙◌, refl, arith}
use Rattle.std.proofs.Common.{length-append, inl, inr, Some}
use Rattle.std.specs.Prelude.{find, All, Contains}
use Rattle.std.specs.List.{list_any}
use Rattle.std.proofs.lemmas.Bool.{cases_Bool, false≢true}
use Rattle.std.proofs.lemmas.List.{append-nil}
use Rattle.std.proofs.lemmas.List.Elements.{All-cons, All-head, All-nil, All-push, All-tail, Contains-append_right, Contains-push_cases}
use Rattle.std.proofs.lemmas.List.Folds.{list_any_at}
use Rattle.indexmap.specs.IndexSet.{insert_key}
use Rattle.sig_table.specs.Views.{SequenceView, SignatureView}
use Rattle.sig_table.specs.Loading.{grown}
use Rattle.sig_table.specs.Tables.{AllDifferent, FormatsRise, IsNumber, IsSequence, IsSignature}

-- a member that none is like is not there
pub not_contained : {A : Type 0} (eq : A → A → Bool) (xs : List A) (x : A) → eq x x ≡ true → list_any (eq x) xs ≡ false → Contains xs x → ⊥
not_contained eq xs x same none c = false≢true (sym none ∙ list_any_at (eq x) xs c.0 x c.1 (rw c.2 same))

-- one member more, which is not there
pub AllDifferent-push : {A : Type 0} (xs : List A) (x : A) → AllDifferent xs → (Contains xs x → ⊥) → AllDifferent (xs ++ x ∷ [])
AllDifferent-push [] x all none = (λ c. absurd (let within = c.1 in omega arith), tt)
AllDifferent-push (y ∷ ys) x all none = (
  λ c. elim (Contains-push_cases ys x y c) [
    | inl there ↦ all.0 there
    | inr same ↦ none (0, omega arith, sym same)
  ],
  AllDifferent-push ys x all.1 (λ c. none (Contains-append_right (y ∷ []) ys x c)),
)

pub AllDifferent-insert_key : {A : Type 0} (eq : A → A → Bool) (xs : List A) (x : A) → eq x x ≡ true → AllDifferent xs → AllDifferent (insert_key eq xs x)
AllDifferent-insert_key eq xs x same all = elim (cases_Bool (list_any (eq x) xs)) [
  | inl t ↦ rw t all
  | inr none ↦ rw none (AllDifferent-push xs x all (not_contained eq xs x same none))
]

-- one format more, which was met or is above all that were
pub FormatsRise-push : (met fs : List ℕ) (f : ℕ) → FormatsRise met fs → Contains (met ++ fs) f ⊎ All (λ g. g < f) (met ++ fs) → FormatsRise met (fs ++ f ∷ [])
FormatsRise-push met [] f rise next = (rw append-nil at next, tt)
FormatsRise-push met (g ∷ fs) f rise next = (rise.0, FormatsRise-push (met ++ g ∷ []) fs f rise.1 (rw append_assoc next))

-- a sequence more in the signature of the number
pub All-grown : (P : SignatureView → Type 0) (n : ℕ) (sequence : SequenceView) (ss : List SignatureView) (s : SignatureView) → All P ss
    → find (λ s. nat_eq n s.number) ss ≡ Some s
    → P (record s { sequences = s.sequences ++ sequence ∷ [] }) → All P (grown n sequence ss)
All-grown P n sequence [] s all found more = absurd (cc found)
All-grown P n sequence (x ∷ xs) s all found more = elim (cases_Bool (nat_eq n x.number)) [
  | inl t ↦
      let same : x ≡ s = cc (rw t at found) in
      rw t (All-cons P (record x { sequences = x.sequences ++ sequence ∷ [] }) xs (rw same more) (All-tail P x xs all))
  | inr f ↦ rw f (All-cons P x (grown n sequence xs) (All-head P x xs all) (All-grown P n sequence xs s (All-tail P x xs all) (rw f at found) more))
]

-- and where the number is new, in the last
pub grown-new : (n : ℕ) (sequence : SequenceView) (ss : List SignatureView) (new : SignatureView) → list_any (λ s. nat_eq n s.number) ss ≡ false
    → nat_eq n new.number ≡ true
    → grown n sequence (ss ++ new ∷ []) ≡ ss ++ record new { sequences = new.sequences ++ sequence ∷ [] } ∷ []
grown-new n sequence [] new none is = rw is refl
grown-new n sequence (x ∷ xs) new none is = elim (cases_Bool (nat_eq n x.number)) [
  | inl t ↦ absurd (cc (rw t at none))
  | inr f ↦ rw f (ap (λ l. x ∷ l) (grown-new n sequence xs new (rw f at none) is))
]

-- the formats stay
pub formats-grown : (n : ℕ) (sequence : SequenceView) (ss : List SignatureView) → map (λ s. s.format) (grown n sequence ss) ≡ map (λ s. s.format) ss
formats-grown n sequence [] = refl
formats-grown n sequence (x ∷ xs) = elim (cases_Bool (nat_eq n x.number)) [
  | inl t ↦ rw t refl
  | inr f ↦ rw f (ap (λ l. x.format ∷ l) (formats-grown n sequence xs))
]

-- a signature with a sequence more
pub IsSignature-more : (k : ℕ) (s : SignatureView) (sequence : SequenceView) → IsSignature k s → length s.sequences < 8 → IsSequence sequence
    → IsSignature k (record s { sequences = s.sequences ++ sequence ∷ [] })
IsSignature-more k s sequence h few judged = record {
  known = h.known;
  number = h.number;
  some = omega (arith, length-append {A = SequenceView});
  few = omega (arith, length-append {A = SequenceView});
  sequences = All-push IsSequence s.sequences sequence h.sequences judged;
}

-- and with its first
pub IsSignature-first : (k f n : ℕ) (sequence : SequenceView) → f < k → IsNumber n → IsSequence sequence
    → IsSignature k (record { format = f; number = n; sequences = sequence ∷ [] })
IsSignature-first k f n sequence known number judged = record {
  known = known;
  number = number;
  some = omega arith;
  few = omega arith;
  sequences = All-cons IsSequence sequence [] judged (All-nil IsSequence);
}

-- among more formats
pub IsSignature-wider : (j k : ℕ) (s : SignatureView) → j ≤ k → IsSignature j s → IsSignature k s
IsSignature-wider j k s le h = let known = h.known in record { known = omega arith; number = h.number; some = h.some; few = h.few; sequences = h.sequences }
