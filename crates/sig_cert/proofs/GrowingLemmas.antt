-- When a check may run out of memory, step by step.
use Rattle.std.proofs.Common.{◌≡◌, Bool, true, false, not, ℕ, ◌<◌, ◌≤◌, List, [], ◌∷◌, length, take, slice_index, Err, MatchOption, Option, Result, Some, eqb}
use Rattle.std.proofs.Common.{inl, inr, refl, sym, ap, ◌∙◌, subst, arith}
use Rattle.std.specs.Cmp.Lexicographic.{pointwise}
use Rattle.std.proofs.Math.Bool.{and-eq-true_iff}
use Rattle.std.proofs.lemmas.Bool.{eqb-true, false≢true}
use Rattle.sig_product.specs.Products.{IsProductOf, ProductView}
use Rattle.sig_table.specs.Views.{TableView}
use Rattle.sig_cert.specs.declared.error.CheckError.{CheckError}
use Rattle.sig_cert.specs.declared.error.CheckError.TheVariants as error
use Rattle.sig_cert.specs.Fields.{Took}
use Rattle.sig_cert.specs.Growing.{CountPassed, HeadPassed, VersionPassed}
use Rattle.sig_cert.specs.Layouts.{Version, magic, version_byte}
use Rattle.sig_cert.specs.Verdicts.{BlockersJudged, Judges, Site}

-- the error of a step is that of the whole
pub told_short : (result : Result Unit CheckError) (x e f : CheckError) → result ≡ Err x → x ≡ e → result ≡ Err f → let other : Result Unit CheckError =
    Err e in other ≡ Err f
told_short result x e f told is short = cc

pointwise_same : (xs ys : List ℕ) → pointwise eqb xs ys ≡ true → xs ≡ ys
pointwise_same [] [] e = refl
pointwise_same [] (y ∷ ys) e = absurd (false≢true e)
pointwise_same (x ∷ xs) [] e = absurd (false≢true e)
pointwise_same (x ∷ xs) (y ∷ ys) e =
    let parts = (and-eq-true_iff (eqb x y) (pointwise eqb xs ys)).0 e in
    let first : x ≡ y = eqb-true x y parts.0 in
    let later : xs ≡ ys = pointwise_same xs ys parts.1 in
    cc

not_false : (b : Bool) → false ≡ not b → b ≡ true
not_false true h = refl
not_false false h = absurd (false≢true h)

-- the first field is the magic
pub head_passed : (table : TableView) (view after field known : List ℕ) (differs : Bool) → Took 4 view field after → differs ≡ not (pointwise eqb field known)
    → differs ≡ false → known ≡ magic → VersionPassed table after → HeadPassed table view
head_passed table view after field known differs took told same is behind = record {
  whole = took.whole;
  is_magic = sym took.is_field ∙ pointwise_same field known (not_false (pointwise eqb field known) (sym same ∙ told)) ∙ is;
  behind = subst (VersionPassed table) took.behind behind;
}

one_byte : (xs : List ℕ) → 1 ≤ length xs → take 1 xs ≡ slice_index (take 1 xs) 0 ∷ []
one_byte [] some = absurd (omega arith)
one_byte (x ∷ xs) some = refl

-- the next one is a version
pub version_passed : (table : TableView) (view after field : List ℕ) (o : Option Version) (v : Version) → Took 1 view field after → o ≡ Some v
    → MatchOption o ((w : Version) → ¬ (slice_index field 0 ≡ version_byte w)) (λ w. slice_index field 0 ≡ version_byte w) → CountPassed table after
    → VersionPassed table view
version_passed table view after field o v took is told behind =
    let byte : slice_index field 0 ≡ version_byte v = subst (λ x. MatchOption x ((w : Version) → ¬ (slice_index field 0 ≡ version_byte w))
    (λ w. slice_index field 0 ≡ version_byte w)) is told in
    record {
      whole = took.whole;
      version = v;
      is_version = one_byte view took.whole ∙ ap (λ b. b ∷ []) (ap (λ l. slice_index l 0) (sym took.is_field) ∙ byte);
      behind = subst (CountPassed table) took.behind behind;
    }

-- the bytes end before the count of rows
pub count_cut : (version : Version) (table : TableView) (signatures : ℕ × ℕ) (at : Site) (blockers : List ℕ) (p : ProductView) (before after : List ℕ)
    (e : CheckError) → IsProductOf table signatures.0 signatures.1 blockers p → (e ≡ error.Truncated) × (length before < 4)
    → Judges (BlockersJudged 0 version table signatures at blockers) before after (Err e)
count_cut version table signatures at blockers p before after e is cut = inr (p, is, inl (cut.1, ap (λ f. Err f) cut.0))
