-- The marks of signatures that hit, one after the other.
use Rattle.std.proofs.Common.{◌≡◌, ℕ, ◌+◌, ◌<◌, List, [], ◌∷◌, ◌++◌, length, get_or, subst, sym, ◌∙◌, inl, inr, arith, Bool, true, false}
use Rattle.std.proofs.lemmas.Bool.{cases_lt, false≢true}
use Rattle.std.proofs.lemmas.List.{get_or_append_left, get_or_push, get_or_past}
use Rattle.sig_table.specs.Views.{TableView}
use Rattle.sig_core.specs.FirstHits.{MarksHits}
use Rattle.sig_core.specs.Hits.{HitsOf}
use Rattle.sig_core.proofs.Exports.{HitsOf-within}

-- exactly the signatures below the limit that hit are marked
pub record MarksBelow (table : TableView) (file : List ℕ) (limit : ℕ) (marks : List Bool) : Type 0 where
  pub sound : (index : ℕ) → index < limit → get_or marks index false ≡ true → HitsOf table index file
  pub complete : (index : ℕ) → index < limit → HitsOf table index file → get_or marks index false ≡ true

-- no signature is marked yet
pub MarksBelow-none : (table : TableView) (file : List ℕ) (marks : List Bool) → MarksBelow table file 0 marks
MarksBelow-none table file marks = record {
  sound = λ index below is. absurd (omega arith);
  complete = λ index below hit. absurd (omega arith);
}

-- one more signature is marked where it hits
pub MarksBelow-push : (table : TableView) (file : List ℕ) (limit : ℕ) (marks : List Bool) (b : Bool) → length marks ≡ limit
    → (b ≡ true → HitsOf table limit file) → (HitsOf table limit file → b ≡ true) → MarksBelow table file limit marks
    → MarksBelow table file (limit + 1) (marks ++ b ∷ [])
MarksBelow-push table file limit marks b len to from before = record {
  sound = λ index below marked.
      elim (cases_lt index limit) [
        | inl front ↦ before.sound index front (sym (get_or_append_left marks (b ∷ []) false index (omega arith)) ∙ marked)
        | inr last ↦ (
            let here : get_or (marks ++ b ∷ []) index false ≡ b = get_or_push marks b false index (omega arith) in
            let same : limit ≡ index = omega arith in
            let P : ℕ → Type 0 = λ k. HitsOf table k file in
            subst P same (to (sym here ∙ marked))
            )
      ];
  complete = λ index below hit.
      elim (cases_lt index limit) [
        | inl front ↦ get_or_append_left marks (b ∷ []) false index (omega arith) ∙ before.complete index front hit
        | inr last ↦ (
            let here : get_or (marks ++ b ∷ []) index false ≡ b = get_or_push marks b false index (omega arith) in
            let same : index ≡ limit = omega arith in
            let P : ℕ → Type 0 = λ k. HitsOf table k file in
            here ∙ from (subst P same hit)
            )
      ];
}

-- all signatures are marked
pub MarksHits-from_below : (table : TableView) (file : List ℕ) (limit : ℕ) (marks : List Bool) → length table.signatures ≡ limit → length marks ≡ limit
    → MarksBelow table file limit marks → MarksHits table file marks
MarksHits-from_below table file limit marks all len below = record {
  sound = λ index marked.
      elim (cases_lt index limit) [
        | inl within ↦ below.sound index within marked
        | inr past ↦ absurd (false≢true (sym (get_or_past marks index false (omega arith)) ∙ marked))
      ];
  complete = λ index hit. (
      let within : index < length table.signatures = HitsOf-within table file index hit in
      below.complete index (omega arith) hit
      );
}
