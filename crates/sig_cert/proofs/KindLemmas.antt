-- A pair of formats: its kind, and then its tables.
use Rattle.std.proofs.Common.{◌≡◌, ℕ, ◌≤◌, List, [], ◌∷◌, length, take, sym, ap, ◌∙◌, subst, arith, inl, inr, Ok, Err, Result}
use Rattle.std.specs.Prelude.{slice_index}
use Rattle.sig_cert.specs.declared.error.CheckError.{CheckError}
use Rattle.sig_cert.specs.Fields.{Took}
use Rattle.sig_cert.specs.Layouts.{Version}
use Rattle.sig_cert.specs.Pairs.{AreRelated, signature_pairs}
use Rattle.sig_cert.specs.Verdicts.{Judges, PairJudged, TablesJudged}
use Rattle.sig_table.specs.Views.{TableView}

one_byte : (bytes : List ℕ) (b : ℕ) → 1 ≤ length bytes → slice_index (take 1 bytes) 0 ≡ b → take 1 bytes ≡ b ∷ []
one_byte [] b some is = absurd (omega arith)
one_byte (x ∷ bytes) b some is = ap (λ y. y ∷ []) is

-- an unrelated pair of the right kind is judged by its tables
pub unrelated_judged : (version : Version) (table : TableView) (n : ℕ) (pair : ℕ × ℕ) (before kind rest after : List ℕ) (result : Result Unit CheckError)
    → Took 1 before kind rest → slice_index kind 0 ≡ 1 → ¬ AreRelated table pair
    → Judges (TablesJudged version table n 0 (signature_pairs table pair)) rest after result → Judges (PairJudged version table n pair) before after result
unrelated_judged version table n pair before kind rest after (Ok done) took is unrelated judged =
    inr (
      took.whole,
      inr (
        inr (unrelated, one_byte before 1 took.whole (ap (λ k. slice_index k 0) (sym took.is_field) ∙ is)),
        inr (unrelated, subst (λ r. TablesJudged version table n 0 (signature_pairs table pair) r (Ok after)) took.behind judged),
      ),
    )
unrelated_judged version table n pair before kind rest after (Err fault) took is unrelated (inl memory) = inl memory
unrelated_judged version table n pair before kind rest after (Err fault) took is unrelated (inr judged) =
    inr (inr (
      took.whole,
      inr (
        inr (unrelated, one_byte before 1 took.whole (ap (λ k. slice_index k 0) (sym took.is_field) ∙ is)),
        inr (unrelated, subst (λ r. TablesJudged version table n 0 (signature_pairs table pair) r (Err fault)) took.behind judged),
      ),
    ))
