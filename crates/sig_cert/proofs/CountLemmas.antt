-- The count of pairs, and then the pairs.
use Rattle.std.proofs.Common.{◌≡◌, ℕ, ◌≤◌, List, length, take, drop, subst, inl, inr, Ok, Err, Result}
use Rattle.sig_cert.specs.declared.error.CheckError.{CheckError}
use Rattle.sig_cert.specs.Layouts.{Version}
use Rattle.sig_cert.specs.Pairs.{format_pairs}
use Rattle.sig_cert.specs.Verdicts.{CountJudged, Judges, PairsJudged, number_of}
use Rattle.sig_table.specs.Views.{TableView}

-- the right count is judged by the pairs
pub counted_judged : (version : Version) (table : TableView) (before rest after : List ℕ) (result : Result Unit CheckError) → 4 ≤ length before
    → rest ≡ drop 4 before → number_of (take 4 before) ≡ length (format_pairs (length table.formats))
    → Judges (PairsJudged version table 0 (format_pairs (length table.formats))) rest after result → Judges (CountJudged version table) before after result
counted_judged version table before rest after (Ok done) whole behind is judged =
    inr (whole, inr (is, subst (λ r. PairsJudged version table 0 (format_pairs (length table.formats)) r (Ok after)) behind judged))
counted_judged version table before rest after (Err fault) whole behind is (inl memory) = inl memory
counted_judged version table before rest after (Err fault) whole behind is (inr judged) =
    inr (inr (whole, inr (is, subst (λ r. PairsJudged version table 0 (format_pairs (length table.formats)) r (Err fault)) behind judged)))
