-- What a certificate that is judged Ok means.
use Rattle.std.proofs.Common.{◌≡◌, ℕ, List, [], get_or, subst, arith, Fits, w8, Ok, Err, Result}
use Rattle.std.proofs.lemmas.List.{get_or_default}
use Rattle.std.specs.Prelude.{OnOk}
use Rattle.std.specs.Result.{MatchResult}
use Rattle.sig_bits.specs.Bytes.{IsBytes}
use Rattle.sig_cert.specs.declared.error.CheckError.{CheckError}
use Rattle.sig_cert.specs.Closed.{Closed}
use Rattle.sig_cert.specs.Deciding.{Decided}
use Rattle.sig_cert.specs.Verdicts.{CertificateJudged, Judges}
use Rattle.sig_cert.proofs.AcceptedLemmas.{accepted_is_closed}
use Rattle.sig_cert.proofs.DecidedLemmas.{closed_decides}
use Rattle.sig_table.specs.Tables.{IsTable}
use Rattle.sig_table.specs.Views.{TableView}

-- only a closed certificate is accepted
pub closed_if_accepted : (table : TableView) (certificate view after : List ℕ) (result : Result Unit CheckError) → IsBytes certificate → view ≡ certificate
    → Judges (CertificateJudged table) view after result → MatchResult result (λ done. after ≡ []) (λ e. Unit {0}) → OnOk result (Closed table certificate)
closed_if_accepted table certificate view after (Ok done) bytes same judged end =
    accepted_is_closed table certificate bytes (subst (λ c. CertificateJudged table c (Ok [])) same
    (subst (λ a. CertificateJudged table view (Ok a)) end judged))
closed_if_accepted table certificate view after (Err e) bytes same judged end = tt

-- where only a closed certificate is accepted, an accepted one decides its table
pub decided_if_closed : (table : TableView) (certificate : List ℕ) (result : Result Unit CheckError) → OnOk result (IsTable table)
    → OnOk result (Closed table certificate) → OnOk result (Decided table)
decided_if_closed table certificate (Ok done) is_table closed = closed_decides table certificate is_table closed
decided_if_closed table certificate (Err e) is_table closed = tt

-- the items of a slice of bytes are bytes
pub bytes_from_slice : (xs : List ℕ) → ((i : ℕ) → Fits w8 (get_or xs i 0)) → IsBytes xs
bytes_from_slice xs fits k d at =
    let fit : Fits w8 (get_or xs k 0) = fits k in
    rw (get_or_default xs k d 0 at) (omega arith)
