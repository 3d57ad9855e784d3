-- What the finder finds names formats and signatures of its table.
use Rattle.std.proofs.Common.{◌≡◌, ◌++◌, ℕ, ◌<◌, append_assoc, Bool, Err, List, Ok, Option, Result, ap, false, length, subst, true}
use Rattle.std.specs.Prelude.{IfOk, IfSome, OnOk}
use Rattle.std.proofs.lemmas.Option.{get_or_from_slice_get, slice_get_within}
use Rattle.sig_find.specs.Answers.{IsFound}
use Rattle.sig_find.specs.Finding.{IsOfFormat}
use Rattle.sig_find.specs.declared.found.Found.{Found}
use Rattle.sig_find.specs.declared.found.Found.TheVariants.{Certificate, GaveUp, Witness}
use Rattle.sig_table.specs.Tables.{IsSignature, IsTable}
use Rattle.sig_table.specs.Views.{TableView}
use Rattle.sig_bits.specs.Device.{Adds}
use Rattle.sig_engines.specs.Finding.{AddsFound, IsKnown, IsReason, KeepsFound, TellsWhy, found_bytes, found_text, is_answered}
use Rattle.sig_engines.specs.Progress.{AddsIf, ShowsIf}
use Rattle.sig_engines.specs.declared.progress.Things.TheVariants.{Products}
use Rattle.sig_engines.specs.declared.progress.Things.{Things}

-- the format of a signature of the table is one of its formats
format_is_known : (table : TableView) → IsTable table → (format index : ℕ) → IsOfFormat table format index → format < length table.formats
format_is_known table is format index (signature, at, of) =
    let signature_is : IsSignature (length table.formats) signature =
    subst (IsSignature (length table.formats)) (get_or_from_slice_get table.signatures index signature signature at)
    (is.each index signature (slice_get_within table.signatures index signature at)) in
    subst (λ f. f < length table.formats) of signature_is.known

pub found_is_known : (table : TableView) → IsTable table → (budget : ℕ) (found : Found) → IsFound table budget found → IsKnown table found
found_is_known table is budget (Certificate certificate) h = tt
found_is_known table is budget (Witness file a b) h = (format_is_known table is a.0 h.s h.s_of, format_is_known table is b.0 h.t h.t_of)
found_is_known table is budget (GaveUp s t) h =
    (slice_get_within table.signatures s.0 h.s_of.0 h.s_of.1, slice_get_within table.signatures t.0 h.t_of.0 h.t_of.1)

-- what is written of what was found is all that is written
pub found_is_added : {F : Type 0} (table : TableView) (budget : ℕ) (hex : Bool) (found : Found) (before after : Option (List ℕ)) (result : Result Bool F)
    → IsFound table budget found → IfOk result (λ is_yes. is_yes ≡ is_answered found) → OnOk result (Adds before (found_text hex table found) after)
    → IfOk result (λ is_yes. AddsFound is_yes hex table budget before after)
found_is_added table budget hex found before after (Ok is_yes) is_found answered adds =
    record { found = found; is_found = is_found; is = answered; adds = adds }
found_is_added table budget hex found before after (Err fault) is_found answered adds = tt

-- what is printed is of what was found, whose bytes are kept
pub found_is_kept : {F : Type 0} (IsKept : List ℕ → Type 0) (table : TableView) (budget : ℕ) (hex : Bool) (found : Found) (before after : Option (List ℕ))
    (result : Result Bool F) → IsFound table budget found → IfOk result (λ is_yes. is_yes ≡ is_answered found) → OnOk result (IfSome (found_bytes found) IsKept)
    → OnOk result (Adds before (found_text hex table found) after) → IfOk result (λ is_yes. KeepsFound IsKept is_yes hex table budget before after)
found_is_kept IsKept table budget hex found before after (Ok is_yes) is_found answered kept adds =
    record { adds = record { found = found; is_found = is_found; is = answered; adds = adds }; kept = kept }
found_is_kept IsKept table budget hex found before after (Err fault) is_found answered kept adds = tt

-- ---- why it gave up

-- what is shown where it is asked for, by what is written
pub shown_adds : {E : Type 0} (progress : Bool) (things : Things) (is_failed : Bool) (written : E → Option (List ℕ)) (before after : E)
    → ShowsIf progress things is_failed before after (written before) (written after) → is_failed ≡ false
    → AddsIf progress things (written before) (written after)
shown_adds true things is_failed written before after shows whole = shows whole
shown_adds false things is_failed written before after shows whole = ap written shows

-- a no was given up, and its reason is told
pub why_is_told : (progress hex : Bool) (table : TableView) (budget : ℕ) (found : Found) (reason : List ℕ)
    (before after err_before mid err_after : Option (List ℕ)) → IsFound table budget found → false ≡ is_answered found → IsReason table budget found reason
    → Adds before (found_text hex table found) after → AddsIf progress Products err_before mid → Adds mid reason err_after
    → TellsWhy progress hex table budget before after err_before err_after
why_is_told progress hex table budget (Certificate certificate) reason before after err_before mid err_after is gave_up is_reason adds shows tells = cc
why_is_told progress hex table budget (Witness file a b) reason before after err_before mid err_after is gave_up is_reason adds shows tells = cc
why_is_told progress hex table budget (GaveUp s t) reason before after err_before mid err_after is gave_up is_reason adds shows tells =
    record { s = s; t = t; gave_up = is; adds = adds; mid = mid; shows = shows; reason = reason; is_reason = is_reason; tells = tells }

-- ---- its line

-- pieces behind a text, one by one, and as one
pub pieces : (old a s b t c e : List ℕ) → old ++ a ++ s ++ b ++ t ++ (c ++ e) ≡ old ++ (a ++ s ++ b ++ t ++ c ++ e)
pieces old a s b t c e = simp append_assoc
