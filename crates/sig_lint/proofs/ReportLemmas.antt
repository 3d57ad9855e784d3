-- What is told of two files, line by line.
use Rattle.std.proofs.Common.{◌≡◌, ◌==◌, ◌<◌, ◌≤◌, ℕ, suc, zero, Bool, true, false, cond, List, [], ◌∷◌, ◌++◌, All, None, Option, Some, Err, ap, arith, codes}
use Rattle.std.proofs.Common.{get_or, length, map, refl, subst, sym, ◌∙◌}
use Rattle.std.proofs.lemmas.Grind.{flat_map-append}
use Rattle.std.proofs.lemmas.List.{append-nil, map-append}
use Rattle.std.proofs.lemmas.List.Elements.{All-append, All-cons, All-get_or, All-nil}
use Rattle.std.proofs.lemmas.Option.{same_Some}
use Rattle.std.proofs.Math.ListN.{get_or-map}
use Rattle.std.proofs.lemmas.List.{length-map}
use Rattle.std.specs.Fmt.{decimal}
use Rattle.std.specs.Prelude.{flat_map, option_map, slice_get}
use Rattle.sig_table.specs.Judging.{Records}
use Rattle.sig_table.specs.Loading.{table_of}
use Rattle.sig_table.specs.Puids.{puid_text}
use Rattle.sig_table.specs.Views.{SignatureView, TableView}
use Rattle.sig_table.specs.declared.ids.SigId.{SigId}
use Rattle.sig_table.specs.declared.puid.Puid.{Puid}
use Rattle.sig_lint.specs.FaultViews.{FaultView}
use Rattle.sig_lint.specs.Reports.{AreFaultLines, LinedFault, TellsFaults, fault_line, signature_name, signature_words}
use Rattle.sig_lint.specs.Faults.{lint_faults}
use Rattle.sig_lint.specs.Warnings.{is_of_gaps, places_of_gaps}

-- no fault has no line
pub lines-none : AreFaultLines [] []
lines-none = record { told = []; are = refl; is = refl }

-- one fault more has one line more
pub lines-more : (faults : List FaultView) (fault : FaultView) (line : ℕ) (before after : List ℕ) → AreFaultLines faults before
    → after ≡ before ++ fault_line (record { line = line; fault = fault }) → AreFaultLines (faults ++ fault ∷ []) after
lines-more faults fault line before after lines grows = record {
  told = lines.told ++ here ∷ [];
  are = map-append (λ (t : LinedFault). t.fault) lines.told (here ∷ []) ∙ ap (λ l. l ++ fault ∷ []) lines.are;
  is = grows ∙ ap (λ l. l ++ fault_line here) lines.is ∙ ap (λ l. flat_map fault_line lines.told ++ l) (sym (append-nil (fault_line here))) ∙ sym
      (flat_map-append fault_line lines.told (here ∷ []));
}
  where
    here : LinedFault
    here = record { line = line; fault = fault }

-- the number, the format and its PUID name a signature
pub name_is : (table : TableView) (place number format : ℕ) (puid : Puid)
    → option_map (λ (s : SignatureView). s.number) (slice_get table.signatures place) ≡ Some number
    → option_map (λ (s : SignatureView). s.format) (slice_get table.signatures place) ≡ Some format → slice_get table.formats format ≡ Some puid
    → signature_name table place ≡ codes "signature " ++ decimal number ++ codes " of " ++ puid_text puid
name_is table place number format puid is_number is_format is_puid = go (slice_get table.signatures place) is_number is_format
  where
    go : (s : Option SignatureView) → option_map (λ (s : SignatureView). s.number) s ≡ Some number
        → option_map (λ (s : SignatureView). s.format) s ≡ Some format
        → signature_words table.formats s ≡ codes "signature " ++ decimal number ++ codes " of " ++ puid_text puid
    go None first second = cc
    go (Some s) first second =
        let one : s.number ≡ number = same_Some s.number number first in
        let two : s.format ≡ format = same_Some s.format format second in
        rw (one, two, is_puid) refl

-- a place that is told is one of the first
one_within : (bound n : ℕ) (b : Bool) → n < bound → All (λ p. p < bound) (cond b (n ∷ []) [])
one_within bound n true within = All-cons (λ p. p < bound) n [] within (All-nil (λ p. p < bound))
one_within bound n false within = All-nil (λ p. p < bound)

pub places_within : (signatures : List SignatureView) (bound n : ℕ) → n ≤ bound → All (λ p. p < bound) (places_of_gaps signatures n)
unfolding places_of_gaps
places_within signatures bound zero within = All-nil (λ p. p < bound)
places_within signatures bound (suc n) within =
    All-append (λ p. p < bound) (places_of_gaps signatures n) _ (places_within signatures bound n (omega arith))
    (one_within bound n (is_of_gaps (option_map (λ (s : SignatureView). s.sequences) (slice_get signatures n))) (omega arith))

-- so a signature that is found is one of the table
pub found_within : (signatures : List SignatureView) (found : List SigId) (i : ℕ) (d : SigId)
    → map (λ (id : SigId). id.0) found ≡ places_of_gaps signatures (length signatures) → i < length found → (get_or found i d).0 < length signatures
found_within signatures found i d are within =
    let all : All (λ p. p < length signatures) (map (λ (id : SigId). id.0) found) =
    subst (All (λ p. p < length signatures)) (sym are) (places_within signatures (length signatures) (length signatures) (omega arith)) in
    subst (λ p. p < length signatures) (get_or-map (λ (id : SigId). id.0) found i d)
    (All-get_or (λ p. p < length signatures) (map (λ (id : SigId). id.0) found) i d.0 (omega (arith, length-map found (λ (id : SigId). id.0))) all)

-- faults that are some have a first one
pub faults_told : (signatures priorities : Records) (faults : List FaultView) (text : List ℕ) → faults ≡ lint_faults signatures priorities
    → (length faults == 0) ≡ false → ((fault : FaultView) (later : List FaultView) → faults ≡ fault ∷ later → table_of signatures priorities ≡ Err fault.error)
    → AreFaultLines faults text → TellsFaults signatures priorities text
faults_told signatures priorities [] text same some first lines = let no : true ≡ false = some in cc
faults_told signatures priorities (fault ∷ later) text same some first lines = record {
  first = fault;
  later = later;
  are = sym same;
  loads = first fault later refl;
  lines = subst (λ faults. AreFaultLines faults text) same lines;
}
