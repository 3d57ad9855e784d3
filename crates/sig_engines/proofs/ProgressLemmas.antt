-- Reports, and further reports.
use Rattle.std.proofs.Common.{◌≡◌, ◌∙◌, ◌++◌, ℕ, Bool, true, false, List, [], ◌∷◌, Option, sym, subst, append-nil}
use Rattle.std.specs.Prelude.{codes}
use Rattle.std.proofs.lemmas.Grind.{flat_map-append}
use Rattle.sig_bits.specs.Device.{Adds}
use Rattle.sig_engines.specs.Metered.{HasTold}
use Rattle.sig_engines.specs.Progress.{AddsProgress, AddsReports, ShowsIf, report_text}
use Rattle.sig_engines.specs.declared.progress.Meter.{Meter}
use Rattle.sig_engines.specs.declared.progress.Things.{Things}
use Rattle.sig_engines.proofs.WriteLemmas.{adds_then}
use Rattle.sig_engines.proofs.TellingLemmas.{adds_nothing}

-- reports and further reports are reports
pub reports_then : (things : Things) (before mid after : Option (List ℕ)) → AddsReports things before mid → AddsReports things mid after
    → AddsReports things before after
reports_then things before mid after first second = record {
  told = first.told ++ second.told;
  adds = subst (λ l. Adds before l after) (sym (flat_map-append (report_text things) first.told second.told))
      (adds_then before mid after _ _ first.adds second.adds);
}

-- one report alone
pub one_report : (things : Things) (done all : ℕ) (before after : Option (List ℕ)) → Adds before (report_text things (done, all)) after
    → AddsReports things before after
one_report things done all before after adds = record {
  told = (done, all) ∷ [];
  adds = subst (λ l. Adds before l after) (sym (append-nil (report_text things (done, all)))) adds;
}

-- reports, and the end of their line
pub reports_end : (things : Things) (before mid after : Option (List ℕ)) → AddsReports things before mid → Adds mid (codes "\n") after
    → AddsProgress things before after
reports_end things before mid after reports ends = record { told = reports.told; adds = adds_then before mid after _ _ reports.adds ends }

-- no report yet
pub no_reports : (things : Things) (before : Option (List ℕ)) → AddsReports things before before
no_reports things before = record { told = []; adds = adds_nothing before }

-- what a meter has told of a search, once it has ended its line and is given back
pub metered : {E : Type 0} (failed : E → Bool) (written : E → Option (List ℕ)) (meter mid last : Meter E) (things : Things) (before after : E)
    → meter.things ≡ things → meter.err.now ≡ before → HasTold failed written meter mid → last.err.ghost_name ≡ mid.err.ghost_name
    → (failed last.err.now ≡ false → failed mid.err.now ≡ false)
    → (failed last.err.now ≡ false → Adds (written mid.err.now) (codes "\n") (written last.err.now))
    → (meter.err.ghost_name ≡ last.err.ghost_name → after ≡ last.err.now) → failed after ≡ false → AddsProgress things (written before) (written after)
metered failed written meter mid last things before after of begins told same sound ends given whole =
    let is_last : after ≡ last.err.now = given (sym (same ∙ told.same_reference)) in
    let whole_last : failed last.err.now ≡ false = subst (λ e. failed e ≡ false) is_last whole in
    let reports = told.adds (sound whole_last) things of (written meter.err.now) (no_reports things (written meter.err.now)) in
    let progress = reports_end things (written meter.err.now) (written mid.err.now) (written last.err.now) reports (ends whole_last) in
    subst (λ e. AddsProgress things (written e) (written after)) begins
    (subst (λ e. AddsProgress things (written meter.err.now) (written e)) (sym is_last) progress)

-- with the flag
pub shown_if : {E : Type 0} (progress : Bool) (things : Things) (is_failed : Bool) (before after : E) (written written_after : Option (List ℕ))
    → progress ≡ true → (is_failed ≡ false → AddsProgress things written written_after) → ShowsIf progress things is_failed before after written written_after
shown_if true things is_failed before after written written_after is shown = shown
shown_if false things is_failed before after written written_after is shown = cc
