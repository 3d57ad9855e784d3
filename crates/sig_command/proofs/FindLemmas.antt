-- What the error output has of a search over products.
use Rattle.std.proofs.Common.{◌≡◌, ◌≢◌, ◌⊎◌, ℕ, Bool, true, false, List, Option, Result, Ok, inl, inr, refl}
use Rattle.sig_table.specs.Views.{TableView}
use Rattle.sig_engines.specs.Finding.{TellsWhy}
use Rattle.sig_engines.specs.Progress.{AddsProgress, ShowsIf}
use Rattle.sig_engines.specs.Stores.{Holding, IsTableOf}
use Rattle.sig_engines.specs.declared.ask.FindAsk.{FindAsk}
use Rattle.sig_engines.specs.declared.error.FileFault.{FileFault}
use Rattle.sig_engines.specs.declared.progress.Things.TheVariants.{Products}
use Rattle.sig_engines.specs.declared.store.TablePaths.{TablePaths}
use Rattle.sig_command.specs.Requests.{ShowsAsked, TellsOf}
use Rattle.sig_command.specs.declared.args.Request.TheVariants.{Find}

-- an answer of the engine
abbrev answered : Bool → Result Bool FileFault
answered is_yes = Ok is_yes

yes_is_no_no : answered true ≢ answered false
yes_is_no_no same = cc

-- the progress alone, where it is asked for
progress_alone : {E : Type 0} (progress : Bool) (is_failed : E → Bool) (written : E → Option (List ℕ)) (before after : E)
    → ShowsIf progress Products (is_failed after) before after (written before) (written after)
    → (after ≡ before) ⊎ ((progress ≡ true) × (is_failed after ≡ false → AddsProgress Products (written before) (written after)))
progress_alone true is_failed written before after told = inr (refl, told)
progress_alone false is_failed written before after told = inl told

shows : {R E : Type 0} (failed : R → Bool) (held : Holding) (paths : TablePaths) (ask : FindAsk) (is_answered : Bool) (is_failed : E → Bool)
    (written : E → Option (List ℕ)) (before after : E) → ShowsIf ask.progress Products (is_failed after) before after (written before) (written after)
    → TellsOf failed held (Find paths ask) is_answered is_failed written before after
shows failed held paths ask is_answered is_failed written before after told =
    elim (progress_alone ask.progress is_failed written before after told) [ inl same ↦ inl same | inr adds ↦ inr (inl adds) ]

-- and behind it why the search gave up
pub found_told : {R E : Type 0} (failed : R → Bool) (held : Holding) (paths : TablePaths) (ask : FindAsk) (table : TableView) (is_yes : Bool)
    (is_failed : E → Bool) (written : E → Option (List ℕ)) (before after : E) (out_before out_after : Option (List ℕ)) → IsTableOf held paths table
    → (answered is_yes ≢ answered false → ShowsIf ask.progress Products (is_failed after) before after (written before) (written after))
    → (is_yes ≡ false → is_failed after ≡ false
    → TellsWhy ask.progress ask.hex table ask.budget out_before out_after (written before) (written after))
    → TellsOf failed held (Find paths ask) true is_failed written before after
found_told failed held paths ask table true is_failed written before after out_before out_after is told why =
    shows failed held paths ask true is_failed written before after (told yes_is_no_no)
found_told failed held paths ask table false is_failed written before after out_before out_after is told why =
    inr (inr (refl, λ sound. (table, is, out_before, out_after, why refl sound)))

-- so where there is an answer
pub found_shown : {E : Type 0} (held : Holding) (paths : TablePaths) (ask : FindAsk) (table : TableView) (is_yes : Bool) (is_failed : Bool) (before after : E)
    (written written_after : Option (List ℕ)) (out_before out_after : Option (List ℕ)) → IsTableOf held paths table
    → (answered is_yes ≢ answered false → ShowsIf ask.progress Products is_failed before after written written_after)
    → (is_yes ≡ false → is_failed ≡ false → TellsWhy ask.progress ask.hex table ask.budget out_before out_after written written_after)
    → ShowsAsked held (Find paths ask) is_yes out_before out_after is_failed before after written written_after
found_shown held paths ask table true is_failed before after written written_after out_before out_after is told why = told yes_is_no_no
found_shown held paths ask table false is_failed before after written written_after out_before out_after is told why = λ sound. (table, is, why refl sound)

-- and where there is none
pub unfound_told : {R E : Type 0} (failed : R → Bool) (held : Holding) (paths : TablePaths) (ask : FindAsk) (is_failed : E → Bool)
    (written : E → Option (List ℕ)) (before after : E) → ShowsIf ask.progress Products (is_failed after) before after (written before) (written after)
    → TellsOf failed held (Find paths ask) false is_failed written before after
unfound_told failed held paths ask is_failed written before after told = shows failed held paths ask false is_failed written before after told
