-- What is said of the pairs of formats of a table: of an answer, and of a fault.
use Rattle.std.specs.Borrow.{Bor}
use Rattle.std.proofs.Common.{◌≡◌, ◌≢◌, ◌⊎◌, ◌∙◌, ℕ, Bool, List, ◌∷◌, None, Option, Some, ap, false, inl, inr, refl, sym, true}
use Rattle.std.specs.Prelude.{is_some}
use Rattle.clap.specs.Words.{Text}
use Rattle.sig_table.specs.Views.{TableView}
use Rattle.sig_engines.specs.Conflicts.{AddsFirstPairs, IsBeforeSearch, IsUnmade, Settles, StopsPairs}
use Rattle.sig_engines.specs.Progress.{ShowsIf}
use Rattle.sig_engines.specs.Stores.{Holding, IsAny, IsTableOf, SomeWriteFailed}
use Rattle.sig_engines.specs.declared.ask.ConflictsAsk.{ConflictsAsk}
use Rattle.sig_engines.specs.declared.error.CutShort.{CutShort as CutShortFault}
use Rattle.sig_engines.specs.declared.error.CutShort.TheVariants as cut
use Rattle.sig_engines.specs.declared.error.PairsFault.{PairsFault}
use Rattle.sig_engines.specs.declared.error.PairsFault.TheVariants as pairs
use Rattle.sig_engines.specs.declared.error.RunError.TheVariants as run
use Rattle.sig_engines.specs.declared.progress.Things.TheVariants.{Pairs}
use Rattle.sig_engines.specs.declared.store.TablePaths.{TablePaths}
use Rattle.sig_engines.specs.declared.witness_name.WitnessName.{WitnessName}
use Rattle.sig_command.specs.Faults.{TellsWrite}
use Rattle.sig_command.specs.Requests.{AsksPairs, IsConflictsFault, IsFaultOf, KeepsOrCuts, TellsOf, pairs_fault}
use Rattle.sig_command.specs.declared.args.ConflictsOptions.{ConflictsOptions}
use Rattle.sig_command.specs.declared.args.Request.TheVariants.{Conflicts}
use Rattle.sig_command.specs.declared.fault.Fault.TheVariants.{CannotOpen, CutShort, NoFile, Run}

-- ---- the error output

module _ {R E : Type 0} (failed : R → Bool) (held : Holding) (table : TablePaths) (options : ConflictsOptions) (is_failed : E → Bool)
    (written : E → Option (List ℕ)) (before after : E) where
  -- the progress alone, where it is asked for
  pub progress_told : (progress is_answered : Bool) → ShowsIf progress Pairs (is_failed after) before after (written before) (written after)
      → TellsOf failed held (Conflicts table options progress) is_answered is_failed written before after
  progress_told true is_answered shows = inr (inl (refl, shows))
  progress_told false is_answered shows = inl shows

  -- nothing, or the progress
  pub fault_told : (progress : Bool) → (after ≡ before) ⊎ ShowsIf progress Pairs (is_failed after) before after (written before) (written after)
      → TellsOf failed held (Conflicts table options progress) false is_failed written before after
  fault_told progress (inl same) = inl same
  fault_told progress (inr shows) = progress_told progress false shows

  -- the forced pairs that are not written, where they are asked for
  pub answer_told : (progress is_yes : Bool) (t : TableView) → IsTableOf held table t → (ask : ConflictsAsk) → AsksPairs options t ask
      → (out_before out_after : Option (List ℕ))
      → Settles IsAny progress is_yes ask t out_before out_after (is_failed after) (written before) (written after)
      → (options.priorities ≡ None → ShowsIf progress Pairs (is_failed after) before after (written before) (written after))
      → TellsOf failed held (Conflicts table options progress) true is_failed written before after
  answer_told progress is_yes t is ask asks out_before out_after settles quiet = go options.priorities refl
    where
      go : (priorities : Option (Bor (List ℕ))) → options.priorities ≡ priorities
          → TellsOf failed held (Conflicts table options progress) true is_failed written before after
      go None none = progress_told progress true (quiet none)
      go (Some name) some =
          inr (inr (
            refl,
            ap is_some some,
            λ whole. (
              t,
              is,
              ask,
              asks,
              is_yes,
              out_before,
              out_after,
              record { refused = settles.refused; adds = settles.adds; tells = λ sound. settles.tells whole },
            ),
          ))

-- ---- the faults

module _ {F : Type 0} (made_failed : F → Bool) (held : Holding) (table : TablePaths) (options : ConflictsOptions) (progress : Bool) (t : TableView)
    (is : IsTableOf held table t) (ask : ConflictsAsk) (asks : AsksPairs options t ask) (is_failed : Bool) (before after : Option (List ℕ)) where
  -- each is one of what is asked for
  pub pairs_fault_of : {R : Type 0} (failed : R → Bool) (fault : PairsFault) → StopsPairs made_failed fault ask t is_failed before after → IsUnmade held fault
      → IsFaultOf failed held (Conflicts table options progress) (pairs_fault fault)
  pairs_fault_of failed fault stops unmade = inr (inr (inl ((t, is), go fault stops unmade)))
    where
      go : (fault : PairsFault) → StopsPairs made_failed fault ask t is_failed before after → IsUnmade held fault
          → IsConflictsFault held table options (pairs_fault fault)
      go (pairs.CannotOpen name) (inl files) unmade = (inl (sym asks.files ∙ files), unmade)
      go (pairs.CannotOpen name) (inr priorities) unmade = (inr (sym asks.priorities ∙ priorities), unmade)
      go (pairs.NoFile folder name) stops unmade = (sym asks.files ∙ stops.0, unmade, t, is, stops.1.formats, stops.1.is_named)
      go (pairs.Cut error) stops unmade = (t, is, ask, asks)

  -- a failed write is told only where one failed
  pub write_has_failed : (fault : PairsFault) → StopsPairs made_failed fault ask t is_failed before after → TellsWrite (pairs_fault fault)
      → SomeWriteFailed made_failed is_failed
  write_has_failed (pairs.CannotOpen name) stops (inl same) = let bad : CannotOpen name ≡ Run run.Write = same in cc
  write_has_failed (pairs.CannotOpen name) stops (inr same) = let bad : CannotOpen name ≡ CutShort cut.Write = same in cc
  write_has_failed (pairs.NoFile folder name) stops (inl same) = let bad : NoFile folder name ≡ Run run.Write = same in cc
  write_has_failed (pairs.NoFile folder name) stops (inr same) = let bad : NoFile folder name ≡ CutShort cut.Write = same in cc
  write_has_failed (pairs.Cut cut.Write) (inl front) tells = inl front.0
  write_has_failed (pairs.Cut cut.Write) (inr made) tells = inr made.0
  write_has_failed (pairs.Cut cut.OutOfMemory) stops (inl same) = let bad : CutShort cut.OutOfMemory ≡ Run run.Write = same in cc
  write_has_failed (pairs.Cut cut.OutOfMemory) stops (inr same) = let bad : CutShort cut.OutOfMemory ≡ CutShort cut.Write = same in cc

  -- unless a write failed, the lines of the first pairs are written
  pub pairs_are_cut : (fault : PairsFault) → StopsPairs made_failed fault ask t is_failed before after → (IsBeforeSearch fault → ⊥) → is_failed ≡ false
      → (u : TableView) × IsTableOf held table u × (a : ConflictsAsk) × AsksPairs options u a × AddsFirstPairs a u before after
  pairs_are_cut (pairs.CannotOpen name) stops searched whole = absurd (searched tt)
  pairs_are_cut (pairs.NoFile folder name) stops searched whole =
      (t, is, ask, asks, record { known = stops.1.known; others = stops.1.formats ∷ stops.1.others; are_first = stops.1.are_first; adds = stops.1.adds })
  pairs_are_cut (pairs.Cut cut.Write) (inl front) searched whole = absurd (let bad : true ≡ false = sym front.0 ∙ whole in cc)
  pairs_are_cut (pairs.Cut cut.Write) (inr made) searched whole = (t, is, ask, asks, made.1)
  pairs_are_cut (pairs.Cut cut.OutOfMemory) stops searched whole = (t, is, ask, asks, stops)

-- what is neither of an engine that stopped nor of the file of a pair comes before the search
pub is_before_search : (fault : PairsFault) → ((e : CutShortFault) → pairs_fault fault ≢ CutShort e)
    → ((folder : Bor Text) (name : WitnessName) → pairs_fault fault ≢ NoFile folder name) → IsBeforeSearch fault
is_before_search (pairs.CannotOpen name) none no_file = tt
is_before_search (pairs.NoFile folder name) none no_file = absurd (no_file folder name refl)
is_before_search (pairs.Cut error) none no_file = absurd (none error refl)

-- before the search nothing is written, and behind it the first lines are, unless a write failed
pub pairs_keep : {F R W : Type 0} (made_failed : F → Bool) (failed : R → Bool) (held : Holding) (table : TablePaths) (options : ConflictsOptions)
    (progress : Bool) (t : TableView) → IsTableOf held table t → (ask : ConflictsAsk) → AsksPairs options t ask
    → (is_failed : W → Bool) (written : W → Option (List ℕ)) (before after : W) (fault : PairsFault)
    → StopsPairs made_failed fault ask t (is_failed after) (written before) (written after) → (IsBeforeSearch fault → after ≡ before)
    → KeepsOrCuts failed held (Conflicts table options progress) is_failed written before after
pairs_keep made_failed failed held table options progress t is ask asks is_failed written before after (pairs.CannotOpen name) stops untouched =
    λ whole. inl (untouched tt)
pairs_keep made_failed failed held table options progress t is ask asks is_failed written before after (pairs.NoFile folder name) stops untouched =
    λ whole. inr (pairs_are_cut made_failed held table options progress t is ask asks (is_failed after) (written before) (written after)
    (pairs.NoFile folder name) stops (λ never. never) whole)
pairs_keep made_failed failed held table options progress t is ask asks is_failed written before after (pairs.Cut error) stops untouched =
    λ whole. inr (pairs_are_cut made_failed held table options progress t is ask asks (is_failed after) (written before) (written after) (pairs.Cut error) stops
    (λ never. never) whole)
