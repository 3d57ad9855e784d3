-- What is said of the pairs of formats of a table, where nothing is said of the files that are made.
use Rattle.std.specs.Borrow.{Bor}
use Rattle.std.proofs.Common.{ℕ, Bool, List, None, Option, Some}
use Rattle.std.proofs.lemmas.List.Elements.{All-weaker}
use Rattle.sig_find.specs.declared.pair.PairDecision.{PairDecision}
use Rattle.sig_find.specs.declared.pair.PairDecision.TheVariants.{Ambiguous, Decided, Tried, Unknown}
use Rattle.sig_table.specs.Views.{TableView}
use Rattle.sig_engines.specs.Conflicts.{AddsConflicts, KnownPair, Settles}
use Rattle.sig_engines.specs.Forced.{Forces}
use Rattle.sig_engines.specs.Stores.{IsAny}
use Rattle.sig_engines.specs.Witnesses.{KeepsIn, KeepsWitness}
use Rattle.sig_engines.specs.declared.ask.ConflictsAsk.{ConflictsAsk}
use Rattle.sig_engines.specs.declared.note.Note.{Note}

module _ (Made : List ℕ → List ℕ → Type 0) (t : TableView) where
  any_in : (folder : List ℕ) (formats : ℕ × ℕ) (decision : Option PairDecision) → KeepsIn Made t folder formats decision
      → KeepsIn IsAny t folder formats decision
  any_in folder formats None keeps = tt
  any_in folder formats (Some Decided) keeps = tt
  any_in folder formats (Some (Ambiguous s u file)) keeps = record { name = keeps.name; is = keeps.is; made = tt }
  any_in folder formats (Some (Tried s u file)) keeps = record { name = keeps.name; is = keeps.is; made = tt }
  any_in folder formats (Some (Unknown s u)) keeps = tt

  any_witness : (files : Option (Bor (List ℕ))) (formats : ℕ × ℕ) (decision : Option PairDecision) → KeepsWitness Made t files formats decision
      → KeepsWitness IsAny t files formats decision
  any_witness None formats decision keeps = tt
  any_witness (Some folder) formats decision keeps = any_in folder.now formats decision keeps

  any_forced : (budget : ℕ) (priorities : Option (Bor (List ℕ))) (notes : List Note) (refused : List ℕ) → Forces Made t budget priorities notes refused
      → Forces IsAny t budget priorities notes refused
  any_forced budget None notes refused forces = forces
  any_forced budget (Some name) notes refused forces = record {
    trials = forces.trials;
    all = forces.all;
    tried = forces.tried;
    made = tt;
    lines = forces.lines;
    keeps = forces.keeps;
  }

  any_conflicts : (is_yes : Bool) (refused : List ℕ) (ask : ConflictsAsk) (before after : Option (List ℕ))
      → AddsConflicts Made is_yes refused ask t before after → AddsConflicts IsAny is_yes refused ask t before after
  any_conflicts is_yes refused ask before after adds = record {
    known = adds.known;
    are_all = adds.are_all;
    yes = adds.yes;
    no = adds.no;
    adds = adds.adds;
    files = All-weaker (λ (k : KnownPair). KeepsWitness Made t ask.files k.formats k.decision)
        (λ (k : KnownPair). KeepsWitness IsAny t ask.files k.formats k.decision) (λ k keeps. any_witness ask.files k.formats k.decision keeps) adds.known
        adds.files;
    forces = any_forced ask.budget ask.priorities _ refused adds.forces;
  }

  pub any_settles : (progress is_yes : Bool) (ask : ConflictsAsk) (before after : Option (List ℕ)) (is_failed : Bool) (err_before err_after : Option (List ℕ))
      → Settles Made progress is_yes ask t before after is_failed err_before err_after
      → Settles IsAny progress is_yes ask t before after is_failed err_before err_after
  any_settles progress is_yes ask before after is_failed err_before err_after settles = record {
    refused = settles.refused;
    adds = any_conflicts is_yes settles.refused ask before after settles.adds;
    tells = settles.tells;
  }
