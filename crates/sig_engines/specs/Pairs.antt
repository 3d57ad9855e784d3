-- The pairs of formats that are settled so far.
use Rattle.std.specs.Borrow.{Bor}
use Rattle.std.specs.Prelude.{◌≡◌, ◌⊎◌, ℕ, ⊤, Bool, true, false, List, ◌++◌, All, None, Option, Some}
use Rattle.sig_bits.specs.Device.{Adds, AddsFront}
use Rattle.sig_find.specs.declared.class.PairClass.{PairClass}
use Rattle.sig_find.specs.declared.pair.PairDecision.{PairDecision}
use Rattle.sig_table.specs.Views.{TableView}
use Rattle.sig_engines.specs.Conflicts.{AreCounts, AreFirst, IsCounted, IsSettled, KnownPair, notes_of, pair_line, pair_lines}
use Rattle.sig_engines.specs.Notes.{noted}
use Rattle.sig_engines.specs.Ranking.{IsOfFormats}
use Rattle.sig_engines.specs.Stores.{Holding, IsNamed, Makes, SomeMadeFailed}
use Rattle.sig_engines.specs.Witnesses.{IsWitnessOf, KeepsWitness}
use Rattle.sig_engines.specs.declared.ask.ConflictsAsk.{ConflictsAsk}
use Rattle.sig_engines.specs.declared.counts.Counts.{Counts}
use Rattle.sig_engines.specs.declared.error.CutShort.TheVariants.{OutOfMemory, Write}
use Rattle.sig_engines.specs.declared.error.PairsFault.{PairsFault}
use Rattle.sig_engines.specs.declared.error.PairsFault.TheVariants.{CannotOpen, Cut, NoFile}
use Rattle.sig_engines.specs.declared.note.Note.{Note}

-- a file of the name of the priorities is made, and nothing is written to it yet, exactly where there is such a name
abbrev pub IsFileAsked : {F : Type 0} → (name_of written : F → Option (List ℕ)) → (F → Bool) → Holding → Option (Bor (List ℕ)) → Option F → Type 0
IsFileAsked name_of written failed held None None = ⊤
IsFileAsked name_of written failed held None (Some file) = ⊥
IsFileAsked name_of written failed held (Some name) None = ⊥
IsFileAsked name_of written failed held (Some name) (Some file) = IsNamed (name_of file) name.now × Makes held (written file) × (failed file ≡ false)

-- the first pairs, all but the others, are settled, counted and noted, their files are made and their lines are written
pub record AreTold (Made : List ℕ → List ℕ → Type 0) (ask : ConflictsAsk) (table : TableView) (others : List (ℕ × ℕ)) (counts : Counts) (notes : List Note) (before after : Option (List ℕ)) : Type 0 where
  pub known : List KnownPair
  pub are_first : AreFirst ask table known others
  pub are_counts : AreCounts known counts
  pub are_notes : notes ≡ notes_of known
  pub within : All (IsOfFormats table) notes
  pub files : All (λ k. KeepsWitness Made table ask.files k.formats k.decision) known
  pub adds : Adds before (pair_lines ask table known) after

-- a pair is settled, counted and noted, its file is made and its line is written
pub record IsTold (Made : List ℕ → List ℕ → Type 0) (ask : ConflictsAsk) (table : TableView) (formats : ℕ × ℕ) (old new : Counts) (old_notes new_notes : List Note) (before after : Option (List ℕ)) : Type 0 where
  pub decision : Option PairDecision
  pub class : Option PairClass
  pub settled : IsSettled ask table (record { formats = formats; decision = decision; class = class })
  pub counts : IsCounted old new decision class
  pub notes : new_notes ≡ old_notes ++ noted formats decision class
  pub file : KeepsWitness Made table ask.files formats decision
  pub adds : Adds before (pair_line ask table formats decision class) after

-- a pair is settled, and a front of its line is written
pub record IsFrontTold (ask : ConflictsAsk) (table : TableView) (formats : ℕ × ℕ) (before after : Option (List ℕ)) : Type 0 where
  pub decision : Option PairDecision
  pub class : Option PairClass
  pub settled : IsSettled ask table (record { formats = formats; decision = decision; class = class })
  pub adds : AddsFront before (pair_line ask table formats decision class) after

-- why a file that is asked for is not made
abbrev pub IsFileFault : {F : Type 0} → (F → Bool) → PairsFault → ConflictsAsk → TableView → ℕ × ℕ → Type 0
IsFileFault failed (CannotOpen name) ask table formats = ⊥
IsFileFault failed (NoFile folder name) ask table formats = (ask.files ≡ Some folder) × IsWitnessOf table formats name
IsFileFault failed (Cut Write) ask table formats = SomeMadeFailed failed
IsFileFault failed (Cut OutOfMemory) ask table formats = ⊤

-- where memory ran out, or the file of a pair was not made, nothing is written of it, and after a failed write a front of its line
abbrev pub IsPairCut : {F : Type 0} → (F → Bool) → PairsFault → ConflictsAsk → TableView → ℕ × ℕ → Bool → Option (List ℕ) → Option (List ℕ) → Type 0
IsPairCut failed (CannotOpen name) ask table formats is_failed before after = ⊥
IsPairCut failed (NoFile folder name) ask table formats is_failed before after = ((ask.files ≡ Some folder) × IsWitnessOf table formats name) × (after ≡ before)
IsPairCut failed (Cut Write) ask table formats is_failed before after = ((is_failed ≡ true) × IsFrontTold ask table formats before after) ⊎ (SomeMadeFailed failed × (after ≡ before))
IsPairCut failed (Cut OutOfMemory) ask table formats is_failed before after = after ≡ before

-- why the priority file is not written
abbrev pub IsRankFault : {F : Type 0} → (F → Bool) → PairsFault → Type 0
IsRankFault failed (CannotOpen name) = ⊥
IsRankFault failed (NoFile folder name) = ⊥
IsRankFault failed (Cut Write) = SomeMadeFailed failed
IsRankFault failed (Cut OutOfMemory) = ⊤

-- why a folder or a file that is asked for is not made before the search
abbrev pub IsTargetFault : PairsFault → ConflictsAsk → Type 0
IsTargetFault (CannotOpen name) ask = (ask.files ≡ Some name) ⊎ (ask.priorities ≡ Some name)
IsTargetFault (NoFile folder name) ask = ⊥
IsTargetFault (Cut cut) ask = ⊥
