-- The forced pairs that are tried so far.
use Rattle.std.specs.Prelude.{◌≡◌, ℕ, List, ◌++◌, length, map}
use Rattle.sig_cert.specs.Deciding.{AreFormats}
use Rattle.sig_find.specs.Additions.{IsAddition}
use Rattle.sig_find.specs.declared.addition.Addition.{Addition}
use Rattle.sig_table.specs.RankingViews.{RankingView}
use Rattle.sig_table.specs.Views.{TableView}
use Rattle.sig_engines.specs.Forced.{AreTried, Trial, pair_if, priorities_with, refused_lines, trial_line}
use Rattle.sig_engines.specs.Notes.{forced_pairs}
use Rattle.sig_engines.specs.declared.note.Note.{Note}

-- both formats of a note are of the table
abbrev pub IsOfFormats : TableView → Note → Type 0
IsOfFormats table note = AreFormats table (note.a, note.b)

-- the forced pairs of these notes are tried: the ranking has the priorities and those that are added, the lines are of the others
pub record AreRanked (table : TableView) (budget : ℕ) (notes : List Note) (ranking : RankingView) (refused : List ℕ) : Type 0 where
  pub trials : List Trial
  pub all : map (λ t. t.pair) trials ≡ forced_pairs notes
  pub tried : AreTried table budget table.priorities trials
  pub count : ranking.format_count ≡ length table.formats
  pub pairs : ranking.pairs ≡ priorities_with table trials
  pub lines : refused ≡ refused_lines table trials

-- one pair more is tried
pub record IsTrialMade (table : TableView) (budget : ℕ) (pair : ℕ × ℕ) (old : RankingView) (old_lines : List ℕ) (new : RankingView) (new_lines : List ℕ) : Type 0 where
  pub does : Addition
  pub tried : IsAddition table old.pairs pair budget does
  pub count : new.format_count ≡ old.format_count
  pub pairs : new.pairs ≡ old.pairs ++ pair_if pair does
  pub lines : new_lines ≡ old_lines ++ trial_line table (record { pair = pair; does = does })
