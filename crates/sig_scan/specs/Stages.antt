-- A sequence, cut at its unbounded gaps: what stands in turn in a file.
use Rattle.std.specs.Prelude.{◌≡◌, ◌↔◌, Bool, false, true, ℕ, ◌+◌, ◌≤◌, List, [], ◌∷◌, ◌++◌, length, Option, Some, None}
use Rattle.sig_bits.specs.Bytes.{IsBytes}
use Rattle.sig_expr.specs.declared.item.Item.{Item}
use Rattle.sig_expr.specs.declared.item.Item.TheVariants as item
use Rattle.sig_expr.specs.Words.{IsAtMost}
use Rattle.sig_table.specs.declared.position.Position.{Position}
use Rattle.sig_table.specs.declared.position.Position.TheVariants as position
use Rattle.sig_table.specs.Standing.{Stands}
use Rattle.sig_table.specs.Views.{SequenceView}
use Rattle.sig_scan.specs.Placed.{Lies}

-- a stage: items without an unbounded gap, the greatest offset at which a word of them may begin,
-- if there is one, and how many bytes behind its end the next stage may begin
pub record StageView : Type 0 where
  pub items : List Item
  pub until : Option ℕ
  pub delay : ℕ

-- what stands at the end of a file: items without an unbounded gap, and the least and the greatest
-- number of bytes behind a word of them
pub record TailView : Type 0 where
  pub items : List Item
  pub min : ℕ
  pub max : ℕ

-- all of a sequence: the first offset at which it may begin, its stages in turn, and the tail
-- behind them, if there is one
pub record CourseView : Type 0 where
  pub from : ℕ
  pub stages : List StageView
  pub tail : Option TailView

-- a word of the stage ends here that begins at `from` or later, and not behind the greatest offset
pub record StageEnds (stage : StageView) (file : List ℕ) (from end : ℕ) : Type 0 where
  pub start : ℕ
  pub not_before : from ≤ start
  pub not_behind : IsAtMost stage.until start
  pub lies : Lies stage.items file start end

-- no word of the stage that so begins ends before this end of one
pub record IsFirstEnd (stage : StageView) (file : List ℕ) (from end : ℕ) : Type 0 where
  pub ends : StageEnds stage file from end
  pub first : (other : ℕ) → StageEnds stage file from other → end ≤ other

-- a word of the tail begins at `from` or later, and as many bytes are behind it as may be
pub record TailStands (tail : TailView) (file : List ℕ) (from : ℕ) : Type 0 where
  pub start : ℕ
  pub end : ℕ
  pub not_before : from ≤ start
  pub lies : Lies tail.items file start end
  pub least : end + tail.min ≤ length file
  pub greatest : length file ≤ end + tail.max

-- from this offset on the tail stands in the file; without one, the offset is one of the file
abbrev pub TailStandsIfAny : List ℕ → ℕ → Option TailView → Type 0
TailStandsIfAny file from None = from ≤ length file
TailStandsIfAny file from (Some tail) = TailStands tail file from

-- from this offset on the stages stand in turn in the file, each behind the end of the one before
-- and its delay, and then the tail
abbrev pub InTurn : List ℕ → ℕ → List StageView → Option TailView → Type 0
InTurn file from [] tail = TailStandsIfAny file from tail
InTurn file from (s ∷ later) tail = (end : ℕ) × StageEnds s file from end × InTurn file (end + s.delay) later tail

-- items cut into stages, with `before` them those since the last unbounded gap: a stage up to each
-- such gap, whose least length is its delay, and one behind the last gap; the greatest offset is
-- that of the first stage
abbrev pub stages_of : Option ℕ → List Item → List Item → List StageView
stages_of until before [] = record { items = before; until = until; delay = 0 } ∷ []
stages_of until before (item.Gap min None ∷ later) = record { items = before; until = until; delay = min } ∷ stages_of None [] later
stages_of until before (i ∷ later) = stages_of until (before ++ i ∷ []) later

-- all stages but the last
abbrev pub all_but_last : List StageView → List StageView
all_but_last [] = []
all_but_last (s ∷ []) = []
all_but_last (s ∷ t ∷ later) = s ∷ all_but_last (t ∷ later)

-- the items of the last stage
abbrev pub last_items : List StageView → List Item
last_items [] = []
last_items (s ∷ []) = s.items
last_items (s ∷ t ∷ later) = last_items (t ∷ later)

-- the course of a sequence: from the beginning of a file on its first stage begins within the
-- offsets; at the end its last stage is the tail; anywhere, all are stages without a greatest
-- offset
abbrev pub course_of : SequenceView → CourseView
course_of sequence = course_at sequence.position sequence.items
  where
    course_at : Position → List Item → CourseView
    course_at (position.Bof min max) items = record { from = min; stages = stages_of (Some max) [] items; tail = None }
    course_at (position.Eof min max) items = record {
      from = 0;
      stages = all_but_last (stages_of None [] items);
      tail = Some (record { items = last_items (stages_of None [] items); min = min; max = max });
    }
    course_at position.Variable items = record { from = 0; stages = stages_of None [] items; tail = None }

-- the course stands in the file
abbrev pub CourseStands : CourseView → List ℕ → Type 0
CourseStands course file = InTurn file course.from course.stages course.tail

-- what may follow some bytes: any, or none where they are the last
abbrev pub Follows : Bool → List ℕ → Type 0
Follows false more = IsBytes more
Follows true more = more ≡ []

-- the residual of a sequence behind some bytes: whatever follows, it stands in all exactly where these
-- stages and this tail stand there in turn from the offset on
pub record Waits (is_last : Bool) (sequence : SequenceView) (file : List ℕ) (from : ℕ) (stages : List StageView) (tail : Option TailView) : Type 0 where
  pub residual : (more : List ℕ) → Follows is_last more → Stands sequence (file ++ more) ↔ InTurn (file ++ more) from stages tail
