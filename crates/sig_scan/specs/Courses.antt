-- A compiled table: the courses of its sequences, and how the stages of all of them stand in one
-- list.
use Rattle.std.specs.Prelude.{◌≡◌, ℕ, ◌+◌, ◌<◌, ◌≤◌, Bool, false, true, List, [], ◌++◌, length, map, All, IfSome, None, Some, slice_range}
use Rattle.std.specs.List.{slice_get}
use Rattle.std.specs.Option.{ForSome}
use Rattle.sig_table.specs.Standing.{Hits, Stands}
use Rattle.sig_table.specs.Views.{SequenceView, SignatureView, TableView}
use Rattle.sig_scan.specs.declared.filter.Entry.{Entry}
use Rattle.sig_scan.specs.declared.program.Course.{Course}
use Rattle.sig_scan.specs.Filters.{AreLiteralsOf}
use Rattle.sig_scan.specs.Lengths.{AreBounded, span}
use Rattle.sig_scan.specs.Stages.{CourseView, StageView, TailView, course_of}

-- the course of a sequence, or nothing to look for
abbrev pub course_if : Bool → SequenceView → CourseView
course_if true s = course_of s
course_if false s = record { from = 0; stages = []; tail = None }

-- no item of the course is an unbounded gap
pub record IsBoundedCourse (course : CourseView) : Type 0 where
  pub stages : All (λ (t : StageView). AreBounded t.items) course.stages
  pub tail : IfSome course.tail (λ (t : TailView). AreBounded t.items)

-- a compiled table: of each sequence the number of its signature, and its course
pub record ProgramView : Type 0 where
  pub owners : List ℕ
  pub courses : List CourseView

-- this sequence is one of the signature
pub record HasSequence (owners : List ℕ) (sequences : List SequenceView) (g : ℕ) (s : SequenceView) : Type 0 where
  pub place : ℕ
  pub owner : slice_get owners place ≡ Some g
  pub sequence : slice_get sequences place ≡ Some s

-- each of these sequences stands in all files that its signature hits
abbrev pub AreNeeded : TableView → List ℕ → List SequenceView → Type 0
AreNeeded table owners sequences = (i g : ℕ) (s : SequenceView) (h : SignatureView) → slice_get owners i ≡ Some g → slice_get sequences i ≡ Some s
    → slice_get table.signatures g ≡ Some h → (file : List ℕ) → Hits h file → Stands s file

-- these are the sequences of the table's signatures, in any order
pub record AreSequencesOf (table : TableView) (owners : List ℕ) (sequences : List SequenceView) : Type 0 where
  pub count : length sequences ≡ length owners
  pub within : All (λ g. g < length table.signatures) owners
  pub needed : AreNeeded table owners sequences
  pub whole : (g j : ℕ) (h : SignatureView) (s : SequenceView) → slice_get table.signatures g ≡ Some h → slice_get h.sequences j ≡ Some s
      → HasSequence owners sequences g s

-- the courses of the signatures that are to be hit are those of their sequences
abbrev pub AreCoursesOf : List Bool → List ℕ → List SequenceView → List CourseView → Type 0
AreCoursesOf may_hit owners sequences courses = (i g : ℕ) (s : SequenceView) (c : CourseView) → slice_get owners i ≡ Some g → slice_get may_hit g ≡ Some true
    → slice_get sequences i ≡ Some s → slice_get courses i ≡ Some c → c ≡ course_of s

-- a table, compiled for the signatures that are to be hit
pub record IsProgramOf (table : TableView) (may_hit : List Bool) (program : ProgramView) : Type 0 where
  pub sequences : List SequenceView
  pub are : AreSequencesOf table program.owners sequences
  pub courses : AreCoursesOf may_hit program.owners sequences program.courses

-- for all of them
pub record IsWholeProgramOf (table : TableView) (program : ProgramView) : Type 0 where
  pub any : (may_hit : List Bool) → IsProgramOf table may_hit program

-- the course, of which the list has the stages
abbrev pub course_in : List StageView → Course → CourseView
course_in stages c = record { from = c.from; stages = slice_range stages c.first c.end; tail = c.tail }

-- the stages of a course are added to the list, and these are their places
pub record AddsCourse (old new : List StageView) (c : Course) (course : CourseView) : Type 0 where
  pub stages : new ≡ old ++ course.stages
  pub from : c.from ≡ course.from
  pub first : c.first ≡ length old
  pub end : c.end ≡ length new
  pub tail : c.tail ≡ course.tail

-- the stages of the course stand in the list
abbrev pub StandsIn : List StageView → Course → Type 0
StandsIn stages c = (c.first ≤ c.end) × (c.end ≤ length stages)

-- these courses are those of the list, and all places are in it
pub record AreCourses (stages : List StageView) (cs : List Course) (courses : List CourseView) : Type 0 where
  pub same : map (course_in stages) cs ≡ courses
  pub within : All (StandsIn stages) cs

-- no stage has a word of more bytes than these, and no tail with what may stand behind it
pub record AreHeld (bytes : ℕ) (all : List StageView) (cs : List Course) : Type 0 where
  pub stages : All (λ (t : StageView). span t.items ≤ bytes) all
  pub tails : All (λ (c : Course). ForSome c.tail (λ (t : TailView). span t.items + t.max ≤ bytes)) cs

-- nor those of the course
pub record IsHeld (bytes : ℕ) (course : CourseView) : Type 0 where
  pub stages : All (λ (t : StageView). span t.items ≤ bytes) course.stages
  pub tail : IfSome course.tail (λ (t : TailView). span t.items + t.max ≤ bytes)

-- a compiled table: its courses stand in the list, these bytes, 65,535 at most, hold any word, none of which is without bound, and
-- the literals of the prefilters are those of stages
pub record IsCompiled (bytes : ℕ) (early late : List Entry) (stages : List StageView) (cs : List Course) : Type 0 where
  pub held : AreHeld bytes stages cs
  pub few : bytes ≤ 65535
  pub within : All (StandsIn stages) cs
  pub bounded : All IsBoundedCourse (map (course_in stages) cs)
  pub early_literals : AreLiteralsOf (map (course_in stages) cs) early
  pub late_literals : AreLiteralsOf (map (course_in stages) cs) late
