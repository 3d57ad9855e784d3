-- A table of literals, found by four bytes of each, and the offsets that one look passes over.
use Rattle.std.specs.Prelude.{◌≡◌, ◌≢◌, ◌⊎◌, ℕ, ◌+◌, ◌*◌, ◌%◌, ◌/◌, ◌^◌, ◌<◌, ◌≤◌, List, [], ◌∷◌, ◌++◌, Some, length, min, slice_index}
use Rattle.std.specs.List.{slice_get}
use Rattle.sig_scan.specs.Literals.{Fits, IsLiteralOf, LiteralView, StandsAt, byte_of}
use Rattle.sig_scan.specs.Stages.{CourseView, StageView}
use Rattle.sig_scan.specs.declared.filter.Entry.{Entry}
use Rattle.sig_scan.specs.declared.state.State.{State}

-- four bytes of a list as one number
abbrev pub four_at : List ℕ → ℕ → ℕ
four_at bytes at = slice_index bytes at + slice_index bytes (at + 1) * 256 + slice_index bytes (at + 2) * 65536 + slice_index bytes (at + 3) * 16777216

-- the place of the mark of the lowest three of four bytes
unfoldable pub mark_of : ℕ → ℕ
mark_of four = four * 930722048 % 2 ^ 32 / 65536

-- the number of the list of four bytes
unfoldable pub list_of : ℕ → ℕ
list_of four = four * 2654435761 % 2 ^ 32 / 1048576

-- of the four bytes of a literal from a place on, those that the bits of a number choose, as one number, and the last three of them
abbrev pub behind_of : LiteralView → ℕ → ℕ → ℕ
behind_of literal window n = byte_of literal (window + 1) (n / 2 % 2) + byte_of literal (window + 2) (n / 4 % 2) * 256 + byte_of literal (window + 3) (n / 8 % 2) * 65536

abbrev pub text_of : LiteralView → ℕ → ℕ → ℕ
text_of literal window n = byte_of literal window (n % 2) + behind_of literal window n * 256

-- the literal has four bytes from this place on, which is one of its first five
pub record IsWindow (literal : LiteralView) (window : ℕ) : Type 0 where
  pub inside : window + 4 ≤ length literal.text
  pub few : window ≤ 4

-- the entry of this number is in the list of four bytes, and these are marked, and the last three of them
pub record IsListed (marks slots : List ℕ) (id four behind : ℕ) : Type 0 where
  pub first : slice_index marks (mark_of four) ≢ 0
  pub second : slice_index marks (mark_of behind) ≢ 0
  pub some : slice_index slots (8 * list_of four) ≢ 0
  pub slot : ℕ
  pub low : 8 * list_of four ≤ slot
  pub high : slot < 8 * list_of four + 8
  pub listed : slice_index slots slot ≡ id

-- marks stay, and what is in a list
pub record AreKept (marks slots marks_new slots_new : List ℕ) : Type 0 where
  pub marks_len : length marks_new ≡ length marks
  pub slots_len : length slots_new ≡ length slots
  pub marked : (m : ℕ) → slice_index marks m ≢ 0 → slice_index marks_new m ≢ 0
  pub listed : (k : ℕ) → slice_index slots k ≢ 0 → slice_index slots_new k ≡ slice_index slots k

-- the entry at this place is in the lists of all texts of its four bytes
pub record IsEntered (marks slots : List ℕ) (place : ℕ) (e : Entry) : Type 0 where
  pub inside : e.window + 4 ≤ length e.literal.text
  pub each : (n : ℕ) → n < 16 → IsListed marks slots (place + 1) (text_of e.literal e.window n) (behind_of e.literal e.window n)

-- so are all entries
pub record IsFilter (marks slots : List ℕ) (entries : List Entry) : Type 0 where
  pub marks_len : length marks ≡ 65536
  pub slots_len : length slots ≡ 32768
  pub each : (place : ℕ) (e : Entry) → slice_get entries place ≡ Some e → IsEntered marks slots place e

-- an entry of the literal of the stage of the sequence is added, or none
abbrev pub AddsEntry : List Entry → List Entry → LiteralView → ℕ → ℕ → Type 0
AddsEntry old new literal sequence done = (new ≡ old)
    ⊎ ((e : Entry) × (new ≡ old ++ e ∷ []) × (e.literal ≡ literal) × (e.sequence ≡ sequence) × (e.done ≡ done))

-- if a byte more follows, the literal of the entry stands not behind the offset
abbrev pub IsMissed : List ℕ → Entry → ℕ → Type 0
IsMissed bytes e x = x + e.literal.at + length e.literal.text < length bytes → ¬ StandsAt e.literal bytes (x + e.literal.at)

-- the bytes at this place are four by which the entry is found
abbrev pub HasWindow : Entry → List ℕ → ℕ → Type 0
HasWindow e bytes w = (j : ℕ) → j < 4 → Fits e.literal (e.window + j) (slice_index bytes (w + j))

-- an even place from this one on, so low that no sum of places wraps
pub record IsNextPlace (from place : ℕ) : Type 0 where
  pub even : place % 2 ≡ 0
  pub order : from ≤ place
  pub few : place < 2 ^ 63 + 8

-- the list of the four bytes here is empty
abbrev pub IsUnlisted : List ℕ → List ℕ → ℕ → Type 0
IsUnlisted slots bytes place = slice_index slots (8 * list_of (four_at bytes place)) ≡ 0

-- what was found is lowered
abbrev pub AreLowered : List ℕ → List ℕ → Type 0
AreLowered old new = (k : ℕ) → slice_index new k ≤ slice_index old k

-- if its sequence waits for it, the literal of the entry stands not with its four bytes at this place, before what was found
abbrev pub IsPassedAt : Entry → List ℕ → List State → ℕ → List ℕ → Type 0
IsPassedAt e bytes states place found = (x : ℕ) (t : State) → slice_get states e.sequence ≡ Some t → e.done ≡ t.done → t.from ≤ x
    → x < slice_index found e.sequence → x + e.literal.at + e.window ≡ place → ¬ StandsAt e.literal bytes (x + e.literal.at)

-- where more is found than before, an entry is of the sequence and of the stage that it waits in, and where its literal stands behind
-- an offset before the one that is found, it ends in the first bytes, up to this place, or at the end of all, which are so many
abbrev pub AreOwned : List Entry → List State → ℕ → ℕ → List ℕ → List ℕ → Type 0
AreOwned entries states len end old found = (k : ℕ) → slice_index old k < slice_index found k
    → (e : Entry) × (i : ℕ) × (t : State) × (slice_get entries i ≡ Some e) × (e.sequence ≡ k) × (slice_get states k ≡ Some t) × (e.done ≡ t.done)
    × (min len (slice_index found k + e.literal.at + length e.literal.text) ≤ end)

-- at each offset at which a sequence may go on, from the one that was found before up to the one that is found now, the literal of an entry
-- of its stage is missed
abbrev pub AreMissed : List Entry → List ℕ → List State → List ℕ → List ℕ → Type 0
AreMissed entries bytes states old found = (k x : ℕ) (t : State) → slice_get states k ≡ Some t → t.from ≤ x → slice_index old k ≤ x → x < slice_index found k
    → (i : ℕ) × (e : Entry) × (slice_get entries i ≡ Some e) × (e.sequence ≡ k) × (e.done ≡ t.done) × IsMissed bytes e x

-- each literal is that of its stage
abbrev pub AreLiteralsOf : List CourseView → List Entry → Type 0
AreLiteralsOf courses entries = (i : ℕ) (e : Entry) (c : CourseView) → slice_get entries i ≡ Some e → slice_get courses e.sequence ≡ Some c
    → (u : StageView) × (slice_get c.stages e.done ≡ Some u) × IsLiteralOf u.items e.literal
