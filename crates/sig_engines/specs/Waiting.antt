-- What waits for its turn while a folder is gone through: the next thing last.
use Rattle.std.specs.Prelude.{◌≡◌, ◌<◌, ◌+◌, ◌*◌, ◌^◌, ℕ, zero, suc, List, [], ◌∷◌, ◌++◌, length, map, reverse}
use Rattle.sig_engines.specs.Stores.{Holding, item_of}
use Rattle.sig_engines.specs.Visits.{AreEach, AreMet, Visit}
use Rattle.sig_engines.specs.declared.folder_engine.Waiting.{Waiting}
use Rattle.sig_engines.specs.declared.store.Entry.{Entry}

-- the visits of what waits
abbrev pub AreMetOf : Holding → Waiting → List Visit → Type 0
AreMetOf held waiting visits = AreMet held waiting.room (item_of waiting.entry) visits

-- an entry, with so many folders in one another below it
abbrev pub waiting_in : ℕ → Entry → Waiting
waiting_in room entry = record { entry = entry; room = room }

-- these entries wait, too, the first one last
pub record Pushes (room : ℕ) (entries : List Entry) (before after : List Waiting) : Type 0 where
  pub are : after ≡ before ++ reverse (map (waiting_in room) entries)
  pub few : length entries < 2 ^ 64

-- after these visits some things wait, too, whose visits are the rest of those that are asked for
pub record Leads (held : Holding) (Are : List Visit → Type 0) (visits : List Visit) (before after : List Waiting) : Type 0 where
  pub added : List Waiting
  pub are : after ≡ before ++ reverse added
  pub leads : (rest : List Visit) → AreEach (AreMetOf held) added rest → Are (visits ++ rest)

-- with the visits of all that waits these are those that are asked for
abbrev pub Covers : Holding → (List Visit → Type 0) → List Visit → List Waiting → Type 0
Covers held Are visits waiting = (rest : List Visit) → AreEach (AreMetOf held) (reverse waiting) rest → Are (visits ++ rest)

-- more than all that stands in a folder is worth, below which so many may lie in one another
unfoldable pub worth : ℕ → ℕ
worth zero = 1
worth (suc room) = 1 + 2 ^ 64 * worth room

abbrev pub worth_of : List Waiting → ℕ
worth_of [] = 0
worth_of (first ∷ rest) = worth first.room + worth_of rest
