-- A reader of records over a text in memory, and the records that it still has.
use Rattle.std.specs.Prelude.{◌≡◌, ◌⊎◌, ◌+◌, true, ℕ, List, [], length, Option, Some, None}
use Rattle.std.specs.Borrow.{Bor}
use Rattle.csv.specs.Reading.{Ready, default_config, has_failed, is_flexible, reader_config, reader_state, reader_trim, records_from, source_of}
use Rattle.csv.specs.declared.parser.State.{State}
use Rattle.csv.specs.declared.reader.Reader.{Reader}
use Rattle.csv.specs.declared.reader.Trim.TheVariants as trim

-- the text that the reader has left
abbrev pub text_left : Reader (Bor (List ℕ)) → Option (List ℕ)
text_left reader = source_of (λ text. Some text.now) reader

-- it reads records of any length, each as it stands, in the default dialect of `csv`
pub record IsReading (reader : Reader (Bor (List ℕ))) : Type 0 where
  pub dialect : reader_config reader ≡ default_config
  pub untrimmed : reader_trim reader ≡ trim.None
  pub flexible : is_flexible reader ≡ true
  pub ready : Ready reader
  pub text : List ℕ
  pub left : text_left reader ≡ Some text

-- it reads, or has failed and gives nothing more
abbrev pub IsReader : Reader (Bor (List ℕ)) → Type 0
IsReader reader = (has_failed reader ≡ true) ⊎ IsReading reader

-- the records of the rest of a text
abbrev pub records_in : State → Option (List ℕ) → List (List (List ℕ))
records_in state None = []
records_in state (Some text) = records_from default_config (length text + 1) state text

-- the records that the reader still has
unfoldable pub records_left : Reader (Bor (List ℕ)) → List (List (List ℕ))
records_left reader = records_in (reader_state reader) (text_left reader)
