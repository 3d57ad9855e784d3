-- What is judged in turn: the first fault counts.
use Rattle.std.specs.Prelude.{◌≡◌, ◌⊎◌, ◌||◌, not, ℕ, ◌+◌, Bool, true, false, List, [], ◌∷◌, Option, Some, None, Result, Ok, Err}
use Rattle.std.specs.Bool.{OnFalse}
use Rattle.sig_table.specs.declared.error.TableError.{TableError}
use Rattle.sig_table.specs.declared.error.TableError.TheVariants as error

-- the records of a file, its header first: fields of characters
abbrev pub Records : Type 0
Records = List (List (List ℕ))

infixl 10 ◌>>=◌
-- a value read on, or the fault that is there
abbrev pub ◌>>=◌ : {A B : Type 0} → Result A TableError → (A → Result B TableError) → Result B TableError
Ok x >>= f = f x
Err e >>= f = Err e

-- a failed read
abbrev pub is_read : TableError → Bool
is_read (error.Read file) = true
is_read _ = false

-- want of memory
abbrev pub is_memory : TableError → Bool
is_memory error.OutOfMemory = true
is_memory _ = false

-- a fault of what a file holds
abbrev pub is_judged : TableError → Bool
is_judged e = not (is_read e || is_memory e)

-- the refusal is the right one, unless memory ran out
pub record IsFault {A : Type 0} (right : Result A TableError) (fault : TableError) : Type 0 where
  pub no_read : is_read fault ≡ false
  pub exact : OnFalse (is_memory fault) (right ≡ Err fault)

-- the answer of records in memory is the right one, unless memory ran out
abbrev pub Judges : {A : Type 0} → Result A TableError → Result A TableError → Type 0
Judges (Ok x) right = right ≡ Ok x
Judges (Err e) right = IsFault right e

-- the answer of files is the right one, unless memory ran out or a read failed
abbrev pub Exact : {A : Type 0} → Result A TableError → Result A TableError → Type 0
Exact (Ok x) right = right ≡ Ok x
Exact (Err e) right = OnFalse (is_read e || is_memory e) (right ≡ Err e)

-- go on where there is no fault
abbrev pub unless : {A : Type 0} → Option TableError → Result A TableError → Result A TableError
unless None rest = rest
unless (Some fault) rest = Err fault

-- what goes on, and the fault that is told, where a faulty record is left out
abbrev pub passed : {S : Type 0} → S → Result S TableError → S × Option TableError
passed done (Ok more) = (more, None)
passed done (Err fault) = (done, Some fault)

-- what these records give, each judged by its number and what those before it gave, or the first fault
unfoldable pub judged : {S : Type 0} → (ℕ → S → List (List ℕ) → Result S TableError) → ℕ → S → Records → Result S TableError
judged judge row_number done [] = Ok done
judged judge row_number done (fields ∷ later) = judge row_number done fields >>= (λ more. judged judge (row_number + 1) more later)

-- each record writes the row in its place, the first one being of this number
abbrev pub WriteAll : {R : Type 0} → (ℕ → List (List ℕ) → R → Type 0) → ℕ → Records → List R → Type 0
WriteAll Writes n [] rows = rows ≡ []
WriteAll Writes n (fields ∷ later) [] = ⊥
WriteAll Writes n (fields ∷ later) (row ∷ rows) = Writes n fields row × WriteAll Writes (n + 1) later rows

-- this fault, where it is there, or else a later one
abbrev pub FirstOf : Type 0 → TableError → (TableError → Type 0) → TableError → Type 0
FirstOf IsThere fault IsLater e = (IsThere × (e ≡ fault)) ⊎ (¬ IsThere × IsLater e)
