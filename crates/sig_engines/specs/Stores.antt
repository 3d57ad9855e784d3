-- What a store holds, and what it gives.
use Rattle.std.specs.Prelude.{◌≡◌, ◌≢◌, ◌⊎◌, ℕ, ⊤, Bool, true, false, List, [], Option, None, Some, IsSome, is_some, codes, option_map, string_bytes, Result, Ok, Err}
use Rattle.std.specs.Borrow.{Bor}
use Rattle.sig_bits.specs.Device.{Adds}
use Rattle.sig_table.specs.Judging.{is_judged, is_read}
use Rattle.sig_table.specs.Loading.{records_of, table_of}
use Rattle.sig_table.specs.Tables.{IsTable}
use Rattle.sig_table.specs.Views.{TableView}
use Rattle.sig_table.specs.declared.error.TableError.{TableError}
use Rattle.sig_engines.specs.declared.error.FileFault.{FileFault}
use Rattle.sig_engines.specs.declared.error.FileFault.TheVariants.{CannotOpen, Run}
use Rattle.sig_engines.specs.declared.error.RunError.TheVariants.{OutOfMemory, Write}
use Rattle.sig_engines.specs.declared.store.Entry.{Entry}
use Rattle.sig_engines.specs.declared.store.EntryKind.{EntryKind}
use Rattle.sig_engines.specs.declared.store.TablePaths.{TablePaths}

-- what stands in a folder: its name, with the folder's before it, and its kind
pub record Item : Type 0 where
  pub name : List ℕ
  pub kind : EntryKind

-- what an entry tells of it
abbrev pub item_of : Entry → Item
item_of entry = record { name = string_bytes entry.name; kind = entry.kind }

-- the bytes of the file of each name, and nothing for a name without a file; what stands in the folder of each name, and nothing for a name without a folder; the bytes of standard input; and whether a file or a folder of each name is sure to be made
pub record Files : Type 0 where
  pub bytes : List ℕ → Option (List ℕ)
  pub items : List ℕ → Option (List Item)
  pub input : List ℕ
  pub makes : List ℕ → Bool

-- the files and folders of a store, where they are known
abbrev pub Holding : Type 0
Holding = Option Files

-- the file of this name has these bytes, where that is known
abbrev pub Holds : Holding → List ℕ → List ℕ → Type 0
Holds None name bytes = ⊤
Holds (Some files) name bytes = files.bytes name ≡ Some bytes

-- there is a file of this name, or there is none, where that is known
abbrev pub Has : Holding → List ℕ → Type 0
Has None name = ⊤
Has (Some files) name = IsSome (files.bytes name)

abbrev pub Lacks : Holding → List ℕ → Type 0
Lacks None name = ⊤
Lacks (Some files) name = files.bytes name ≡ None

-- a name that has a file is opened, with the file's bytes to come, and no other name is
abbrev pub Opens : Holding → List ℕ → Option (Option (List ℕ)) → Type 0
Opens None name opened = ⊤
Opens (Some files) name opened = opened ≡ option_map Some (files.bytes name)

-- the bytes to come are those of standard input, where that is known
abbrev pub GivesInput : Holding → Option (List ℕ) → Type 0
GivesInput None to_come = ⊤
GivesInput (Some files) to_come = to_come ≡ Some files.input

-- there is a folder of this name, or there is none, where that is known
abbrev pub HasFolder : Holding → List ℕ → Type 0
HasFolder None name = ⊤
HasFolder (Some files) name = is_some (files.items name) ≡ true

abbrev pub LacksFolder : Holding → List ℕ → Type 0
LacksFolder None name = ⊤
LacksFolder (Some files) name = is_some (files.items name) ≡ false

-- these stand in the folder of this name, where that is known
abbrev pub Lists : Holding → List ℕ → List Item → Type 0
Lists None name items = ⊤
Lists (Some files) name items = files.items name ≡ Some items

-- why what stands in the folder of this name is not told: there is no such folder, where that is known, a read failed or memory ran out
abbrev pub IsUnlisted : Holding → List ℕ → FileFault → Type 0
IsUnlisted None name fault = fault ≢ Run Write
IsUnlisted (Some files) name fault = (fault ≡ Run OutOfMemory) ⊎ ((fault ≡ CannotOpen) × (files.items name ≡ None))

-- no file and no folder of this name may be made, where that is known
abbrev pub CannotMake : Holding → List ℕ → Type 0
CannotMake None name = ⊤
CannotMake (Some files) name = files.makes name ≡ false

-- of a file that is made nothing is written yet
abbrev pub Makes : Holding → Option (List ℕ) → Type 0
Makes None written = ⊤
Makes (Some files) written = written ≡ Some []

-- a file that is made has this name, where it is known
abbrev pub IsNamed : Option (List ℕ) → List ℕ → Type 0
IsNamed None name = ⊤
IsNamed (Some known) name = known ≡ name

-- a file of this name was made, and these bytes, and no others, were written to it; `file` is the one that was made, and `after` the same behind the write
pub record IsMade {F : Type 0} (name_of written : F → Option (List ℕ)) (is_failed : F → Bool) (held : Holding) (name bytes : List ℕ) : Type 0 where
  pub file : F
  pub after : F
  pub named : IsNamed (name_of file) name
  pub empty : Makes held (written file)
  pub adds : Adds (written file) bytes (written after)
  pub sound : is_failed after ≡ false

-- nothing is said of a file of this name with these bytes
abbrev pub IsAny : List ℕ → List ℕ → Type 0
IsAny name bytes = ⊤

-- a reader has failed
pub record SomeFailed {R : Type 0} (failed : R → Bool) : Type 0 where
  pub reader : R
  pub has_failed : failed reader ≡ true

-- a file that was made has failed
pub record SomeMadeFailed {F : Type 0} (failed : F → Bool) : Type 0 where
  pub file : F
  pub has_failed : failed file ≡ true

-- a write failed, to the output or to a file that was made; `is_failed` says whether the output has failed
abbrev pub SomeWriteFailed : {F : Type 0} → (F → Bool) → Bool → Type 0
SomeWriteFailed failed is_failed = (is_failed ≡ true) ⊎ SomeMadeFailed failed

-- a priority file without rows: its header
abbrev pub no_priorities : List ℕ
no_priorities = codes "higher,lower\n"

-- the priorities of a table have these bytes, where that is known: those of the file of this name, and without a name no row
abbrev pub HoldsPriorities : Holding → Option (Bor (List ℕ)) → List ℕ → Type 0
HoldsPriorities held None bytes = bytes ≡ no_priorities
HoldsPriorities held (Some name) bytes = Holds held name.now bytes

-- there is a priority file of this name, or no name is given, where that is known
abbrev pub HasPriorities : Holding → Option (Bor (List ℕ)) → Type 0
HasPriorities held None = ⊤
HasPriorities held (Some name) = Has held name.now

-- the bytes to come are those of the priority file of this name, or without a name no row, where that is known
abbrev pub OpensPriorities : Holding → Option (Bor (List ℕ)) → Option (List ℕ) → Type 0
OpensPriorities held None to_come = to_come ≡ Some no_priorities
OpensPriorities held (Some name) to_come = Opens held name.now (Some to_come)

-- the files of these names are read as this table, or as this fault of one, where it is known what they hold
abbrev pub ReadsAs : Holding → TablePaths → Result TableView TableError → Type 0
ReadsAs None paths read = ⊤
ReadsAs (Some files) paths read = (signatures priorities : List ℕ) × (files.bytes paths.signatures.now ≡ Some signatures) × HoldsPriorities (Some files) paths.priorities priorities × (table_of (records_of signatures) (records_of priorities) ≡ read)

-- the table of the files of these names
pub record IsTableOf (held : Holding) (paths : TablePaths) (table : TableView) : Type 0 where
  pub limits : IsTable table
  pub read : ReadsAs held paths (Ok table)

-- why there is no table of the files of these names: what they hold has this fault, a reader failed, or memory ran out
pub record IsTableFault {R : Type 0} (failed : R → Bool) (held : Holding) (paths : TablePaths) (error : TableError) : Type 0 where
  pub has_signatures : Has held paths.signatures.now
  pub has_priorities : HasPriorities held paths.priorities
  pub judged : is_judged error ≡ true → ReadsAs held paths (Err error)
  pub unread : is_read error ≡ true → SomeFailed failed
