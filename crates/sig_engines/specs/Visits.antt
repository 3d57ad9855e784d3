-- What a name stands for: a file, or the files in a folder and in the folders below it.
use Rattle.std.specs.Prelude.{◌≡◌, ◌⊎◌, ℕ, zero, suc, Bool, true, false, List, [], ◌∷◌, ◌++◌, Option, None, Some}
use Rattle.std.specs.Str.{IsUtf8}
use Rattle.sig_engines.specs.Stores.{HasFolder, Holding, IsUnlisted, Item, LacksFolder, Lists}
use Rattle.sig_engines.specs.declared.error.FileFault.{FileFault}
use Rattle.sig_engines.specs.declared.error.NameFault.{NameFault}
use Rattle.sig_engines.specs.declared.error.NameFault.TheVariants.{File, IsFolder, NotRegular, NotText, TooDeep}
use Rattle.sig_engines.specs.declared.store.EntryKind.{EntryKind}
use Rattle.sig_engines.specs.declared.store.EntryKind.TheVariants as kind

-- what has its turn: a name, and, unless its file is matched, what is told of it
pub record Visit : Type 0 where
  pub name : List ℕ
  pub told : Option NameFault

-- the file of this name is matched, or this is told of it
abbrev pub to_match : List ℕ → Visit
to_match name = record { name = name; told = None }

abbrev pub to_tell : List ℕ → NameFault → Visit
to_tell name fault = record { name = name; told = Some fault }

-- this is the one visit
abbrev pub IsOne : Visit → List Visit → Type 0
IsOne visit visits = visits ≡ visit ∷ []

-- these are the visits of each of some things, in their order
abbrev pub AreEach : {X : Type 0} → (X → List Visit → Type 0) → List X → List Visit → Type 0
AreEach Are [] visits = visits ≡ []
AreEach Are (x ∷ xs) visits = (first : List Visit) × (rest : List Visit) × (visits ≡ first ++ rest) × Are x first × AreEach Are xs rest

-- these are the visits of what stands in the folder of this name, or the folder can't be listed; `Are` says which are those of each thing in it
abbrev pub AreIn : (Item → List Visit → Type 0) → Holding → List ℕ → List Visit → Type 0
AreIn Are held name visits =
    ((fault : FileFault) × IsUnlisted held name fault × (IsOne (to_tell name (File fault)) visits))
    ⊎ ((items : List Item) × Lists held name items × AreEach Are items visits)

-- these are the visits of a name in a folder, where so many folders may lie in one another below it
abbrev pub AreOfKind : Holding → ℕ → List ℕ → EntryKind → List Visit → Type 0
AreOfKind held room name kind.File visits = IsOne (to_match name) visits
AreOfKind held room name kind.NotRegular visits = IsOne (to_tell name NotRegular) visits
AreOfKind held room name kind.NotText visits = IsOne (to_tell name NotText) visits
AreOfKind held zero name kind.Folder visits = IsOne (to_tell name TooDeep) visits
AreOfKind held (suc room) name kind.Folder visits = AreIn (λ item. AreOfKind held room item.name item.kind) held name visits

-- the same of what stands in a folder
abbrev pub AreMet : Holding → ℕ → Item → List Visit → Type 0
AreMet held room item visits = AreOfKind held room item.name item.kind visits

-- how many folders may lie in one another below one that is named
abbrev pub greatest_depth : ℕ
greatest_depth = 4096

-- these are the visits of a folder that is named: with `--recursive` of what stands in it
abbrev pub AreOfFolder : Bool → Holding → List ℕ → List Visit → Type 0
AreOfFolder false held name visits = IsOne (to_tell name IsFolder) visits
AreOfFolder true held name visits = AreIn (AreMet held greatest_depth) held name visits

-- these are the visits of a name: a name that is no text has no folder
abbrev pub AreOf : Bool → Holding → List ℕ → List Visit → Type 0
AreOf recursive held name visits =
    ((IsOne (to_match name) visits) × (IsUtf8 name → LacksFolder held name)) ⊎ (HasFolder held name × AreOfFolder recursive held name visits)

-- these are the visits of some names, in their order
abbrev pub AreVisits : Bool → Holding → List (List ℕ) → List Visit → Type 0
AreVisits recursive held names visits = AreEach (AreOf recursive held) names visits
