-- What words ask for, and what they do not.
use Rattle.std.proofs.Common.{Bool, true, false, not, IfSome, ◌≡◌, ◌≢◌, ◌⊎◌, ℕ, ◌<◌, List, [], ◌∷◌, None, Option, Some, ap, ap₂, arith, codes, inl, inr, map}
use Rattle.std.proofs.Common.{option_map, refl, subst, sym, ◌∙◌}
use Rattle.std.specs.Borrow.{Bor}
use Rattle.std.specs.Prelude.{is_some}
use Rattle.std.proofs.Math.ListN.{get_or}
use Rattle.std.proofs.lemmas.Option.{same_Some}
use Rattle.clap.specs.Words.{HasKind, IsAmong, Kinds, Row, Text, all_of, first_of, kind_of}
use Rattle.clap.specs.declared.error.Error.{Error}
use Rattle.clap.specs.declared.error.kind.ErrorKind.TheVariants.{DisplayHelp, DisplayVersion, OutOfMemory}
use Rattle.sig_command.specs.CommandLine.{Asks, NamesBudget, NamesFiles, NamesMany, NamesOptions, NamesTable}
use Rattle.sig_command.specs.declared.args.ConflictsOptions.{ConflictsOptions}
use Rattle.sig_command.specs.declared.args.MatchOptions.{MatchOptions}
use Rattle.sig_command.specs.declared.args.Request.{Request}
use Rattle.sig_command.specs.declared.args.Request.TheVariants.{Check, Conflicts, Dead, Find, Lint, Match, MatchMany, Show, Witness}
use Rattle.sig_engines.specs.declared.store.TablePaths.{TablePaths}

-- one subcommand and its rows are another and its own
abbrev AreSame : Text → List Row → Text → List Row → Type 0
AreSame name rows other more =
    let mine : Option (Text × List Row) = Some (name, rows) in
    let asked : Option (Text × List Row) = Some (other, more) in
    mine ≡ asked

rows_of_found : (name : Text) (rows more : List Row) → AreSame name rows name more → more ≡ rows
rows_of_found name rows more same =
    let mine : Text × List Row = (name, rows) in
    let asked : Text × List Row = (name, more) in
    sym (ap (λ (p : Text × List Row). p.1) (same_Some mine asked same))

-- the subcommand that asks for this
abbrev name_of : Request → Text
name_of (Show table) = codes "show"
name_of (Lint table) = codes "lint"
name_of (Match all table file) = codes "match"
name_of (MatchMany options table names) = codes "match"
name_of (Find table ask) = codes "find"
name_of (Conflicts table options progress) = codes "conflicts"
name_of (Dead table ask) = codes "dead"
name_of (Check table certificate) = codes "check"
name_of (Witness table file) = codes "witness"

-- a subcommand does not ask for what another one does: their names begin with other letters
other_name : (name other : Text) (rows more : List Row) → get_or name 0 0 ≢ get_or other 0 0 → AreSame name rows other more → ⊥
other_name name other rows more letters same =
    let mine : Text × List Row = (name, rows) in
    let asked : Text × List Row = (other, more) in
    letters (ap (λ (p : Text × List Row). get_or p.0 0 0) (same_Some mine asked same))

-- two of them begin alike, and go on with other letters
other_later : (name other : Text) (rows more : List Row) → get_or name 1 0 ≢ get_or other 1 0 → AreSame name rows other more → ⊥
other_later name other rows more letters same =
    let mine : Text × List Row = (name, rows) in
    let asked : Text × List Row = (other, more) in
    letters (ap (λ (p : Text × List Row). get_or p.0 1 0) (same_Some mine asked same))

-- nothing is asked for where a word is missing
pub no_show : (rows : List Row) → ((table : TablePaths) → NamesTable table rows → ⊥) → (asked : Request) → Asks (Some (codes "show", rows)) asked → ⊥
no_show rows missing (Show table) asks = missing table (subst (NamesTable table) (rows_of_found (codes "show") rows asks.0 asks.1) asks.2)
no_show rows missing asked asks = other_name (codes "show") (name_of asked) rows asks.0 (omega arith) asks.1

pub no_lint : (rows : List Row) → ((table : TablePaths) → NamesTable table rows → ⊥) → (asked : Request) → Asks (Some (codes "lint", rows)) asked → ⊥
no_lint rows missing (Lint table) asks = missing table (subst (NamesTable table) (rows_of_found (codes "lint") rows asks.0 asks.1) asks.2)
no_lint rows missing asked asks = other_name (codes "lint") (name_of asked) rows asks.0 (omega arith) asks.1

-- files that are named have a first one
many_named : (files : List (Bor Text)) (options : MatchOptions) (rows : List Row) → NamesMany files options rows
    → ((text : Text) (texts : List Text) → all_of (codes "FILE") rows ≡ Some (text ∷ texts) → ⊥) → ⊥
many_named [] options rows named none = let few : 0 < 0 = named.some in absurd (omega (arith, few))
many_named (file ∷ files) options rows named none = none file.now (map (λ f. f.now) files) named.are

pub no_match : (rows : List Row) → ((table : TablePaths) (text : Text) (texts : List Text) → NamesTable table rows → first_of (codes "NAMES") rows ≡ None
    → all_of (codes "FILE") rows ≡ Some (text ∷ texts) → ⊥) → ((table : TablePaths) (word : Text) → NamesTable table rows
    → first_of (codes "NAMES") rows ≡ Some word → all_of (codes "FILE") rows ≡ None → ⊥) → (asked : Request) → Asks (Some (codes "match", rows)) asked → ⊥
no_match rows missing unlisted (Match all table file) asks =
    let same : asks.0 ≡ rows = rows_of_found (codes "match") rows asks.0 asks.1 in
    missing table file.now [] (subst (NamesTable table) same asks.2) (subst (λ (r : List Row). first_of (codes "NAMES") r ≡ None) same asks.4)
    (subst (λ (r : List Row). all_of (codes "FILE") r ≡ Some (file.now ∷ [])) same asks.3)
no_match rows missing unlisted (MatchMany options table names) asks =
    let same : asks.0 ≡ rows = rows_of_found (codes "match") rows asks.0 asks.1 in
    named (subst (NamesTable table) same asks.2) (subst (NamesFiles names options) same asks.3)
  where
    named : NamesTable table rows → NamesFiles names options rows → ⊥
    named paths (inl files) = many_named files.0.now options rows files.2 (λ text texts is. missing table text texts paths files.2.unlisted is)
    named paths (inr list) = unlisted table list.word.now paths list.given list.alone
no_match rows missing unlisted asked asks = other_name (codes "match") (name_of asked) rows asks.0 (omega arith) asks.1

pub no_check : (rows : List Row) → ((table : TablePaths) (text : Text) → NamesTable table rows → first_of (codes "CERT") rows ≡ Some text → ⊥)
    → (asked : Request) → Asks (Some (codes "check", rows)) asked → ⊥
no_check rows missing (Conflicts table options progress) asks = other_later (codes "check") (codes "conflicts") rows asks.0 (omega arith) asks.1
no_check rows missing (Check table certificate) asks =
    let same : asks.0 ≡ rows = rows_of_found (codes "check") rows asks.0 asks.1 in
    missing table certificate.now (subst (NamesTable table) same asks.2)
    (subst (λ (r : List Row). first_of (codes "CERT") r ≡ Some certificate.now) same asks.3)
no_check rows missing asked asks = other_name (codes "check") (name_of asked) rows asks.0 (omega arith) asks.1

pub no_witness : (rows : List Row) → ((table : TablePaths) (text : Text) → NamesTable table rows → first_of (codes "FILE") rows ≡ Some text → ⊥)
    → (asked : Request) → Asks (Some (codes "witness", rows)) asked → ⊥
no_witness rows missing (Witness table file) asks =
    let same : asks.0 ≡ rows = rows_of_found (codes "witness") rows asks.0 asks.1 in
    missing table file.now (subst (NamesTable table) same asks.2) (subst (λ (r : List Row). first_of (codes "FILE") r ≡ Some file.now) same asks.3)
no_witness rows missing asked asks = other_name (codes "witness") (name_of asked) rows asks.0 (omega arith) asks.1

pub no_find : (rows : List Row) → ((table : TablePaths) (budget : ℕ) (text : Text) → NamesTable table rows → NamesBudget budget rows
    → first_of (codes "OUT") rows ≡ Some text → ⊥) → (asked : Request) → Asks (Some (codes "find", rows)) asked → ⊥
no_find rows missing (Find table ask) asks =
    let same : asks.0 ≡ rows = rows_of_found (codes "find") rows asks.0 asks.1 in
    missing table ask.budget ask.out.now (subst (NamesTable table) same asks.2) (subst (NamesBudget ask.budget) same asks.3)
    (subst (λ (r : List Row). first_of (codes "OUT") r ≡ Some ask.out.now) same asks.4)
no_find rows missing asked asks = other_name (codes "find") (name_of asked) rows asks.0 (omega arith) asks.1

pub no_conflicts : (rows : List Row) → ((table : TablePaths) (options : ConflictsOptions) → NamesTable table rows → NamesOptions options rows → ⊥)
    → (asked : Request) → Asks (Some (codes "conflicts", rows)) asked → ⊥
no_conflicts rows missing (Conflicts table options progress) asks =
    let same : asks.0 ≡ rows = rows_of_found (codes "conflicts") rows asks.0 asks.1 in
    missing table options (subst (NamesTable table) same asks.2) (subst (NamesOptions options) same asks.3)
no_conflicts rows missing (Check table certificate) asks = other_later (codes "conflicts") (codes "check") rows asks.0 (omega arith) asks.1
no_conflicts rows missing asked asks = other_name (codes "conflicts") (name_of asked) rows asks.0 (omega arith) asks.1

pub no_dead : (rows : List Row) → ((table : TablePaths) (budget : ℕ) → NamesTable table rows → NamesBudget budget rows → ⊥) → (asked : Request)
    → Asks (Some (codes "dead", rows)) asked → ⊥
no_dead rows missing (Dead table ask) asks =
    let same : asks.0 ≡ rows = rows_of_found (codes "dead") rows asks.0 asks.1 in
    missing table ask.budget (subst (NamesTable table) same asks.2) (subst (NamesBudget ask.budget) same asks.3)
no_dead rows missing asked asks = other_name (codes "dead") (name_of asked) rows asks.0 (omega arith) asks.1

-- where memory ran out, no help is asked for
pub no_help : (e : Error) → kind_of e ≡ OutOfMemory → (kind_of e ≡ DisplayHelp) ⊎ (kind_of e ≡ DisplayVersion) → ⊥
no_help e memory (inl help) = let bad : OutOfMemory ≡ DisplayHelp = sym memory ∙ help in cc
no_help e memory (inr version) = let bad : OutOfMemory ≡ DisplayVersion = sym memory ∙ version in cc

-- a parse answers with help only where help is asked for
pub help_among : (kinds : Kinds) (e : Error) → HasKind kinds e → (kind_of e ≡ DisplayHelp) ⊎ (kind_of e ≡ DisplayVersion) → IsAmong DisplayHelp kinds
    ⊎ IsAmong DisplayVersion kinds
help_among kinds e (inl memory) is = absurd (no_help e memory is)
help_among kinds e (inr among) (inl help) = inl (subst (λ k. IsAmong k kinds) help among)
help_among kinds e (inr among) (inr version) = inr (subst (λ k. IsAmong k kinds) version among)

-- a subcommand that is found by its name, and its rows
pub named_rows : {B : Type 0} (name_of : B → Text) (its_rows : B → List Row) (found : Option B) (name : Text) (rows : List Row)
    → option_map name_of found ≡ Some name → option_map (λ (p : Text × List Row). p.1)
    (option_map {U = Text × List Row} (λ (b : B). (name_of b, its_rows b)) found) ≡ Some rows
    → option_map {U = Text × List Row} (λ (b : B). (name_of b, its_rows b)) found ≡ Some (name, rows)
named_rows name_of its_rows (Some b) name rows is_name are_rows =
    ap₂ (λ (x : Text) (y : List Row). Some (x, y)) (same_Some (name_of b) name is_name) (same_Some (its_rows b) rows are_rows)
named_rows name_of its_rows None name rows is_name are_rows = let no : None ≡ Some name = is_name in cc

-- what is found asks for something where a request is made of it
pub some_asked : (found : Option (Text × List Row)) (request : Option Request) (none : Bool) → IfSome request (λ r. Asks found r) → is_some request ≡ not none
    → none ≡ false → (r : Request) × Asks found r
some_asked found (Some r) none asked some is = (r, asked)
some_asked found None true asked some is = let bad : true ≡ false = is in cc
some_asked found None false asked some is = let bad : false ≡ true = some in cc

pub none_made : (request : Option Request) (none : Bool) → is_some request ≡ not none → none ≡ true → request ≡ None
none_made None none some is = refl
none_made (Some r) true some is = let bad : true ≡ false = some in cc
none_made (Some r) false some is = let bad : false ≡ true = is in cc
