-- The command line in clap's words, and what its words ask for.
use Rattle.std.specs.Prelude.{◌≡◌, ◌≢◌, ◌⊎◌, ◌||◌, ◌<◌, ◌^◌, ℕ, pos, Bool, true, false, List, [], ◌∷◌, Option, None, Some, String, codes, length, map, option_and_then, option_map, string_bytes, if◌then◌else◌, is_some, not, take_while}
use Rattle.std.specs.List.{list_any}
use Rattle.std.specs.Str.{bytes_eq}
use Rattle.std.specs.Borrow.{Bor}
use Rattle.std.specs.Str.Parse.{IsNumeral, digits_value, without_leading_plus}
use Rattle.clap.specs.Lexer.{usize_max}
use Rattle.clap.specs.Simple.{on_top}
use Rattle.clap.specs.Words.{App, HasKind, IsAmong, Kinds, Row, Rule, Text, all_of, app_of, fault_of, first_of, found_of, one_of, new_app, new_rule, rows_of, subcommand_of, takes, with_rule, with_subcommand}
use Rattle.clap.specs.declared.Command.{Command}
use Rattle.clap.specs.declared.Command.TheViews.{out-Command as fields_of}
use Rattle.clap.specs.declared.parser.matches.ArgMatches.{ArgMatches}
use Rattle.clap.specs.declared.builder.action.ArgAction.TheVariants.{SetTrue}
use Rattle.clap.specs.declared.builder.value_parser.ValueParser.TheVariants.{Signed}
use Rattle.clap.specs.declared.error.Error.{Error}
use Rattle.clap.specs.declared.error.kind.ErrorKind.TheVariants.{DisplayHelp, DisplayVersion}
use Rattle.sig_command.specs.declared.args.ConflictsOptions.{ConflictsOptions}
use Rattle.sig_command.specs.declared.args.FileNames.{FileNames}
use Rattle.sig_command.specs.declared.args.FileNames.TheVariants.{Input, Words}
use Rattle.sig_command.specs.declared.args.FileNames.TheVariants as listed
use Rattle.sig_command.specs.declared.args.MatchOptions.{MatchOptions}
use Rattle.sig_command.specs.declared.args.Request.{Request}
use Rattle.sig_command.specs.declared.args.Request.TheVariants.{Check, Conflicts, Dead, Find, Lint, Match, MatchMany, Show, Witness}
use Rattle.sig_engines.specs.declared.store.TablePaths.{TablePaths}

-- the texts of the words
abbrev pub texts_of : {A : Type 0} → List (String A) → List Text
texts_of words = map string_bytes words

-- the command is this one, and has no global argument
pub record IsLine (app : App) (command : Command) : Type 0 where
  pub is_app : app_of command ≡ app
  pub has_no_globals : (fields_of command).has_globals ≡ false

-- an argument that must be there
abbrev pub wanted : Text → Rule
wanted name = record (new_rule name) { required = true }

-- a flag, with two hyphens before its name
abbrev pub given : Text → Rule
given name = record (new_rule name) { long = Some name; action = Some SetTrue }

-- a command with the arguments that name a table: the signatures, the flag, and the priorities where the flag does not leave them out
abbrev pub of_table : Bool → App → App
of_table has_priorities app =
    let signatures = with_rule (with_rule app (wanted (codes "SIGS"))) (given (codes "no-priorities")) in
    if has_priorities then with_rule signatures (wanted (codes "PRIOS")) else signatures

-- `show SIGS PRIOS`, or `show --no-priorities SIGS`; so it is with the others
abbrev pub show_command : Bool → App
show_command has_priorities = of_table has_priorities (new_app (codes "show"))

-- `lint SIGS PRIOS`
abbrev pub lint_command : Bool → App
lint_command has_priorities = of_table has_priorities (new_app (codes "lint"))

-- an argument of one value or more
abbrev pub several : Text → Rule
several name = record (new_rule name) { range = Some (record { start_inclusive = 1; end_inclusive = usize_max }) }

-- an option: two hyphens and its name, and a value behind it
abbrev pub named : Text → Text → Rule
named name value = record (new_rule value) { long = Some name }

-- `--null`, which is also `-0`
abbrev pub null_rule : Rule
null_rule = record (given (codes "null")) { short = Some 48 }

-- the words of `match` for one file and for several
abbrev pub files_command : Bool → App
files_command has_priorities =
    with_rule (with_rule (with_rule (with_rule (of_table has_priorities (new_app (codes "match"))) (several (codes "FILE"))) (given (codes "all"))) (given (codes "with-names"))) (given (codes "csv"))

-- and those for many files
abbrev pub of_many : App → App
of_many app =
    let with_list = with_rule (with_rule (with_rule (with_rule app (named (codes "names") (codes "FORMATS"))) (given (codes "recursive"))) (named (codes "files-from") (codes "NAMES"))) null_rule in
    with_rule (with_rule with_list (given (codes "progress"))) (given (codes "summary"))

-- `match [--all] [--with-names] [--csv] [--names FORMATS] [--recursive] [--files-from NAMES [-0]] [--progress] [--summary] SIGS PRIOS [FILE..]`
abbrev pub match_command : Bool → App
match_command has_priorities = of_many (files_command has_priorities)

-- `--budget N`, of a number from 1 to 4,294,967,295, and of 100,000 where it is left out
abbrev pub budget_rule : Rule
budget_rule = record (named (codes "budget") (codes "N")) { defaults = codes "100000" ∷ []; parser = Some (Signed (pos 1) (pos 4294967295)) }

-- `--out OUT`, which must be there
abbrev pub out_rule : Rule
out_rule = record (named (codes "out") (codes "OUT")) { required = true }

-- `find [--budget N] --out OUT [--hex] [--progress] SIGS PRIOS`
abbrev pub find_command : Bool → App
find_command has_priorities = with_rule (with_rule (with_rule (with_rule (of_table has_priorities (new_app (codes "find"))) budget_rule) out_rule) (given (codes "hex"))) (given (codes "progress"))

-- `conflicts [--budget N] [--only PUID] [--class] [--summary] [--hex] [--files DIR] [--priorities FILE] [--progress] SIGS PRIOS`
abbrev pub conflicts_command : Bool → App
conflicts_command has_priorities =
    let of_pairs = with_rule (with_rule (with_rule (with_rule (of_table has_priorities (new_app (codes "conflicts"))) budget_rule) (named (codes "only") (codes "PUID"))) (given (codes "class"))) (given (codes "summary")) in
    with_rule (with_rule (with_rule (with_rule of_pairs (given (codes "hex"))) (named (codes "files") (codes "DIR"))) (named (codes "priorities") (codes "FILE"))) (given (codes "progress"))

-- `dead [--budget N] [--hex] [--progress] SIGS PRIOS`
abbrev pub dead_command : Bool → App
dead_command has_priorities = with_rule (with_rule (with_rule (of_table has_priorities (new_app (codes "dead"))) budget_rule) (given (codes "hex"))) (given (codes "progress"))

-- `check SIGS PRIOS CERT`
abbrev pub check_command : Bool → App
check_command has_priorities = with_rule (of_table has_priorities (new_app (codes "check"))) (wanted (codes "CERT"))

-- `witness SIGS PRIOS FILE`
abbrev pub witness_command : Bool → App
witness_command has_priorities = with_rule (of_table has_priorities (new_app (codes "witness"))) (wanted (codes "FILE"))

-- the program, whose first word is a subcommand, with `--version`
abbrev pub program : Bool → App
program has_priorities =
    let top = on_top (λ s. record s { has_version = true; no_binary_name = true; subcommand_required = true }) (new_app (codes "pronom_sig")) in
    with_subcommand (with_subcommand (with_subcommand (with_subcommand (with_subcommand (with_subcommand (with_subcommand (with_subcommand top (show_command has_priorities).top) (lint_command has_priorities).top) (match_command has_priorities).top) (find_command has_priorities).top) (conflicts_command has_priorities).top) (dead_command has_priorities).top) (check_command has_priorities).top) (witness_command has_priorities).top

-- whether the words name a priority file: `--no-priorities` is not among those before `--`
abbrev pub names_priorities : List Text → Bool
names_priorities words = not (list_any (λ word. bytes_eq word (codes "--no-priorities")) (take_while (λ word. not (bytes_eq word (codes "--"))) words))

-- the program that reads these words. No option takes a word that begins with a hyphen for its value, so the flag is never one
abbrev pub program_of : List Text → App
program_of words = program (names_priorities words)

-- whether clap takes the words, the faults that it finds in them, and the subcommand among them with its arguments
abbrev pub takes_words : List Text → Bool
takes_words words = takes (program_of words) words

abbrev pub fault_of_words : List Text → Kinds
fault_of_words words = fault_of (program_of words) words

abbrev pub subcommand_of_words : List Text → Option (Text × List Row)
subcommand_of_words words = subcommand_of (program_of words) words

-- the subcommand of this name with these arguments
abbrev pub asking : Text → ArgMatches → Option (Text × List Row)
asking name matches = Some (name, rows_of (found_of matches))

-- the files of a table are the first values of their arguments
pub record NamesTable (paths : TablePaths) (rows : List Row) : Type 0 where
  pub signatures : first_of (codes "SIGS") rows ≡ Some paths.signatures.now
  pub priorities : first_of (codes "PRIOS") rows ≡ option_map (λ w. w.now) paths.priorities

-- the value of `--budget`, its default where it is left out, writes this number in decimal, perhaps behind a plus
pub record NamesBudget (budget : ℕ) (rows : List Row) : Type 0 where
  pub digits : Text
  pub given : one_of (codes "N") rows ≡ Some digits
  pub numeral : IsNumeral 10 (without_leading_plus digits)
  pub value : digits_value 10 (without_leading_plus digits) ≡ budget
  pub within : budget < 2 ^ 32

-- whether the flag is among the words
pub record HasFlag (name : Text) (is_given : Bool) (rows : List Row) : Type 0 where
  pub given : one_of name rows ≡ Some (codes "true") → is_given ≡ true
  pub left_out : one_of name rows ≡ Some (codes "false") → is_given ≡ false
  pub absent : one_of name rows ≡ None → is_given ≡ false

-- the options of `conflicts`
pub record NamesOptions (options : ConflictsOptions) (rows : List Row) : Type 0 where
  pub budget : NamesBudget options.budget rows
  pub only : first_of (codes "PUID") rows ≡ option_map (λ w. w.now) options.only
  pub class : HasFlag (codes "class") options.class rows
  pub summary : HasFlag (codes "summary") options.summary rows
  pub hex : HasFlag (codes "hex") options.hex rows
  pub files : first_of (codes "DIR") rows ≡ option_map (λ w. w.now) options.files
  pub priorities : first_of (codes "FILE") rows ≡ option_map (λ w. w.now) options.priorities

-- whether the names of the files are printed, whatever their number
abbrev pub is_named : MatchOptions → Bool
is_named options = options.csv || (is_some options.names || (options.recursive || (options.progress || options.summary)))

-- the files are the values of their argument, in their order, and no list has their names: two at least, or one with `--with-names` or with options with which its name is printed
pub record NamesMany (files : List (Bor Text)) (options : MatchOptions) (rows : List Row) : Type 0 where
  pub are : all_of (codes "FILE") rows ≡ Some (map (λ f. f.now) files)
  pub some : 0 < length files
  pub unlisted : first_of (codes "NAMES") rows ≡ None
  pub named : (1 < length files) ⊎ (HasFlag (codes "with-names") true rows ⊎ (is_named options ≡ true))

-- no word names a file
abbrev pub HasNoFiles : List Row → Type 0
HasNoFiles rows = (text : Text) (texts : List Text) → all_of (codes "FILE") rows ≢ Some (text ∷ texts)

-- the list that a word names: a hyphen stands for standard input
abbrev pub list_names : Bor Text → ℕ → FileNames
list_names word end = if bytes_eq word.now (codes "-") then Input end else listed.List word end

-- what ends a name: a line feed, or with `--null` a NUL
abbrev pub name_end : Bool → ℕ
name_end is_null = if is_null then 0 else 10

-- a list has the names of the files, and no word has one
pub record NamesList (names : FileNames) (rows : List Row) : Type 0 where
  pub word : Bor Text
  pub given : first_of (codes "NAMES") rows ≡ Some word.now
  pub is_null : Bool
  pub null : HasFlag (codes "null") is_null rows
  pub is : names ≡ list_names word (name_end is_null)
  pub alone : all_of (codes "FILE") rows ≡ None

-- where the names of the files come from: from words, or from a list
abbrev pub NamesFiles : FileNames → MatchOptions → List Row → Type 0
NamesFiles names options rows = ((files : Bor (List (Bor Text))) × (names ≡ Words files) × NamesMany files.now options rows) ⊎ NamesList names rows

-- what is asked of each of many files
pub record NamesEach (options : MatchOptions) (rows : List Row) : Type 0 where
  pub all : HasFlag (codes "all") options.all rows
  pub csv : HasFlag (codes "csv") options.csv rows
  pub names : first_of (codes "FORMATS") rows ≡ option_map (λ w. w.now) options.names
  pub recursive : HasFlag (codes "recursive") options.recursive rows
  pub progress : HasFlag (codes "progress") options.progress rows
  pub summary : HasFlag (codes "summary") options.summary rows

-- the subcommand and its arguments ask for this
abbrev pub Asks : Option (Text × List Row) → Request → Type 0
Asks found (Show table) = (rows : List Row) × (found ≡ Some (codes "show", rows)) × NamesTable table rows
Asks found (Lint table) = (rows : List Row) × (found ≡ Some (codes "lint", rows)) × NamesTable table rows
Asks found (Match all table file) = (rows : List Row) × (found ≡ Some (codes "match", rows)) × NamesTable table rows × (all_of (codes "FILE") rows ≡ Some (file.now ∷ [])) × (first_of (codes "NAMES") rows ≡ None) × HasFlag (codes "all") all rows × HasFlag (codes "with-names") false rows × HasFlag (codes "csv") false rows × (first_of (codes "FORMATS") rows ≡ None) × HasFlag (codes "recursive") false rows × HasFlag (codes "progress") false rows × HasFlag (codes "summary") false rows
Asks found (MatchMany options table names) = (rows : List Row) × (found ≡ Some (codes "match", rows)) × NamesTable table rows × NamesFiles names options rows × NamesEach options rows
Asks found (Find table ask) = (rows : List Row) × (found ≡ Some (codes "find", rows)) × NamesTable table rows × NamesBudget ask.budget rows × (first_of (codes "OUT") rows ≡ Some ask.out.now) × HasFlag (codes "hex") ask.hex rows × HasFlag (codes "progress") ask.progress rows
Asks found (Conflicts table options progress) = (rows : List Row) × (found ≡ Some (codes "conflicts", rows)) × NamesTable table rows × NamesOptions options rows × HasFlag (codes "progress") progress rows
Asks found (Dead table ask) = (rows : List Row) × (found ≡ Some (codes "dead", rows)) × NamesTable table rows × NamesBudget ask.budget rows × HasFlag (codes "hex") ask.hex rows × HasFlag (codes "progress") ask.progress rows
Asks found (Check table certificate) = (rows : List Row) × (found ≡ Some (codes "check", rows)) × NamesTable table rows × (first_of (codes "CERT") rows ≡ Some certificate.now)
Asks found (Witness table file) = (rows : List Row) × (found ≡ Some (codes "witness", rows)) × NamesTable table rows × (first_of (codes "FILE") rows ≡ Some file.now)

-- the words are taken, and they ask for something
abbrev pub AreTaken : List Text → Type 0
AreTaken words = (takes_words words ≡ true) × ((request : Request) × Asks (subcommand_of_words words) request)

-- the words ask for help, or for the version
abbrev pub IsHelpAsked : List Text → Type 0
IsHelpAsked words = IsAmong DisplayHelp (fault_of_words words) ⊎ IsAmong DisplayVersion (fault_of_words words)

-- where clap finds a fault in the words, the error has its kind, unless memory ran out
abbrev pub HasFaultKind : List Text → Error → Type 0
HasFaultKind words e = fault_of_words words ≢ [] → HasKind (fault_of_words words) e

-- the first value of an argument among the words, what is read of it, and all its values
abbrev pub first_named : Text → List Text → Option Text
first_named name words = option_and_then (λ s. first_of name s.1) (subcommand_of_words words)

abbrev pub one_named : Text → List Text → Option Text
one_named name words = option_and_then (λ s. one_of name s.1) (subcommand_of_words words)

abbrev pub all_named : Text → List Text → Option (List Text)
all_named name words = option_and_then (λ s. all_of name s.1) (subcommand_of_words words)
