-- What is kept of the pairs that have a line, and what comes of it: which pairs are forced, and in how many lines each format is.
use Rattle.std.specs.Prelude.{◌==◌, ◌||◌, ◌&&◌, ℕ, zero, suc, Bool, List, [], ◌∷◌, ◌++◌, codes, filter, flat_map, if◌then◌else◌, length, Option, None, Some, is_none, option_map}
use Rattle.std.specs.Fmt.{decimal}
use Rattle.std.specs.List.{range_with_len}
use Rattle.sig_find.specs.Classes.{mirror_of}
use Rattle.sig_find.specs.declared.class.PairClass.{PairClass}
use Rattle.sig_find.specs.declared.class.PairClass.TheVariants.{Apart, Open, Over, Same, Under}
use Rattle.sig_find.specs.declared.pair.PairDecision.{PairDecision}
use Rattle.sig_find.specs.declared.pair.PairDecision.TheVariants.{Ambiguous, Decided, Tried, Unknown}
use Rattle.sig_table.specs.Views.{TableView}
use Rattle.sig_table.specs.declared.ids.FormatId.{FormatId}
use Rattle.sig_engines.specs.ClassTexts.{classes_text, is_class}
use Rattle.sig_engines.specs.Texts.{format_text}
use Rattle.sig_engines.specs.declared.note.Note.{Note}

-- the note of two formats
abbrev pub note_of : ℕ × ℕ → Option PairClass → Note
note_of formats class = record { a = record { 0 = formats.0 }; b = record { 0 = formats.1 }; class = class }

-- what is noted of two formats: nothing where they have no line
abbrev pub noted : ℕ × ℕ → Option PairDecision → Option PairClass → List Note
noted formats None class = []
noted formats (Some Decided) class = []
noted formats (Some (Ambiguous s t file)) class = note_of formats class ∷ []
noted formats (Some (Tried s t file)) class = note_of formats class ∷ []
noted formats (Some (Unknown s t)) class = note_of formats class ∷ []

-- ---- forced pairs

-- the pair that must be ranked, the higher format first
abbrev pub forced_pair : ℕ → ℕ → Option PairClass → List (ℕ × ℕ)
forced_pair a b None = []
forced_pair a b (Some Over) = (a, b) ∷ []
forced_pair a b (Some Under) = (b, a) ∷ []
forced_pair a b (Some Same) = []
forced_pair a b (Some Apart) = []
forced_pair a b (Some Open) = []

abbrev pub forced_by : Note → List (ℕ × ℕ)
forced_by note = forced_pair note.a.0 note.b.0 note.class

-- all of them, in the order of the lines
abbrev pub forced_pairs : List Note → List (ℕ × ℕ)
forced_pairs notes = flat_map forced_by notes

-- the pair of two formats, where there are two
abbrev pub pairs_if : Option (FormatId × FormatId) → List (ℕ × ℕ)
pairs_if None = []
pairs_if (Some pair) = (pair.0.0, pair.1.0) ∷ []

-- ---- the lines of formats

-- whether the format is one of the two
abbrev pub is_in : ℕ → Note → Bool
is_in format note = (note.a.0 == format) || (note.b.0 == format)

-- the class, seen from the format: where that is the second one, the class of the pair turned round
abbrev pub seen_from : ℕ → Note → Option PairClass
seen_from format note = if note.a.0 == format then note.class else option_map mirror_of note.class

-- whether the note is of the format and of this class, or of the format and of no class
abbrev pub is_seen : PairClass → ℕ → Note → Bool
is_seen class format note = is_in format note && is_class class (seen_from format note)

abbrev pub is_unseen : ℕ → Note → Bool
is_unseen format note = is_in format note && is_none note.class

-- in how many lines a format is
abbrev pub lines_in : List Note → ℕ → ℕ
lines_in notes format = length (filter (is_in format) notes)

-- `fmt/354 334 over 0 under 12 same 0 apart 322 open 0 unknown 0`
abbrev pub summary_line : TableView → List Note → ℕ → List ℕ
summary_line table notes format =
    format_text table format ++ 32 ∷ decimal (lines_in notes format)
    ++ classes_text (λ class. length (filter (is_seen class format) notes)) ++ codes " unknown " ++ decimal (length (filter (is_unseen format) notes)) ++ 10 ∷ []

-- of so many formats those in this many lines, in table order
abbrev pub formats_in : ℕ → List Note → ℕ → List ℕ
formats_in formats notes lines = filter (λ format. lines_in notes format == lines) (range_with_len 0 formats)

-- those in fewer lines than this, most first
abbrev pub formats_below : ℕ → List Note → ℕ → List ℕ
formats_below formats notes zero = []
formats_below formats notes (suc lines) = formats_in formats notes lines ++ formats_below formats notes lines

-- all formats by how many lines they are in, most first, and equal ones in table order: no format is in more lines than there are
abbrev pub formats_by_lines : ℕ → List Note → List ℕ
formats_by_lines formats notes = formats_below formats notes (suc (length notes))

-- a line for each
abbrev pub summary_text : TableView → List Note → List ℕ
summary_text table notes = flat_map (summary_line table notes) (formats_by_lines (length table.formats) notes)

-- where they are asked for
abbrev pub summary_if_asked : Bool → TableView → List Note → List ℕ
summary_if_asked is_asked table notes = if is_asked then summary_text table notes else []
