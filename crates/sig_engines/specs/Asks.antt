-- What `conflicts` is asked for.
use Rattle.std.specs.Prelude.{◌≡◌, ◌==◌, ◌||◌, ℕ, Bool, true, List, Contains, Option, None, Some, filter, is_some, slice_get}
use Rattle.sig_cert.specs.Pairs.{format_pairs}
use Rattle.sig_table.specs.Views.{TableView}
use Rattle.sig_table.specs.declared.ids.FormatId.{FormatId}
use Rattle.sig_table.specs.declared.puid.Puid.{Puid}
use Rattle.sig_engines.specs.declared.ask.ConflictsAsk.{ConflictsAsk}

-- whether the classes of pairs are printed
abbrev pub shows_class : ConflictsAsk → Bool
shows_class ask = ask.class || ask.summary

-- whether they are found: they are printed, or say which pairs are forced
abbrev pub needs_class : ConflictsAsk → Bool
needs_class ask = shows_class ask || is_some ask.priorities

-- whether a pair is asked for: each one is, or each one of this format
abbrev pub is_asked : Option FormatId → ℕ × ℕ → Bool
is_asked None formats = true
is_asked (Some format) formats = (formats.0 == format.0) || (formats.1 == format.0)

-- the pairs that are asked for, of so many formats
abbrev pub asked_pairs : Option FormatId → ℕ → List (ℕ × ℕ)
asked_pairs only formats = filter (is_asked only) (format_pairs formats)

-- the format of the table of this name, or none has it
abbrev pub IsFormatNamed : TableView → Puid → Option FormatId → Type 0
IsFormatNamed table puid (Some format) = slice_get table.formats format.0 ≡ Some puid
IsFormatNamed table puid None = ¬ Contains table.formats puid
