-- How formats, signatures and the bytes of a file are written.
use Rattle.std.specs.Prelude.{ℕ, Bool, true, false, List, [], ◌∷◌, ◌++◌, Option, Some, None, option_map, slice_get}
use Rattle.std.specs.Fmt.{decimal}
use Rattle.hex.specs.Hex.{encode_lower}
use Rattle.sig_table.specs.Puids.{puid_text}
use Rattle.sig_table.specs.Views.{TableView}
use Rattle.sig_table.specs.declared.puid.Puid.{Puid}

-- a PUID; nothing where there is none
abbrev pub puid_or_none : Option Puid → List ℕ
puid_or_none (Some puid) = puid_text puid
puid_or_none None = []

-- a number; nothing where there is none
abbrev pub number_or_none : Option ℕ → List ℕ
number_or_none (Some number) = decimal number
number_or_none None = []

-- the PUID of a format
abbrev pub format_text : TableView → ℕ → List ℕ
format_text table format = puid_or_none (slice_get table.formats format)

-- the number of a signature
abbrev pub signature_text : TableView → ℕ → List ℕ
signature_text table signature = number_or_none (option_map (λ s. s.number) (slice_get table.signatures signature))

-- two formats and a signature of each, with a space before each
abbrev pub product_text : TableView → ℕ × ℕ → ℕ → ℕ → List ℕ
product_text table formats s t = 32 ∷ format_text table formats.0 ++ 32 ∷ format_text table formats.1 ++ 32 ∷ signature_text table s ++ 32 ∷ signature_text table t

-- with `--hex` a space and the bytes in lower case hexadecimal; nothing for a file of no byte
abbrev pub hex_text : Bool → List ℕ → List ℕ
hex_text true [] = []
hex_text true (byte ∷ bytes) = 32 ∷ encode_lower (byte ∷ bytes)
hex_text false file = []
