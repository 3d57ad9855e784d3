-- What is printed of the formats of a table, and of their signatures, that no file can leave.
use Rattle.std.specs.Prelude.{◌≡◌, ◌⊎◌, ◌&&◌, ℕ, Bool, true, false, List, [], ◌∷◌, ◌++◌, All, codes, count_by, flat_map, length, map, Option}
use Rattle.std.specs.Fmt.{decimal}
use Rattle.std.specs.List.{list_all, range_with_len}
use Rattle.sig_bits.specs.Device.{Adds, AddsFront}
use Rattle.sig_find.specs.Leaving.{DecidesFormat}
use Rattle.sig_find.specs.Lives.{AreLives, fate_of, format_fate, is_alive, is_unknown}
use Rattle.sig_find.specs.declared.life.Fate.{Fate}
use Rattle.sig_find.specs.declared.life.Fate.TheVariants as fate
use Rattle.sig_find.specs.declared.life.Life.{Life}
use Rattle.sig_find.specs.declared.life.Life.TheVariants as life
use Rattle.sig_find.specs.declared.life.SignatureLife.{SignatureLife}
use Rattle.sig_table.specs.Views.{TableView}
use Rattle.sig_engines.specs.Texts.{format_text, hex_text, signature_text}
use Rattle.sig_engines.specs.declared.error.CutShort.{CutShort}
use Rattle.sig_engines.specs.declared.error.CutShort.TheVariants.{OutOfMemory, Write}

-- ---- the formats

-- a format, and what is found of its signatures
pub record KnownFormat : Type 0 where
  pub format : ℕ
  pub lives : List SignatureLife

-- it is so: some file leaves a format that is called alive, and none one that is called dead
pub record IsKnownFormat (table : TableView) (budget : ℕ) (known : KnownFormat) : Type 0 where
  pub lives : AreLives table budget known.format known.lives
  pub decides : DecidesFormat table known.format (format_fate known.lives)

-- these are the first formats of the table, all but the others
pub record AreFirstFormats (table : TableView) (budget : ℕ) (known : List KnownFormat) (others : List ℕ) : Type 0 where
  pub at : range_with_len 0 (length table.formats) ≡ map (λ k. k.format) known ++ others
  pub each : All (IsKnownFormat table budget) known

-- ---- their lines

-- a word, a space and a format
abbrev pub format_line : List ℕ → TableView → ℕ → List ℕ
format_line word table format = word ++ 32 ∷ format_text table format ++ 10 ∷ []

-- a word, a format and a signature, with a space before each, and more
abbrev pub signature_line : List ℕ → TableView → ℕ → ℕ → List ℕ → List ℕ
signature_line word table format s more = word ++ 32 ∷ format_text table format ++ 32 ∷ signature_text table s ++ more ++ 10 ∷ []

-- the line of a signature of a format that is alive: `dead A S`, `unknown A S`, or with `--hex` `alive A S N HEX`
abbrev pub life_line : Bool → TableView → ℕ → ℕ → Life → List ℕ
life_line true table format s (life.Alive file) = signature_line (codes "alive") table format s (32 ∷ decimal (length file.items) ++ hex_text true file.items)
life_line false table format s (life.Alive file) = []
life_line hex table format s life.Dead = signature_line (codes "dead") table format s []
life_line hex table format s life.Unknown = signature_line (codes "unknown") table format s []

-- the lines of a format: `dead A`, `unknown A`, or those of its signatures
abbrev pub fate_lines : Bool → TableView → ℕ → Fate → List SignatureLife → List ℕ
fate_lines hex table format fate.Alive lives = flat_map (λ l. life_line hex table format l.signature.0 l.life) lives
fate_lines hex table format fate.Dead lives = format_line (codes "dead") table format
fate_lines hex table format fate.Unknown lives = format_line (codes "unknown") table format

-- the lines of formats, in their order
abbrev pub known_lines : Bool → TableView → List KnownFormat → List ℕ
known_lines hex table known = flat_map (λ k. fate_lines hex table k.format (format_fate k.lives) k.lives) known

-- ---- the last line

-- what is found of the formats, and of the signatures of all of them
abbrev pub format_fates : List KnownFormat → List Fate
format_fates known = map (λ k. format_fate k.lives) known

abbrev pub signature_fates : List KnownFormat → List Fate
signature_fates known = flat_map (λ k. map (λ l. fate_of l.life) k.lives) known

abbrev pub is_dead : Fate → Bool
is_dead fate.Alive = false
is_dead fate.Dead = true
is_dead fate.Unknown = false

-- `F alive .. dead .. unknown ..`
abbrev pub fates_text : List Fate → List ℕ
fates_text fates = decimal (length fates) ++ codes " alive " ++ decimal (count_by is_alive fates) ++ codes " dead " ++ decimal (count_by is_dead fates) ++ codes " unknown " ++ decimal (count_by is_unknown fates)

-- `formats F .. signatures S ..`
abbrev pub fates_line : List Fate → List Fate → List ℕ
fates_line formats signatures = codes "formats " ++ fates_text formats ++ codes " signatures " ++ fates_text signatures ++ 10 ∷ []

-- ---- what is written

-- the lines of all formats and the last line; it is a yes where each format and each signature is alive
pub record AddsFates (is_yes hex : Bool) (table : TableView) (budget : ℕ) (before after : Option (List ℕ)) : Type 0 where
  pub known : List KnownFormat
  pub are_all : AreFirstFormats table budget known []
  pub yes : is_yes ≡ (list_all is_alive (format_fates known) && list_all is_alive (signature_fates known))
  pub adds : Adds before (known_lines hex table known ++ fates_line (format_fates known) (signature_fates known)) after

-- the lines of the first formats, and not the last line
pub record AddsFirstFates (hex : Bool) (table : TableView) (budget : ℕ) (before after : Option (List ℕ)) : Type 0 where
  pub known : List KnownFormat
  pub others : List ℕ
  pub are_first : AreFirstFormats table budget known others
  pub adds : Adds before (known_lines hex table known) after

-- a front of the bytes of these lines, or of those of all formats and the last line
pub record AddsFrontOfFates (hex : Bool) (table : TableView) (budget : ℕ) (before after : Option (List ℕ)) : Type 0 where
  pub known : List KnownFormat
  pub others : List ℕ
  pub are_first : AreFirstFormats table budget known others
  pub text : List ℕ
  pub is_text : (text ≡ known_lines hex table known) ⊎ ((others ≡ []) × (text ≡ known_lines hex table known ++ fates_line (format_fates known) (signature_fates known)))
  pub adds : AddsFront before text after

-- where memory ran out the lines of the first formats are written, and after a failed write a front of such bytes
abbrev pub AreFatesCut : CutShort → Bool → TableView → ℕ → Bool → Option (List ℕ) → Option (List ℕ) → Type 0
AreFatesCut Write hex table budget is_failed before after = (is_failed ≡ true) × AddsFrontOfFates hex table budget before after
AreFatesCut OutOfMemory hex table budget is_failed before after = AddsFirstFates hex table budget before after

-- ---- on the way

-- the first formats, all but the others, are known, and their lines are written
pub record AreFatesTold (hex : Bool) (table : TableView) (budget : ℕ) (others : List ℕ) (formats signatures : List Fate) (before after : Option (List ℕ)) : Type 0 where
  pub known : List KnownFormat
  pub are_first : AreFirstFormats table budget known others
  pub formats_are : formats ≡ format_fates known
  pub signatures_are : signatures ≡ signature_fates known
  pub adds : Adds before (known_lines hex table known) after

-- a format is known, and its lines are written
pub record IsFateTold (hex : Bool) (table : TableView) (budget format : ℕ) (old_formats new_formats old_signatures new_signatures : List Fate) (before after : Option (List ℕ)) : Type 0 where
  pub lives : List SignatureLife
  pub known : IsKnownFormat table budget (record { format = format; lives = lives })
  pub formats : new_formats ≡ old_formats ++ format_fate lives ∷ []
  pub signatures : new_signatures ≡ old_signatures ++ map (λ l. fate_of l.life) lives
  pub adds : Adds before (fate_lines hex table format (format_fate lives) lives) after

-- a format is known, and a front of its lines is written
pub record IsFateFrontTold (hex : Bool) (table : TableView) (budget format : ℕ) (before after : Option (List ℕ)) : Type 0 where
  pub lives : List SignatureLife
  pub known : IsKnownFormat table budget (record { format = format; lives = lives })
  pub adds : AddsFront before (fate_lines hex table format (format_fate lives) lives) after

-- where memory ran out nothing is written of a format, and after a failed write a front of its lines
abbrev pub IsFateCut : CutShort → Bool → TableView → ℕ → ℕ → Bool → Option (List ℕ) → Option (List ℕ) → Type 0
IsFateCut Write hex table budget format is_failed before after = (is_failed ≡ true) × IsFateFrontTold hex table budget format before after
IsFateCut OutOfMemory hex table budget format is_failed before after = after ≡ before
