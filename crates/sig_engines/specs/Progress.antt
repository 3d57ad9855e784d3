-- What the error output shows of a long search: how many of how many things are done.
use Rattle.std.specs.Prelude.{◌≡◌, ℕ, Bool, true, false, List, ◌++◌, codes, flat_map, Option}
use Rattle.std.specs.Fmt.{decimal}
use Rattle.sig_bits.specs.Device.{Adds}
use Rattle.sig_engines.specs.declared.progress.Things.{Things}
use Rattle.sig_engines.specs.declared.progress.Things.TheVariants.{Formats, Pairs, Products}

-- what a search goes through
abbrev pub things_text : Things → List ℕ
things_text Products = codes " products"
things_text Pairs = codes " pairs"
things_text Formats = codes " formats"

-- one report, written over the one before: so many of so many are done
abbrev pub report_text : Things → ℕ × ℕ → List ℕ
report_text things (done, all) = codes "\r" ++ decimal done ++ codes " of " ++ decimal all ++ things_text things

-- what is written grows by reports
pub record AddsReports (things : Things) (before after : Option (List ℕ)) : Type 0 where
  pub told : List (ℕ × ℕ)
  pub adds : Adds before (flat_map (report_text things) told) after

-- what is written grows by reports, and a line feed behind them
pub record AddsProgress (things : Things) (before after : Option (List ℕ)) : Type 0 where
  pub told : List (ℕ × ℕ)
  pub adds : Adds before (flat_map (report_text things) told ++ codes "\n") after

-- with the flag what is written grows by progress; without it it is as it was
abbrev pub AddsIf : Bool → Things → Option (List ℕ) → Option (List ℕ) → Type 0
AddsIf true things before after = AddsProgress things before after
AddsIf false things before after = after ≡ before

-- with the flag the error output grows by progress, unless a write failed; without it it is as it was
abbrev pub ShowsIf : {E : Type 0} → Bool → Things → Bool → E → E → Option (List ℕ) → Option (List ℕ) → Type 0
ShowsIf true things is_failed before after written written_after = is_failed ≡ false → AddsProgress things written written_after
ShowsIf false things is_failed before after written written_after = after ≡ before
