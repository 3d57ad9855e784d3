-- What is written of the faults of two files.
use Rattle.std.specs.Prelude.{◌≡◌, ℕ, Bool, List, IfSome, Option}
use Rattle.sig_bits.specs.Device.{Adds}
use Rattle.sig_lint.specs.Reports.{Tells}
use Rattle.sig_table.specs.Loading.{records_of}

-- what is written grows by what is told of a signature file and a priority file, which have no fault or some
pub record AddsReport (is_faultless : Bool) (signatures priorities : List ℕ) (before after : Option (List ℕ)) : Type 0 where
  pub text : List ℕ
  pub tells : Tells is_faultless (records_of signatures) (records_of priorities) text
  pub adds : Adds before text after

-- the files are some bytes: those to come, where they are known
pub record AddsReportOfSome (is_faultless : Bool) (first second before after : Option (List ℕ)) : Type 0 where
  pub signatures : List ℕ
  pub priorities : List ℕ
  pub is_first : IfSome first (λ bytes. signatures ≡ bytes)
  pub is_second : IfSome second (λ bytes. priorities ≡ bytes)
  pub adds_report : AddsReport is_faultless signatures priorities before after
