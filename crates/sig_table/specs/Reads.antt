-- How a load reads its two inputs, and what a failed read of one means.
use Rattle.std.specs.Prelude.{◌≡◌, Bool, true, false, List, ℕ, Option, Result, OnOk, IfErr, IsErr, IsErrOf, IsTrue}
use Rattle.sig_bits.specs.Device.{IsAtEnd}
use Rattle.sig_table.specs.declared.error.TableError.{TableError}
use Rattle.sig_table.specs.declared.error.TableError.TheVariants as error
use Rattle.sig_table.specs.declared.error.TableFile.TheVariants.{Signatures, Priorities}
use Rattle.sig_table.specs.Judging.{is_judged}
use Rattle.sig_table.specs.Loading.{is_of_signatures}
use Rattle.sig_table.specs.Views.{TableView}

-- an input over a call: whether a read had failed before and has failed now, and the bytes that are left, where they are known
pub record InputRun : Type 0 where
  pub had_failed : Bool
  pub has_failed : Bool
  pub left : Option (List ℕ)

-- the same of an input as its type tells it
abbrev pub run_of : {A : Type 0} → (A → Bool) → (A → Option (List ℕ)) → A → A → InputRun
run_of failed to_come before after = record { had_failed = failed before; has_failed = failed after; left = to_come after }

-- it was read to its end, and no read failed
pub record IsReadToEnd (run : InputRun) : Type 0 where
  pub sound : run.has_failed ≡ false
  pub at_end : IsAtEnd run.left

-- a file is judged once it was read to its end: a table is of two such files, and a fault of one
pub record ReadsToEnd (result : Result TableView TableError) (signatures priorities : InputRun) : Type 0 where
  pub table : OnOk result (IsReadToEnd signatures × IsReadToEnd priorities)
  pub fault : IfErr result (λ e. is_judged e ≡ true → IsReadToEnd signatures)
  pub later_fault : IfErr result (λ e. is_judged e ≡ true → is_of_signatures e ≡ false → IsReadToEnd priorities)

-- a failed read is told, and only a failed read: with it no table is made, and want of memory hides none
pub record TellsFailedReads (result : Result TableView TableError) (signatures priorities : InputRun) : Type 0 where
  pub of_signatures : IsErrOf result (error.Read Signatures) → signatures.has_failed ≡ true
  pub of_priorities : IsErrOf result (error.Read Priorities) → (signatures.has_failed ≡ false) × (priorities.has_failed ≡ true)
  pub memory : IsErrOf result error.OutOfMemory → (signatures.has_failed ≡ signatures.had_failed) × (priorities.has_failed ≡ priorities.had_failed)
  pub signatures_stay_failed : IsTrue signatures.had_failed → IsErr result
  pub priorities_stay_failed : IsTrue priorities.had_failed → IsErr result
