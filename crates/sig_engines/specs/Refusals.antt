-- What the result of an engine says of the devices that it reads and writes.
use Rattle.std.specs.Prelude.{◌≡◌, ◌≢◌, Bool, true, false, List, ℕ, IsErrOf, OnOk, Result}
use Rattle.sig_engines.specs.Finding.{IsFindFault}
use Rattle.sig_engines.specs.Stores.{Holding, SomeWriteFailed}
use Rattle.sig_engines.specs.declared.error.FileFault.{FileFault}
use Rattle.sig_engines.specs.declared.error.FileFault.TheVariants.{Run}
use Rattle.sig_engines.specs.declared.error.RunError.{RunError}
use Rattle.sig_engines.specs.declared.error.RunError.TheVariants.{OutOfMemory, Read, Write}

-- an engine reads all before it writes: an answer says that no read and no write failed, a refusal which did, and that the output is as it was unless a write failed
pub record ReadsThenWrites {A : Type 0} (result : Result A RunError) (AllRead SomeReadFailed : Type 0) (write_failed : Bool) (Stays : Type 0) : Type 0 where
  pub reads : OnOk result AllRead
  pub writes : OnOk result (write_failed ≡ false)
  pub read : IsErrOf result Read → SomeReadFailed
  pub write : IsErrOf result Write → write_failed ≡ true
  pub read_stays : IsErrOf result Read → Stays
  pub memory_stays : IsErrOf result OutOfMemory → Stays

-- why `find` gives no answer; the output is as it was unless a write failed, and also where that was a write of the file
pub record StopsFind {F : Type 0} (failed : F → Bool) (held : Holding) (name : List ℕ) (write_failed : Bool) (Stays : Type 0) (fault : FileFault) : Type 0 where
  pub is : IsFindFault held name fault
  pub write : fault ≡ Run Write → SomeWriteFailed failed write_failed
  pub untouched : fault ≢ Run Write → Stays
  pub whole : write_failed ≡ false → Stays
