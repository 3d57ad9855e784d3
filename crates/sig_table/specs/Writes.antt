-- What a call tells that makes a text whole, and then writes it.
use Rattle.std.specs.Prelude.{◌≡◌, ◌+◌, ℕ, Bool, true, false, List, length, Option, Result, OnOk, IsErr, IsErrOf, IsTrue}
use Rattle.sig_bits.specs.Device.{Adds, AddsFront}
use Rattle.sig_table.specs.declared.error.OutError.{OutError}
use Rattle.sig_table.specs.declared.error.OutError.TheVariants as error

-- an output before or after a call: the bytes written, where they are known, how many it still takes, and whether a write has failed
pub record OutputState : Type 0 where
  pub written : Option (List ℕ)
  pub limit : ℕ
  pub failed : Bool

-- the same of an output as its type tells it
abbrev pub state_of : {W : Type 0} → (W → Option (List ℕ)) → (W → ℕ) → (W → Bool) → W → OutputState
state_of written limit failed out = record { written = written out; limit = limit out; failed = failed out }

-- all of the text is written, or after a failed write only a front of it
pub record WritesWhole {T : Type 0} (bytes : List ℕ) (result : Result T OutError) (old new : OutputState) : Type 0 where
  pub text : OnOk result (Adds old.written bytes new.written)
  pub lowers : OnOk result (old.limit ≡ length bytes + new.limit)
  pub writes : OnOk result (new.failed ≡ false)
  pub write : IsErrOf result error.Write → new.failed ≡ true
  pub front : IsErrOf result error.Write → AddsFront old.written bytes new.written
  pub stays_failed : IsTrue old.failed → IsErr result
