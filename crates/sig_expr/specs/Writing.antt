-- What writes of several pieces do to an output.
use Rattle.std.specs.Prelude.{◌≡◌, ℕ, ◌+◌, ◌<◌, Bool, true, false, List, length, Option, Result, OnOk, OnErr}
use Rattle.sig_bits.specs.Device.{Adds}

-- whether a write has failed, how many bytes may be written, and those written where they are known
pub record Sink : Type 0 where
  pub failed : Bool
  pub limit : ℕ
  pub written : Option (List ℕ)

abbrev pub sink : Bool → ℕ → Option (List ℕ) → Sink
sink failed limit written = record { failed = failed; limit = limit; written = written }

-- the text is written, with no fault
pub record Wrote (before : Sink) (text : List ℕ) (after : Sink) : Type 0 where
  pub stays : after.failed ≡ before.failed
  pub sound : 0 < length text → before.failed ≡ false
  pub lowers : before.limit ≡ length text + after.limit
  pub adds : Adds before.written text after.written

-- the text is written, or a write has failed
pub record Printed {X E : Type 0} (before : Sink) (text : List ℕ) (result : Result X E) (after : Sink) : Type 0 where
  pub fails : OnErr result (after.failed ≡ true)
  pub wrote : OnOk result (Wrote before text after)

-- an output, by what its trait says of it
abbrev pub sink_of : {W : Type 0} → (W → Bool) → (W → ℕ) → (W → Option (List ℕ)) → W → Sink
sink_of failed limit written out = sink (failed out) (limit out) (written out)

-- the text is written to this output, or a write has failed
abbrev pub Prints : {W X E : Type 0} → (W → Bool) → (W → ℕ) → (W → Option (List ℕ)) → W → List ℕ → Result X E → W → Type 0
Prints failed limit written before text result after = Printed (sink_of failed limit written before) text result (sink_of failed limit written after)

-- what writes the rest from here has written all
abbrev pub IsLeft : {W : Type 0} → (W → Bool) → (W → ℕ) → (W → Option (List ℕ)) → W → List ℕ → W → List ℕ → Type 0
IsLeft failed limit written start all here rest = (end : Sink) → Wrote (sink_of failed limit written here) rest end → Wrote (sink_of failed limit written start) all end
