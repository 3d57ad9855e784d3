-- What an engine writes in pieces, and the texts of why it gives no answer.
use Rattle.std.specs.Prelude.{◌≡◌, ℕ, Bool, true, List, codes, Option, Result, OnOk, OnErr}
use Rattle.sig_bits.specs.Device.{Adds}
use Rattle.sig_bits.specs.declared.fault.ReadWholeError.{ReadWholeError}
use Rattle.sig_bits.specs.declared.fault.ReadWholeError.TheVariants as whole
use Rattle.sig_engines.specs.declared.error.CutShort.{CutShort}
use Rattle.sig_engines.specs.declared.error.CutShort.TheVariants as cut
use Rattle.sig_engines.specs.declared.error.RunError.{RunError}
use Rattle.sig_engines.specs.declared.error.RunError.TheVariants as run

-- the text is written, unless a write failed
abbrev pub Prints : {T E : Type 0} → Result T E → List ℕ → Option (List ℕ) → Option (List ℕ) → Bool → Type 0
Prints result text before after failed = OnOk result (Adds before text after) × OnErr result (failed ≡ true)

-- why an engine gives no answer where its input is not read whole
abbrev pub reading_fault : ReadWholeError → RunError
reading_fault whole.Read = run.Read
reading_fault whole.OutOfMemory = run.OutOfMemory

-- the text of an engine that gives no answer
abbrev pub run_text : RunError → List ℕ
run_text run.Read = codes "read failed"
run_text run.Write = codes "write failed"
run_text run.OutOfMemory = codes "out of memory"

-- the text of an engine that stopped before its last line
abbrev pub cut_text : CutShort → List ℕ
cut_text cut.Write = codes "write failed"
cut_text cut.OutOfMemory = codes "out of memory"
