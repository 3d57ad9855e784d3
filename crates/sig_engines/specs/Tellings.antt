-- What the line of two formats tells, and what it tells that there is none.
use Rattle.std.specs.Prelude.{ℕ, Option, Some, None}
use Rattle.sig_find.specs.FormatPairs.{AreNeverLeft, DecidesPair}
use Rattle.sig_find.specs.declared.pair.PairDecision.{PairDecision}
use Rattle.sig_table.specs.Views.{TableView}

-- of a pair without a line no file leaves both formats; the file of an ambiguous one leaves both; an unknown one tells nothing
abbrev pub Tells : TableView → ℕ × ℕ → Option PairDecision → Type 0
Tells table formats None = AreNeverLeft table formats
Tells table formats (Some decision) = DecidesPair table formats decision
