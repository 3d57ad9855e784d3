use Rattle.std.proofs.Common.{◌≡◌, ℕ, ◌<◌, Some, slice_get}
use Rattle.sig_engines.proofs.ask.format_named.Given as goal

-- no format before this one has the name
abbrev pub invariant-loop-index : goal.invariant-loop-index
invariant-loop-index l = (k : ℕ) → k < l.index → ¬ (slice_get l.table.formats k ≡ Some l.puid)
