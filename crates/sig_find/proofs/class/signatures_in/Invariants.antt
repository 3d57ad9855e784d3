use Rattle.std.proofs.Common.{◌≡◌, ◌++◌}
use Rattle.sig_table.specs.Places.{places_of}
use Rattle.sig_table.specs.Remaining.{remaining_of}
use Rattle.sig_find.proofs.class.signatures_in.Given as goal

abbrev pub invariant-loop-signature : goal.invariant-loop-signature
invariant-loop-signature l = l.found.items ++ remaining_of l.signature-iterator ≡ places_of l.fn.format.0 0 l.fn.table.signatures
