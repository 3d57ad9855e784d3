use Rattle.std.proofs.Common.{take}
use Rattle.std.specs.Prelude.{All}
use Rattle.sig_table.specs.Standing.{Stands}
use Rattle.sig_match.proofs.whole.search.all_stand.Given as goal

-- the sequences so far stand in the file
abbrev pub invariant-loop-sequence : goal.invariant-loop-sequence
invariant-loop-sequence l = All (λ s. Stands s l.file) (take l.sequence-index l.sequences)
