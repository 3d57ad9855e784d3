use Rattle.std.proofs.Common.{◌≡◌, length, take}
use Rattle.sig_table.proofs.ranking.Ranking.of.Given as goal

-- the pairs so far
abbrev pub invariant-loop-pair : goal.invariant-loop-pair
invariant-loop-pair l = l.ranking ≡ record { format_count = length l.fn.table.formats; pairs = take l.pair-index l.fn.table.priorities }
