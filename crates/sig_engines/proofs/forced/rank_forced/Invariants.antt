use Rattle.std.proofs.Common.{string_bytes, take}
use Rattle.sig_engines.specs.Ranking.{AreRanked}
use Rattle.sig_engines.proofs.forced.rank_forced.Given as goal

-- the notes so far are tried
abbrev pub invariant-loop-note : goal.invariant-loop-note
invariant-loop-note l = AreRanked l.fn.table l.fn.budget (take l.note-index l.notes) l.forced.ranking (string_bytes l.forced.refused)
