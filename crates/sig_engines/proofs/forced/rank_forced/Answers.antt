use Rattle.std.proofs.Common.{string_bytes}
use Rattle.sig_engines.proofs.ForcedLemmas.{next_passed, next_ranked}
use Rattle.sig_engines.proofs.forced.rank_forced.Goals as goal
use Rattle.sig_engines.proofs.forced.rank_forced.Goals.{in-Some+in_ok-forced, in_default}

pub loop-note-preserved : goal.loop-note-preserved
loop-note-preserved c = elim c.match-forced.branch [
  | in-Some+in_ok-forced w ↦
      rw w.forced-is (next_ranked c.args.table.now c.args.budget c.args.notes.now c.loop-note.note-index _ c.loop-note.forced.ranking
      (string_bytes c.loop-note.forced.refused) c.loop-note-test.true c.loop-note.invariant
      (w.in-Some.higher.0, w.in-Some.lower.0) w.in_ok-forced.forced.ranking (string_bytes w.in_ok-forced.forced.refused) w.in-Some.ensures
      w.in_ok-forced.ensures)
  | in_default w ↦
      rw w.forced-is (next_passed c.args.table.now c.args.budget c.args.notes.now c.loop-note.note-index _ c.loop-note.forced.ranking
      (string_bytes c.loop-note.forced.refused) c.loop-note-test.true c.loop-note.invariant w.in_default.ensures)
]
