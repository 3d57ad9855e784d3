use Rattle.sig_engines.proofs.HitLemmas.{asked_are_of}
use Rattle.sig_engines.proofs.match_engine.lines_of_match.Goals as goal

pub lines_of_file-requires : goal.lines_of_file-requires
lines_of_file-requires g c = rw (c.hits.ensures, c.table.ensures) (asked_are_of _ _ _ _ c.in_ok-results.ensures.asked.are_asked)
