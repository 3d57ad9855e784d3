use Rattle.sig_engines.proofs.HitLemmas.{asked_are_of}
use Rattle.sig_engines.proofs.match_engine.answer_of_match.Goals as goal

pub text_of_file-requires : goal.text_of_file-requires
text_of_file-requires g c = rw (c.hits-hits.ensures, c.table.ensures) (asked_are_of _ _ _ _ c.in_ok-results.ensures.asked.are_asked)
