use Rattle.std.proofs.Common.{subst}
use Rattle.sig_match.proofs.Exports.{left_there}
use Rattle.sig_find.specs.Answers.{IsDecision}
use Rattle.sig_find.specs.declared.decision.Decision.TheVariants as decision
use Rattle.sig_find.specs.Finding.{IsPairWitness}
use Rattle.sig_find.proofs.LifeLemmas.{closed_is_dead, witness_shows_alive}
use Rattle.sig_find.proofs.TriedLemmas.{decided_closed}
use Rattle.sig_find.proofs.life.life_of.Goals as goal

pub returns-in-Closed : goal.returns-in-Closed
returns-in-Closed c table budget format s is_table of decides =
    let decided : IsDecision table s s budget (decision.Closed c.in-Closed.blockers c.in-Closed.rows) =
    subst (IsDecision table s s budget) c.in-Closed.is decides in
    closed_is_dead table format s is_table of (decided_closed table s s budget c.in-Closed.blockers c.in-Closed.rows decided)

pub returns-in-Witness : goal.returns-in-Witness
returns-in-Witness c table budget format s is_table of decides =
    let witness : IsPairWitness table s s budget c.in-Witness.file.items = subst (IsDecision table s s budget) c.in-Witness.is decides in
    let left = left_there table c.in-Witness.file.items is_table witness.is_file in
    witness_shows_alive table format s budget c.in-Witness.file.items left.0 left.1 of witness
