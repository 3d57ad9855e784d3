use Rattle.sig_auto.proofs.RunLaws.{runs_end_or_not, sets_lead_or_not, stands_or_not}
use Rattle.sig_auto.proofs.laws.runs_are_decided.Goals as goal

pub returns : goal.returns
returns c = record {
  ends = runs_end_or_not;
  stands = stands_or_not;
  steps = sets_lead_or_not;
}
