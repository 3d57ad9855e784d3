use Rattle.sig_auto.proofs.RunLaws.{ends_in_a_slot, follows_above_the_start, follows_to_a_slot}
use Rattle.sig_auto.proofs.laws.states_are_slots.Goals as goal

pub returns : goal.returns
returns c = record {
  ends = ends_in_a_slot;
  follows = follows_to_a_slot;
  above = follows_above_the_start;
}
