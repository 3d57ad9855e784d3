-- What other crates use of the lemmas of this one.
pub use Rattle.sig_auto.proofs.CellSuccessorLemmas.{followers_follow, followers_rise}
pub use Rattle.sig_auto.proofs.RunLaws.{accepts_by_an_end, ends_in_a_slot, follows_above_the_start, follows_to_a_slot, runs_accept_what_stands, runs_begin}
pub use Rattle.sig_auto.proofs.RunLaws.{runs_end_or_not, runs_go_on, sets_lead_or_not, slots_are_counted, stands_or_not}
