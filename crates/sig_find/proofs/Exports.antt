-- What other crates use of the lemmas of this one.
pub use Rattle.sig_find.proofs.PairLaws.{decided_pairs_decide, related_pairs_leave_none}
pub use Rattle.sig_find.proofs.AdditionLemmas.{additions_keep_formats_alive, ranked_is_table}
