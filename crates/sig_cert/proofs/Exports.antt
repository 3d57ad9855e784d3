-- What other crates use of the lemmas of this one.
pub use Rattle.sig_cert.proofs.AcceptedLemmas.{accepted_is_closed}
pub use Rattle.sig_cert.proofs.ChainLemmas.{pairs_left-cons, pairs_with-cons, pairs_with-none, signatures_left-cons, signatures_with-cons, signatures_with-none}
pub use Rattle.sig_cert.proofs.ClosedLemmas.{AcceptsAll, closed_covers_reached, end_of, EndAccepts, sets_accept}
pub use Rattle.sig_cert.proofs.CoverLemmas.{covering_bad}
pub use Rattle.sig_cert.proofs.DecidedLemmas.{accepts_hits, closed_decides, hits_accepts}
pub use Rattle.sig_cert.proofs.FileRowLemmas.{file_row_is_row}
pub use Rattle.sig_cert.proofs.LeftLemmas.{NoneOutranks, two_of, TwoLeft}
pub use Rattle.sig_cert.proofs.MatchedLemmas.{one_is_left}
pub use Rattle.sig_cert.proofs.MemberLemmas.{first_is_there, first_or_later, is_format_pair, is_signature_of, is_signature_pair, later_is_there}
pub use Rattle.sig_cert.proofs.MemberLemmas.{mapped_is_there, none_is_there}
pub use Rattle.sig_cert.proofs.PairLemmas.{length-format_pairs}
pub use Rattle.sig_cert.proofs.ProductLemmas.{blockers_have_sequences, HasSequences, one_product, one_there, signature_at}
pub use Rattle.sig_cert.proofs.ReachedLemmas.{reached_is_of_file, states_are_reached}
pub use Rattle.sig_cert.proofs.ZipLemmas.{choose, gather, zip_both, zip_first, zip_left, zip_right, zip_weaker, zip_with_right}
