-- What other crates use of the lemmas of this one.
pub use Rattle.sig_match.proofs.EveryFileLemmas.{hit_formats_there, left_there}
pub use Rattle.sig_match.proofs.GapLemmas.{IsBytes-from_slice}
