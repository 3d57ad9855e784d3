-- What other crates use of the lemmas of this one.
pub use Rattle.sig_engines.proofs.AnyLemmas.{any_settles}
pub use Rattle.sig_engines.proofs.WriteLemmas.{prints_then}
