-- What other crates use of the lemmas of this one.
pub use Rattle.sig_core.proofs.HitLaws.{left_is_one_list}
pub use Rattle.sig_core.proofs.HitLemmas.{HitsOf-stand, HitsOf-within, IfOk-hits}
pub use Rattle.sig_core.proofs.LeftLemmas.{Left-member}
pub use Rattle.sig_core.proofs.ListingLemmas.{HitFormats-from_Listed, Listed, Listed-keep, Listed-none, Listed-push}
