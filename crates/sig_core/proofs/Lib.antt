-- Lemmas of this crate.
pub mod Exports
mod HitLaws
mod HitLemmas
mod LeftLemmas
mod ListingLemmas
mod OneListLemmas
