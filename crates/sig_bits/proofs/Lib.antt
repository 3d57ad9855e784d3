-- Lemmas of this crate.
mod BitLaws
mod BitLemmas
mod DeviceLemmas
pub mod Exports
mod GroupLemmas
mod JoinLemmas
mod LaneLemmas
mod RangeLemmas
