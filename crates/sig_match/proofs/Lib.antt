-- Lemmas of this crate.
mod EveryFileLemmas
pub mod Exports
mod FrontierLemmas
mod GapLemmas
mod ItemLemmas
mod LangLemmas
mod MarkLemmas
mod PartLemmas
mod ReachLemmas
mod RunLemmas
mod ScanLemmas
mod StandLemmas
