-- Lemmas of this crate.
mod AnyLemmas
mod CsvLemmas
pub mod Exports
mod FateLemmas
mod FolderLemmas
mod ForcedLemmas
mod FormatNameLemmas
mod FoundLemmas
mod HitLemmas
mod JudgedLemmas
mod ListedLemmas
mod ManyLemmas
mod ProgressLemmas
mod SettledLemmas
mod SummaryLemmas
mod TakenLemmas
mod TellingLemmas
mod WriteLemmas
