-- Lemmas of this crate.
mod AgainLemmas
mod EqualRowsLemmas
mod FaultLemmas
mod KnownLemmas
mod NameLemmas
mod PairsAgainLemmas
mod TableLemmas
mod ReportLemmas
mod WarningLemmas
