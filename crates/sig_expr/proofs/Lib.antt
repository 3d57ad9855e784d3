-- The lemmas of this crate.
mod BeforeLemmas
mod CanonLemmas
mod EndLemmas
pub mod Exports
mod FaultLemmas
mod FirstFaultLemmas
mod FrontLemmas
mod LawLemmas
mod OrderLemmas
mod PairLemmas
mod ProfileLemmas
mod RefusedLemmas
mod RefusalLemmas
mod ScanLemmas
mod Scans
mod ShortestLemmas
mod UniqueLemmas
mod WholePairLemmas
mod WritingLemmas
mod DigitLemmas
