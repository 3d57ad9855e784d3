-- The lemmas of this crate.
mod AdditionLemmas
mod AllBlockerLemmas
mod AloneLemmas
mod ByteLemmas
mod ClashLemmas
mod ClassLemmas
mod ExpandLemmas
pub mod Exports
mod FoundLemmas
mod FrontierLemmas
mod HitLemmas
mod InclusionLemmas
mod KeptLemmas
mod KeyLemmas
mod LeavingLemmas
mod LengthLemmas
mod LifeLemmas
mod OrderLemmas
mod PairLaws
mod PlaceLemmas
mod ProjectionLemmas
mod RisingLemmas
mod RoundLemmas
mod SearchLemmas
mod TriedLemmas
mod WrittenLemmas
