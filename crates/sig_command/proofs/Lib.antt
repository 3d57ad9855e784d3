-- Lemmas of this crate.
pub mod BudgetLemmas
pub mod EndLemmas
mod FaultLemmas
pub mod FindLemmas
mod FlagLemmas
mod LineLemmas
pub mod OnceLemmas
mod PairsLemmas
pub mod RequestLemmas
pub mod RowLemmas
pub mod SeveralLemmas
pub mod StoreLemmas
