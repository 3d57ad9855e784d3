-- What a reader must trust: what a decided table is, and which certificates are closed.
pub mod Deciding
pub mod Pairs
pub mod Layouts
pub mod Closed
pub mod FileRows
pub mod Verdicts
pub mod Growing
-- The vocabulary of proofs.
pub mod Blockers
pub mod Bounds
pub mod Chains
pub mod Fields
pub mod RowFaults
