-- What a reader must trust: the definitions of the theorems.
pub mod Codes
pub mod Cures
pub mod Details
pub mod EqualRows
pub mod FaultViews
pub mod Faults
pub mod Fields
pub mod Names
pub mod Reports
pub mod Warnings
-- The vocabulary of proofs: what private types keep.
pub mod NameSets
