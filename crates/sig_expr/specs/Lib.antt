-- What a reader must trust: the definitions of the clauses and laws.
pub use Rattle.sig_bits.specs.Bytes
pub mod Words
pub mod Spelling
pub mod Canon
pub mod Profile
pub mod FirstFaults
pub mod Refusals
pub mod Texts
-- The vocabulary of proofs.
pub mod Built
pub mod Ends
pub mod Faults
pub mod Passes
pub mod Reading
pub mod ShortLaws
pub mod Writing
