-- What a reader of the theorems must trust: sets as bits, classes and groups of bytes, texts as bytes,
-- and what a device does.
pub mod BitSets
pub mod ByteClasses
pub mod Bytes
pub mod Device
pub mod Groups
-- The vocabulary of proofs.
pub mod Joined
