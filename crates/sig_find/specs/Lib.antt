-- What a reader must trust: what the finder answers of a table, and of the rows of one product.
pub mod Finding
pub mod Searches
pub mod Unblocked
pub mod Answers
pub mod FormatPairs
pub mod Leaving
pub mod Lives
pub mod Inclusions
pub mod Clashes
pub mod Classes
pub mod Additions
-- The vocabulary of proofs.
pub mod Kept
pub mod Lengths
pub mod Frontiers
pub mod Judgements
pub mod Rounds
pub mod Tries
pub mod Written
