-- The definitions of this crate. These say what an automaton is, and what its runs are.
pub mod Classes
pub mod Rows
pub mod Trees
pub mod TreeSlots
pub mod Tracks
pub mod Runs
pub mod ByteCuts
pub mod Remaining
pub mod States
-- These are words of the proofs.
pub mod Begins
pub mod Cuts
pub mod Local
pub mod Trim
pub mod Unfolded
-- These are of the form by cells.
pub mod Behind
pub mod Building
pub mod Cells
pub mod Flat
pub mod Joined
pub mod Joints
pub mod Props
pub mod CellSides
pub mod CellSteps
pub mod Taken
pub mod Ways
-- These are of the crates below, for its clauses.
pub use Rattle.sig_bits.specs.BitSets
pub use Rattle.sig_bits.specs.ByteClasses
pub use Rattle.sig_bits.specs.Groups
pub use Rattle.sig_bits.specs.Bytes
pub use Rattle.sig_expr.specs.Words
pub use Rattle.sig_table.specs.Views
pub use Rattle.sig_table.specs.Slots
pub use Rattle.sig_table.specs.Standing
pub use Rattle.sig_table.specs.Tables
