-- What a reader must trust: where words lie, how long they are, and what stands in turn.
pub mod Placed
pub mod Lengths
pub mod Stages
pub mod Courses
pub mod Scans
-- The definitions of the crates below that clauses cite.
pub use Rattle.sig_bits.specs.Bytes
pub use Rattle.sig_expr.specs.Words
pub use Rattle.sig_table.specs.Standing
pub use Rattle.sig_table.specs.Views
-- The vocabulary of proofs: sets of offsets as bits, literals, heads, and what the prefilter tells.
pub mod Classes
pub mod Filters
pub mod Frontiers
pub mod Heads
pub mod Literals
pub mod Marks
pub mod Passes
