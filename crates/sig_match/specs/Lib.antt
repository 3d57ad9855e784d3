-- What a reader must trust: what a scan has of a file.
pub mod Scans
pub use Rattle.sig_auto.specs.Runs as AutomatonRuns
pub use Rattle.sig_auto.specs.Trees
pub use Rattle.sig_bits.specs.Bytes
pub use Rattle.sig_bits.specs.Device
pub use Rattle.sig_expr.specs.Words
pub use Rattle.sig_table.specs.Views
pub use Rattle.sig_table.specs.Ranking
pub use Rattle.sig_table.specs.Removal
pub use Rattle.sig_table.specs.Standing
pub use Rattle.sig_table.specs.Tables
-- The vocabulary of proofs: frontiers of offsets, and the first hits of the formats.
pub mod Frontiers
pub mod Gaps
pub mod Parts
pub mod Runs
pub use Rattle.memchr.specs.Find
