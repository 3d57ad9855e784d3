-- What a reader must trust: which formats are hit, and which are left.
pub mod Hits
pub use Rattle.sig_bits.specs.Bytes
pub use Rattle.sig_bits.specs.Device
pub use Rattle.sig_table.specs.Ranking
pub use Rattle.sig_table.specs.Removal
pub use Rattle.sig_table.specs.Standing
pub use Rattle.sig_table.specs.Tables
pub use Rattle.sig_table.specs.Views
-- The vocabulary of proofs: the first hits of the formats.
pub mod FirstHits
