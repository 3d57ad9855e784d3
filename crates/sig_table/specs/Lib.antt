-- What a reader must trust: the definitions of the theorems.
pub mod Canonical
pub mod Gathered
pub mod Judging
pub mod Loading
pub mod Numbers
pub mod Places
pub mod PriorityRows
pub mod Puids
pub mod PuidViews
pub mod Ranked
pub mod Ranking
pub mod RankingViews
pub mod Removal
pub mod Reads
pub mod Remaining
pub mod Rows
pub mod RowTexts
pub mod Slots
pub mod Standing
pub mod Tables
pub mod Views
pub mod Writes
-- The vocabulary of proofs: what private types keep.
pub mod Budgets
pub mod CsvTexts
pub mod Drafts
pub mod Files
pub mod FormatSets
pub mod Links
pub mod Records
-- The definitions of the crates below that clauses cite.
pub use Rattle.sig_bits.specs.BitSets
pub use Rattle.sig_bits.specs.Bytes
pub use Rattle.sig_expr.specs.Words
pub use Rattle.sig_expr.specs.Texts
