-- Lemmas of this crate.
mod Common
mod BeginLemmas
mod ByteLemmas
mod CutLemmas
mod EndLemmas
mod EndOrNotLemmas
pub mod Exports
mod LocalLemmas
mod RowLemmas
mod RowPushLemmas
mod RunLaws
mod RunLemmas
mod TakenLemmas
mod TrimLemmas
mod WholeLemmas
mod WordLemmas
-- These are of the form by cells.
mod WayLemmas
mod ShapeLemmas
mod TreeLemmas
mod LeadLemmas
mod FlatLemmas
mod LineLemmas
mod JoinLemmas
mod BehindLemmas
mod CellLemmas
mod BuildLemmas
mod CellWholeLemmas
mod CellTakenLemmas
mod CellSuccessorLemmas
mod CellSideLemmas
mod KeepLemmas
mod CellStepLemmas
mod CellPassLemmas
mod CellStepTold
