-- The joints behind cells.
use Rattle.std.specs.Prelude.{◌≡◌, ◌↔◌, ℕ, ◌+◌, Bool, false, List, ◌∷◌, drop, length, slice_index, slice_index_or, slice_set, Some}
use Rattle.sig_auto.specs.declared.cell.Cell.{Cell}
use Rattle.sig_auto.specs.declared.joint.Joint.{Joint}
use Rattle.sig_auto.specs.declared.joint.Joints.{Joints}
use Rattle.sig_auto.specs.Behind.{AreReady}
use Rattle.sig_auto.specs.Joined.{Spells, is_joint, joint_past, seek}
use Rattle.sig_auto.specs.Ways.{land}
use Rattle.sig_auto.specs.Tracks.{Accepting}
use Rattle.sig_auto.specs.Trees.{whole_tree}
use Rattle.sig_auto.specs.TreeSlots.{set_len}
use Rattle.sig_bits.specs.BitSets.{HasBit}
use Rattle.sig_table.specs.Views.{SequenceView}

-- the joint behind a cell, before which there are k of so many, with these behind it
pub record IsJoint (all : ℕ) (c : Cell) (rest : List Cell) (k : ℕ) (j : Joint) : Type 0 where
  pub enters : j.enters ≡ seek c.behind rest (k + 1)
  pub beside : j.beside ≡ seek (joint_past c) rest (k + 1)
  pub ends : j.ends ≡ is_joint (land (Some c.behind) rest) all

-- the joint behind the cell at place k: each list has for each joint what is known of it from the next place on, the new one from k on. The
-- first two lists have the first cell behind it, the others whether nothing need come behind it
pub record IsJoined (c : Cell) (k : ℕ) (old_first : List ℕ) (old_lands : List Bool) (j : Joint) (new_first : List ℕ) (new_lands : List Bool) : Type 0 where
  pub enters : j.enters ≡ slice_index old_first c.behind
  pub beside : j.beside ≡ slice_index old_first (joint_past c)
  pub ends : j.ends ≡ slice_index_or old_lands c.behind false
  pub first : new_first ≡ slice_set old_first c.front k
  pub lands : new_lands ≡ slice_set old_lands c.front (slice_index_or old_lands (joint_past c) false)

pub record AreJoints (cells : List Cell) (joints : Joints) : Type 0 where
  pub many : length joints.each.items ≡ length cells
  pub start : joints.start ≡ seek 0 cells 0
  pub nullable : joints.nullable ≡ is_joint (land (Some 0) cells) (length cells)
  pub each : (k : ℕ) (c : Cell) (rest : List Cell) (d : Joint) → drop k cells ≡ c ∷ rest → IsJoint (length cells) c rest k (slice_index_or joints.each.items k d)

-- the cells are those of the sequence, in order, the joints theirs, and the set is that of the accepting states
pub record IsAuto (cells : List Cell) (joints : Joints) (accepting : List ℕ) (s : SequenceView) : Type 0 where
  pub spells : Spells cells s
  pub ready : AreReady cells
  pub joints_are : AreJoints cells joints
  pub accepting_len : length accepting ≡ set_len (whole_tree s)
  pub accepting_is : (p : ℕ) → HasBit accepting p ↔ Accepting (whole_tree s) p
