-- The names that most proofs cite, passed on from one place. Declares nothing.
pub use Rattle.std.proofs.Common.{[], ◌%◌, ◌&&◌, ◌*◌, ◌++◌, ◌+◌, ◌-◌, ◌/◌, ◌<◌, ◌==◌, ◌^◌, ◌||◌, ◌↔◌, ◌∙◌, ◌∷◌, ◌≡◌, ◌≢◌, ◌≤◌, ◌⊎◌, Bool, Contains, Fits}
pub use Rattle.std.proofs.Common.{IsTrue, List, None, Option, Some, add-one, add_assoc, ap, append_assoc, arith, bit_and, cond, drop, eq-eqb, false, get_or}
pub use Rattle.std.proofs.Common.{get_or-set_other, get_or-set_same, if◌then◌else◌, inl, inr, length, length-append, lit<, map, min, mul-suc, mul-zero, nat_eq}
pub use Rattle.std.proofs.Common.{nat_le, nat_lt, ne_eqb, refl, replicate, rules, slice_index, subst, suc, sum_by, sym, take, tests, true, w32, w8, zero, ℕ}
pub use Rattle.std.proofs.Math.Bool.{or-false, or_assoc}
pub use Rattle.std.proofs.Math.ListN.{length-set, set}
pub use Rattle.std.proofs.Math.Seq.{drop-cons, take-suc}
pub use Rattle.std.proofs.lemmas.Bool.{and_from, and_left, and_parts, and_right, cases_Bool, cases_eq, cases_lt, cases_order, cond-false, cond-true, eqb-false}
pub use Rattle.std.proofs.lemmas.Bool.{eqb-true, false_from_ne_true, false≢true, le-leb, le-ltb, leb-true, lt-ltb, ltb-true, or_cases, or_from, or_left}
pub use Rattle.std.proofs.lemmas.Bool.{or_parts, or_right, true≢false}
pub use Rattle.std.proofs.lemmas.Grind.{common_steps}
pub use Rattle.std.proofs.lemmas.List.{append-nil, drop_all, get_or-append_right, get_or-replicate, get_or_append_left, get_or_default, length-replicate}
pub use Rattle.std.proofs.lemmas.List.{map-append, take-append-drop, take-append-le, take_all}
pub use Rattle.std.proofs.lemmas.List.Elements.{All-append, All-cons, All-head, All-nil, All-tail, Contains-append_cases, Contains-append_left}
pub use Rattle.std.proofs.lemmas.List.Elements.{Contains-append_right, Contains-push, Contains-push_cases}
pub use Rattle.std.proofs.lemmas.List.Sums.{sum_by-cons}
pub use Rattle.std.proofs.lemmas.Nat.Bits.{bit_at_clear_other, bit_at_clear_same}
pub use Rattle.std.proofs.lemmas.Option.{get_or_from_slice_get, slice_get-get_or, slice_get_past, slice_get_read, slice_get_within}
pub use Rattle.std.specs.Int.{bit_at}
pub use Rattle.std.specs.List.{slice_get}
pub use Rattle.std.specs.List.Sorted.{IsStrictlyIncreasing}
pub use Rattle.std.specs.Option.{is_some, option_eq}
pub use Rattle.std.specs.Prelude.{⊤, IfSome}
pub use Rattle.sig_bits.proofs.Exports.{zeros_have_no_bit}
unfoldable pub use Rattle.sig_bits.specs.BitSets.{HasBit}
pub use Rattle.sig_bits.specs.BitSets.{IsShiftedBit}
pub use Rattle.sig_bits.specs.ByteClasses.{Holds}
pub use Rattle.sig_bits.specs.Bytes.{IsBytes}
pub use Rattle.sig_bits.specs.declared.byte_class.ByteClass.{ByteClass}
pub use Rattle.sig_expr.proofs.Exports.{IsBefore-cases, IsBefore-either, IsBefore-lower, IsBefore-same, IsUpTo-before, IsUpTo-behind, IsUpTo-cases}
pub use Rattle.sig_expr.proofs.Exports.{IsUpTo-first, IsUpTo-itself, IsUpTo-rest, IsUpTo-same, leaves_no_all, not_before_itself}
unfoldable pub use Rattle.sig_expr.specs.Faults.{are_all}
pub use Rattle.sig_expr.specs.Profile.{AlternativesSound, AtomSound, AtomsSound, IsExpression, ItemSound, ItemsSound, RangeSound}
pub use Rattle.sig_expr.specs.Words.{AlternativeWord, IsAtMost, IsBefore, IsBytesOf, IsUpTo, Lang, PartWord, Word}
pub use Rattle.sig_expr.specs.declared.item.Atom.{Atom}
pub use Rattle.sig_expr.specs.declared.item.Item.{Item}
unfoldable pub use Rattle.sig_table.specs.Slots.{slot_count}
pub use Rattle.sig_table.specs.Slots.{above_rows, atom_slots, below_rows, between_rows, bracket_slots, gap_slots, item_slots}
pub use Rattle.sig_table.specs.Standing.{Cut, Stands, StandsAt}
pub use Rattle.sig_table.specs.Tables.{InOrder, IsSequence}
pub use Rattle.sig_table.specs.Views.{SequenceView}
pub use Rattle.sig_table.specs.declared.position.Position.{Position}
pub use Rattle.sig_auto.specs.Begins.{Begins, BeginsOn, BeginsOutside}
pub use Rattle.sig_auto.specs.Behind.{AreReady, EndsAt, IsBehind, IsCellOf, LiesBehind, is_own, slots_in}
pub use Rattle.sig_auto.specs.Building.{Puts, part_tree}
pub use Rattle.sig_auto.specs.CellSides.{EachSide, EnteredOn, OwnOn, SlotOn}
pub use Rattle.sig_auto.specs.CellSteps.{GoesIn, GoesWithin, IsAhead, IsCellStep, IsEntered, IsFirstOf, IsLeft, IsPassed, IsSomePassed, LeavesFor}
pub use Rattle.sig_auto.specs.Cells.{cells_in, cells_of, cells_of_sequence, gap_cell, middle, slot_cell}
pub use Rattle.sig_auto.specs.Classes.{InClass, any, only}
pub use Rattle.sig_auto.specs.Cuts.{AddsCuts, AddsLive, SameSide}
pub use Rattle.sig_auto.specs.Flat.{IsFirm, IsFlat}
pub use Rattle.sig_auto.specs.Joined.{Bounded, Lined, Spells, entered_first, is_joint, joint_past, seek}
pub use Rattle.sig_auto.specs.Joints.{AreJoints, IsAuto, IsJoint}
pub use Rattle.sig_auto.specs.Local.{follows, is_first, is_last, is_nullable}
pub use Rattle.sig_auto.specs.Rows.{above, behind, behind_these, below, between, inner_at, lower_at, only_these, rest, upper_at}
pub use Rattle.sig_auto.specs.Runs.{Accepts, EndsIn, FollowsOn, IsStepOf, Run, Steps, TakesAlike}
pub use Rattle.sig_auto.specs.States.{ComesBehind}
unfoldable pub use Rattle.sig_auto.specs.States.{followers}
pub use Rattle.sig_auto.specs.Taken.{class_in, in_class, own_list, own_taken, spread, taken, taken_first}
pub use Rattle.sig_auto.specs.Tracks.{Accepting, Follows, GapTrack, Track, slots_from}
pub use Rattle.sig_auto.specs.TreeSlots.{Takes, class_of, classes_of, set_len, slots_of}
pub use Rattle.sig_auto.specs.Trees.{Empty, Gap, Never, Or, Slot, Then, Tree, alternatives_tree, atom_tree, atoms_tree, back_tree, bracket_tree, front_tree}
pub use Rattle.sig_auto.specs.Trees.{item_tree, items_tree, row_tree, rows_tree, whole_tree}
pub use Rattle.sig_auto.specs.Trim.{HasTrack, IsTrim}
pub use Rattle.sig_auto.specs.Unfolded.{TakesAll, TreeWord}
pub use Rattle.sig_auto.specs.Ways.{entered, exit, gone, has, has_slot, is_skipped, land, leave, meets, onward, own}
pub use Rattle.sig_auto.specs.declared.behind.Behind.{Behind}
pub use Rattle.sig_auto.specs.declared.cell.Cell.{Cell}
pub use Rattle.sig_auto.specs.declared.class.Class.{Class}
pub use Rattle.sig_auto.specs.declared.class.Class.TheVariants.{Outside, Within}
pub use Rattle.sig_auto.specs.declared.joint.Joint.{Joint}
pub use Rattle.sig_auto.specs.declared.joint.Joints.{Joints}
