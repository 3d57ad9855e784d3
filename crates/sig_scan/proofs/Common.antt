-- The names that most proofs cite, passed on from one place. Declares nothing.
pub use Rattle.std.proofs.Common.{[], ◌%◌, ◌*◌, ◌++◌, ◌+◌, ◌-◌, ◌/◌, ◌<◌, ◌^◌, ◌↔◌, ◌∙◌, ◌∷◌, ◌≡◌, ◌≢◌, ◌≤◌, ◌⊎◌, All, Bool, Global, List, None, Option, Some}
pub use Rattle.std.proofs.Common.{Vec, add-one, add-zero, ap, append_assoc, ap₂, arith, bit_and, bit_or, cond, drop, drop-cons, eq-eqb, eqb, false, get_or}
pub use Rattle.std.proofs.Common.{get_or-set_other, get_or-set_same, inl, inr, leb, length, length-append, ltb, map, max, min, nat_lt, not, refl, replicate}
pub use Rattle.std.proofs.Common.{rules, slice_index, subst, suc, sym, take, take-add, true, vec_capacity, vec_len, w64, w8, zero, ℕ}
pub use Rattle.std.proofs.Math.ListN.{set}
pub use Rattle.std.proofs.Math.Seq.{drop-append-add, get_or-append_seam, take-append-add}
pub use Rattle.std.proofs.lemmas.Bool.{cases_Bool, cases_eq, cases_lt, false≢true, le-leb, leb-true, lt-ltb, ltb-true, or_left, or_right}
pub use Rattle.std.proofs.lemmas.List.{append-nil, drop-append-le, drop-drop, drop-take, drop_all, drop_at, drop_more, get_or-append-add, get_or-drop}
pub use Rattle.std.proofs.lemmas.List.{get_or-map, get_or-take, get_or_append_left, get_or_default, get_or_past, length-drop, length-map, length-replicate}
pub use Rattle.std.proofs.lemmas.List.{length-set, length-take-le, map_more, map_push, nil_from_length, same_from_push, take-append-drop, take-append-le}
pub use Rattle.std.proofs.lemmas.List.{take-take, take_all, take_at, take_more, take_rest, with_items_is}
pub use Rattle.std.proofs.lemmas.List.Edits.{between_more, between_none, length-paste, take-paste}
pub use Rattle.std.proofs.lemmas.List.Elements.{All-append, All-cons, All-contains, All-drop, All-get_or, All-head, All-map, All-more, All-nil, All-push}
pub use Rattle.std.proofs.lemmas.List.Elements.{All-replicate, All-same, All-tail, All-take, All-weaker, Contains-append_left, Contains-push}
pub use Rattle.std.proofs.lemmas.List.Elements.{Contains-push_cases}
pub use Rattle.std.proofs.lemmas.List.Folds.{drop_split}
pub use Rattle.std.proofs.lemmas.List.Sums.{sum_by-cons, sum_by_push}
pub use Rattle.std.proofs.lemmas.Nat.{and_le_l}
pub use Rattle.std.proofs.lemmas.Nat.Bits.{bit_at-lt, bit_at_and, bit_at_cat_high, bit_at_cat_low, bit_at_not, bit_at_ones, bit_at_or}
pub use Rattle.std.proofs.lemmas.Option.{get_or_from_slice_get, slice_get-get_or, slice_get-map, slice_get_cases, slice_get_past, slice_get_read}
pub use Rattle.std.proofs.lemmas.Option.{slice_get_within}
pub use Rattle.std.proofs.lemmas.Result.{IfOk-weaker, on_ok_weaker}
pub use Rattle.std.proofs.lemmas.Simd.{bit_mask_l, bitmask_splat, get_or-chunk, length-chunk}
pub use Rattle.std.specs.Int.{bit_at, bit_not}
pub use Rattle.std.specs.List.{copy_within, slice_get}
pub use Rattle.std.specs.Option.{ForSome, option_map, unwrap_or}
pub use Rattle.std.specs.Prelude.{⊤, IfSome, IsSomeAnd, IsTrue, MatchOption, count_by, is_some, slice_range, sum_by}
pub use Rattle.std.specs.Simd.Lanes.{mask_l, top, zip2}
pub use Rattle.std.specs.Vec.{with_items}
pub use Rattle.memchr.specs.Find.{FindsNeedle, IsFirst, Nowhere, OccursAt, Passes, is_byte2}
pub use Rattle.sig_bits.proofs.Exports.{zeros_have_no_bit}
unfoldable pub use Rattle.sig_bits.specs.BitSets.{HasBit}
pub use Rattle.sig_bits.specs.Bytes.{IsBytes}
pub use Rattle.sig_bits.specs.Device.{Gives, IsAtEnd}
pub use Rattle.sig_expr.proofs.Exports.{IsBefore-cases}
pub use Rattle.sig_expr.specs.Profile.{AlternativesSound, AtomSound, AtomsSound, ItemSound, ItemsSound}
pub use Rattle.sig_expr.specs.Words.{AlternativeWord, IsAtMost, IsBefore, Lang, PartWord, Word}
pub use Rattle.sig_expr.specs.declared.item.Atom.{Atom}
pub use Rattle.sig_expr.specs.declared.item.Item.{Item}
pub use Rattle.sig_table.proofs.Exports.{slice_get-within}
unfoldable pub use Rattle.sig_table.specs.Slots.{slot_count}
pub use Rattle.sig_table.specs.Slots.{above_rows, atom_slots, below_rows, between_rows, bracket_slots, item_slots}
pub use Rattle.sig_table.specs.Standing.{Cut, Hits, Stands}
pub use Rattle.sig_table.specs.Tables.{IsSequence}
pub use Rattle.sig_table.specs.Views.{SequenceView, SignatureView, TableView}
pub use Rattle.sig_table.specs.declared.position.Position.{Position}
pub use Rattle.sig_core.specs.FirstHits.{MarksHits}
pub use Rattle.sig_core.specs.Hits.{HitFormats, HitFormatsOfSome}
pub use Rattle.sig_core.specs.declared.results.Hit.{Hit}
pub use Rattle.sig_scan.specs.Courses.{AddsCourse, AreCourses, AreCoursesOf, AreHeld, AreNeeded, AreSequencesOf, HasSequence, IsBoundedCourse, IsHeld}
pub use Rattle.sig_scan.specs.Courses.{IsProgramOf, IsWholeProgramOf, ProgramView, StandsIn, course_if, course_in}
unfoldable pub use Rattle.sig_scan.specs.Filters.{list_of, mark_of}
pub use Rattle.sig_scan.specs.Filters.{AddsEntry, AreKept, AreLiteralsOf, AreLowered, AreMissed, AreOwned, HasWindow, IsEntered, IsFilter, IsListed, IsPassedAt}
pub use Rattle.sig_scan.specs.Filters.{IsUnlisted, IsWindow, behind_of, four_at, text_of}
pub use Rattle.sig_scan.specs.Frontiers.{EndsAt, GainsBits, HasBits, IsBetween, IsLeast, IsLeastEnd, Reaches}
pub use Rattle.sig_scan.specs.Heads.{AreAsked, AreHeadsOf, HasHead, IsHeadOf, MayHave}
pub use Rattle.sig_scan.specs.Lengths.{AreBounded, HasLength, IsBoundedItem, item_span, longest_of, part_length, parts_length, span}
pub use Rattle.sig_scan.specs.Literals.{AreFixed, BeginsWith, Fits, IsEitherOf, IsLiteralOf, LiteralView, StandsAt, byte_of}
pub use Rattle.sig_scan.specs.Marks.{HasWord, MarksBelow}
pub use Rattle.sig_scan.specs.Passes.{ArePast}
pub use Rattle.sig_scan.specs.Placed.{Lies}
pub use Rattle.sig_scan.specs.Scans.{AllWait, AreDone, AreExcluded, AreFirst, AreMarked, BufferView, EndsPast, HasLastBytes, HasRead, HasSight, InTurnAt}
pub use Rattle.sig_scan.specs.Scans.{IsBase, IsFirstOf, IsScanOf, IsShort, IsShortCourse, Knows, NeverStands, ScanView, TailIsShort, WaitsAt, WaitsOn}
pub use Rattle.sig_scan.specs.Stages.{CourseStands, CourseView, Follows, InTurn, IsFirstEnd, StageEnds, StageView, TailStands, TailStandsIfAny, TailView, Waits}
pub use Rattle.sig_scan.specs.Stages.{all_but_last, course_of, last_items, stages_of}
pub use Rattle.sig_scan.specs.declared.filter.Entry.{Entry}
pub use Rattle.sig_scan.specs.declared.head.Head.{Head}
pub use Rattle.sig_scan.specs.declared.program.Course.{Course}
pub use Rattle.sig_scan.specs.declared.state.State.{State}
