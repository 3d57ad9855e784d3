-- Where gaps end.
use Rattle.std.proofs.Common.{ℕ, ◌+◌, ◌-◌, ◌≤◌, ◌<◌, List, length, min, arith, get_or, Fits, w8, Option, Some, None}
use Rattle.std.specs.Prelude.{slice_range}
use Rattle.std.proofs.lemmas.List.{get_or_default}
use Rattle.std.proofs.lemmas.List.Elements.{All-drop, All-take}
use Rattle.sig_bits.specs.Bytes.{IsBytes}
use Rattle.sig_expr.specs.declared.item.Item.TheVariants as item
use Rattle.sig_expr.specs.Words.{IsAtMost, Word}
use Rattle.sig_match.specs.declared.whole.frontier.Interval.{Interval}
use Rattle.sig_match.specs.Frontiers.{IsWithin, Reaches}
use Rattle.sig_match.specs.Gaps.{gap_end}
use Rattle.sig_match.proofs.ReachLemmas.{length-slice_range}

-- the members of a slice of bytes are bytes
pub IsBytes-from_slice : (xs : List ℕ) → ((i : ℕ) → Fits w8 (get_or xs i 0)) → IsBytes xs
IsBytes-from_slice xs fits k d at =
    let fit : Fits w8 (get_or xs k 0) = fits k in
    rw (get_or_default xs k d 0 at) (omega arith)

-- the bytes of a part of a file
pub IsBytes-slice_range : (file : List ℕ) (a e : ℕ) → IsBytes file → IsBytes (slice_range file a e)
IsBytes-slice_range file a e bytes = All-take (λ b. b < 256) (e - a) _ (All-drop (λ b. b < 256) a file bytes)

-- a gap that begins in the interval ends from its least end to its greatest one
pub Reaches-gap : (min_len : ℕ) (max : Option ℕ) (file : List ℕ) (x : Interval) (o : ℕ) → Reaches (Word (item.Gap min_len max)) file (IsWithin x) o
    → (x.from + min_len ≤ o) × (o ≤ gap_end (length file) x.to max)
Reaches-gap min_len None file x o r =
    let order = r.in_order in
    let fits = r.within in
    let low = r.is_start.0 in
    let least = r.is_word.1 in
    let len = length-slice_range file r.start o r.in_order r.within in
    (omega arith, omega arith)
Reaches-gap min_len (Some max) file x o r =
    let order = r.in_order in
    let fits = r.within in
    let low = r.is_start.0 in
    let high = r.is_start.1 in
    let least = r.is_word.1 in
    let greatest = r.is_word.2 in
    let len = length-slice_range file r.start o r.in_order r.within in
    (omega arith, omega arith)

-- the converse, for an interval and a gap that are not out of order
pub Reaches-gap_at : (min_len : ℕ) (max : Option ℕ) (file : List ℕ) (x : Interval) (o : ℕ) → IsBytes file → x.from ≤ x.to → IsAtMost max min_len
    → x.from + min_len ≤ o → o ≤ gap_end (length file) x.to max → Reaches (Word (item.Gap min_len max)) file (IsWithin x) o
Reaches-gap_at min_len None file x o bytes order gap low high =
    let s : ℕ = min x.to (o - min_len) in
    let start_low : x.from ≤ s = omega arith in
    let start_high : s ≤ x.to = omega arith in
    let s_order : s ≤ o = omega arith in
    let len = length-slice_range file s o s_order high in
    record {
      start = s;
      is_start = (start_low, start_high);
      in_order = s_order;
      within = high;
      is_word = (IsBytes-slice_range file s o bytes, omega arith, tt);
    }
Reaches-gap_at min_len (Some max) file x o bytes order gap low high =
    let s : ℕ = min x.to (o - min_len) in
    let start_low : x.from ≤ s = omega arith in
    let start_high : s ≤ x.to = omega arith in
    let s_order : s ≤ o = omega arith in
    let fits : o ≤ length file = omega arith in
    let len = length-slice_range file s o s_order fits in
    record {
      start = s;
      is_start = (start_low, start_high);
      in_order = s_order;
      within = fits;
      is_word = (IsBytes-slice_range file s o bytes, omega arith, omega arith);
    }

-- an empty gap stands everywhere in a file
pub Reaches-no_gap : (file : List ℕ) (S : ℕ → Type 0) (a : ℕ) → IsBytes file → a ≤ length file → S a → Reaches (Word (item.Gap 0 (Some 0))) file S a
Reaches-no_gap file S a bytes within h =
    let len = length-slice_range file a a (omega arith) within in
    record {
      start = a;
      is_start = h;
      in_order = omega arith;
      within = within;
      is_word = (IsBytes-slice_range file a a bytes, omega arith, omega arith);
    }
