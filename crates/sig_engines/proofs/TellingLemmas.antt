-- The pairs of formats are settled one after another, and their lines are written.
use Rattle.std.specs.Borrow.{Bor}
use Rattle.std.proofs.Common.{◌≡◌, ℕ, ◌+◌, ◌<◌, ◌≤◌, List, [], ◌∷◌, ◌++◌, Bool, Option, None, Some, false, not, true, ◌*◌, ◌-◌, ◌/◌, append_assoc, arith, ap}
use Rattle.std.proofs.Common.{inl, inr, length, length-append, refl, subst, sym, take, ◌∙◌}
use Rattle.std.specs.Prelude.{All, ◌&&◌, cond, filter}
use Rattle.std.proofs.Math.Nat.{mul-le-mul}
use Rattle.std.proofs.Math.Seq.{take-append-add}
use Rattle.std.proofs.lemmas.Grind.{flat_map-append}
use Rattle.std.proofs.lemmas.List.{append-nil, length-map, map-append, take_all}
use Rattle.std.proofs.lemmas.List.Elements.{All-append, All-cons, All-nil, All-push}
use Rattle.std.proofs.lemmas.List.Filters.{length-filter_both}
use Rattle.std.proofs.lemmas.List.Sums.{sum_by-append, sum_by-cons}
use Rattle.sig_bits.specs.Device.{Adds, AddsFront}
use Rattle.sig_cert.specs.Pairs.{format_pairs}
use Rattle.sig_cert.proofs.Exports.{length-format_pairs}
use Rattle.sig_find.specs.declared.pair.PairDecision.{PairDecision}
use Rattle.sig_find.specs.declared.pair.PairDecision.TheVariants.{Ambiguous, Decided, Tried, Unknown}
use Rattle.sig_find.specs.declared.class.PairClass.{PairClass}
use Rattle.sig_find.specs.declared.class.PairClass.TheVariants.{Apart, Open, Over, Same, Under}
use Rattle.sig_table.specs.declared.ids.FormatId.{FormatId}
use Rattle.sig_table.specs.Views.{TableView}
use Rattle.sig_engines.specs.Asks.{asked_pairs, is_asked, needs_class}
use Rattle.sig_engines.specs.ClassTexts.{is_class}
use Rattle.sig_engines.specs.Conflicts.{AddsFirstPairs, AreCounts, AreFirst, IsBeforeSearch, IsClassOf, IsCounted, IsSettled, KnownPair, StopsPairs, asked_line}
use Rattle.sig_engines.specs.Conflicts.{HasRoom, class_count, classes_in, count_of, is_ambiguous, is_decided, is_unknown, is_unrelated, notes_of}
use Rattle.sig_engines.specs.Conflicts.{pair_line, pair_lines, pairs_in, pairs_of}
use Rattle.sig_engines.specs.Notes.{note_of, noted}
use Rattle.sig_engines.specs.Pairs.{AreTold, IsFileFault, IsPairCut, IsRankFault, IsTargetFault, IsTold}
use Rattle.sig_engines.specs.Ranking.{IsOfFormats}
use Rattle.sig_engines.specs.Witnesses.{KeepsWitness}
use Rattle.sig_engines.specs.declared.ask.ConflictsAsk.{ConflictsAsk}
use Rattle.sig_engines.specs.declared.counts.Counts.{Counts}
use Rattle.sig_engines.specs.declared.error.CutShort.{CutShort}
use Rattle.sig_engines.specs.declared.error.CutShort.TheVariants.{OutOfMemory, Write}
use Rattle.sig_engines.specs.declared.error.PairsFault.{PairsFault}
use Rattle.sig_engines.specs.declared.error.PairsFault.TheVariants.{CannotOpen, Cut, NoFile}
use Rattle.sig_engines.specs.declared.note.Note.{Note}
use Rattle.sig_engines.proofs.WriteLemmas.{adds_then}

-- ---- what is written

pub adds_nothing : (written : Option (List ℕ)) → Adds written [] written
adds_nothing None = tt
adds_nothing (Some written) = sym (append-nil written)

pub adds_front : (before after : Option (List ℕ)) (text : List ℕ) → Adds before text after → AddsFront before text after
adds_front before after text adds = (length text, omega arith, subst (λ t. Adds before t after) (sym (take_all (length text) text (omega arith))) adds)

-- a text is written, and then a front of the next
pub front_then : (before mid after : Option (List ℕ)) (a b : List ℕ) → Adds before a mid → AddsFront mid b after → AddsFront before (a ++ b) after
front_then before mid after a b adds (n, within, front) = (
  length a + n,
  (let long = length-append a b in omega (arith, long, within)),
  subst (λ t. Adds before t after) (sym (take-append-add a b n)) (adds_then before mid after a (take n b) adds front),
)

-- ---- what is counted

-- one pair more
count_more : (test : Option PairDecision → Bool) (known : List KnownPair) (k : KnownPair)
    → count_of test (known ++ k ∷ []) ≡ count_of test known + cond (test k.decision) 1 0
count_more test known k =
    let f : KnownPair → ℕ = λ k. cond (test k.decision) 1 0 in
    let one = sum_by-cons f k [] in
    sum_by-append f known (k ∷ []) ∙ ap (λ n. count_of test known + n) (one ∙ omega arith)

class_more : (class : PairClass) (known : List KnownPair) (k : KnownPair)
    → class_count (known ++ k ∷ []) class ≡ class_count known class + cond (is_class class k.class) 1 0
class_more class known k =
    let f : KnownPair → ℕ = λ k. cond (is_class class k.class) 1 0 in
    let one = sum_by-cons f k [] in
    sum_by-append f known (k ∷ []) ∙ ap (λ n. class_count known class + n) (one ∙ omega arith)

pub counts_more : (known : List KnownPair) (k : KnownPair) (old new : Counts) → AreCounts known old → IsCounted old new k.decision k.class
    → AreCounts (known ++ k ∷ []) new
counts_more known k old new are one = record {
  decided = one.decided ∙ ap (λ n. n + cond (is_decided k.decision) 1 0) are.decided ∙ sym (count_more is_decided known k);
  ambiguous = one.ambiguous ∙ ap (λ n. n + cond (is_ambiguous k.decision) 1 0) are.ambiguous ∙ sym (count_more is_ambiguous known k);
  unknown = one.unknown ∙ ap (λ n. n + cond (is_unknown k.decision) 1 0) are.unknown ∙ sym (count_more is_unknown known k);
  over = one.over ∙ ap (λ n. n + cond (is_class Over k.class) 1 0) are.over ∙ sym (class_more Over known k);
  under = one.under ∙ ap (λ n. n + cond (is_class Under k.class) 1 0) are.under ∙ sym (class_more Under known k);
  same = one.same ∙ ap (λ n. n + cond (is_class Same k.class) 1 0) are.same ∙ sym (class_more Same known k);
  apart = one.apart ∙ ap (λ n. n + cond (is_class Apart k.class) 1 0) are.apart ∙ sym (class_more Apart known k);
  opens = one.opens ∙ ap (λ n. n + cond (is_class Open k.class) 1 0) are.opens ∙ sym (class_more Open known k);
}

-- a pair that is passed over changes no count
pub none_counted : (counts : Counts) → IsCounted counts counts None None
none_counted counts = record {
  decided = omega arith;
  ambiguous = omega arith;
  unknown = omega arith;
  over = omega arith;
  under = omega arith;
  same = omega arith;
  apart = omega arith;
  opens = omega arith;
}

-- and has no class
and_false : (b : Bool) → false ≡ (b && false)
and_false true = refl
and_false false = refl

pub none_is_classed : (ask : ConflictsAsk) (table : TableView) (formats : ℕ × ℕ) → IsClassOf ask table formats None None
none_is_classed ask table formats = record { there = and_false (needs_class ask); is = tt }

-- the three of one pair are all of it
three_of : (d : Option PairDecision) → cond (is_unrelated d) 1 0 ≡ cond (is_decided d) 1 0 + cond (is_ambiguous d) 1 0 + cond (is_unknown d) 1 0
three_of None = refl
three_of (Some Decided) = refl
three_of (Some (Ambiguous s t file)) = refl
three_of (Some (Tried s t file)) = refl
three_of (Some (Unknown s t)) = refl

most_one : (d : Option PairDecision) → cond (is_unrelated d) 1 0 ≤ 1
most_one None = omega arith
most_one (Some decision) = omega arith

-- it has one class at most
most_one_class : (c : Option PairClass) → cond (is_class Over c) 1 0 + cond (is_class Under c) 1 0 + cond (is_class Same c) 1 0 + cond (is_class Apart c) 1 0
    + cond (is_class Open c) 1 0 ≤ 1
most_one_class None = omega arith
most_one_class (Some Over) = omega arith
most_one_class (Some Under) = omega arith
most_one_class (Some Same) = omega arith
most_one_class (Some Apart) = omega arith
most_one_class (Some Open) = omega arith

-- an unrelated pair is decided, ambiguous or unknown
pub sum_of_counts : (known : List KnownPair) → count_of is_unrelated known ≡ count_of is_decided known + count_of is_ambiguous known + count_of is_unknown known
sum_of_counts [] = refl
sum_of_counts (k ∷ known) =
    let one = three_of k.decision in
    let more = sum_of_counts known in
    let p = sum_by-cons (λ (k : KnownPair). cond (is_unrelated k.decision) 1 0) k known in
    let d = sum_by-cons (λ (k : KnownPair). cond (is_decided k.decision) 1 0) k known in
    let m = sum_by-cons (λ (k : KnownPair). cond (is_ambiguous k.decision) 1 0) k known in
    let u = sum_by-cons (λ (k : KnownPair). cond (is_unknown k.decision) 1 0) k known in
    omega (arith, one, more, p, d, m, u)

few_have_a_class : (known : List KnownPair) → class_count known Over + class_count known Under + class_count known Same + class_count known Apart + class_count
    known Open ≤ length known
few_have_a_class [] = omega arith
few_have_a_class (k ∷ known) =
    let one = most_one_class k.class in
    let more = few_have_a_class known in
    let o = sum_by-cons (λ (k : KnownPair). cond (is_class Over k.class) 1 0) k known in
    let u = sum_by-cons (λ (k : KnownPair). cond (is_class Under k.class) 1 0) k known in
    let s = sum_by-cons (λ (k : KnownPair). cond (is_class Same k.class) 1 0) k known in
    let a = sum_by-cons (λ (k : KnownPair). cond (is_class Apart k.class) 1 0) k known in
    let p = sum_by-cons (λ (k : KnownPair). cond (is_class Open k.class) 1 0) k known in
    omega (arith, one, more, o, u, s, a, p)

few_are_unrelated : (known : List KnownPair) → count_of is_unrelated known ≤ length known
few_are_unrelated [] = omega arith
few_are_unrelated (k ∷ known) =
    let p = sum_by-cons (λ (k : KnownPair). cond (is_unrelated k.decision) 1 0) k known in
    omega (arith, p, most_one k.decision, few_are_unrelated known)

-- ---- the first pairs

-- a pair that is asked for is the next of those that are
pub next_asked : (only : Option FormatId) (formats : ℕ × ℕ) (all rest : List (ℕ × ℕ)) → all ≡ formats ∷ rest → is_asked only formats ≡ true
    → filter (is_asked only) all ≡ formats ∷ filter (is_asked only) rest
next_asked only formats all rest is asked = ap (filter (is_asked only)) is ∙ ap
    (λ b. cond b (formats ∷ filter (is_asked only) rest) (filter (is_asked only) rest)) asked

-- one that is not is none of them
pub next_not_asked : (only : Option FormatId) (formats : ℕ × ℕ) (all rest : List (ℕ × ℕ)) → all ≡ formats ∷ rest → is_asked only formats ≡ false
    → filter (is_asked only) all ≡ filter (is_asked only) rest
next_not_asked only formats all rest is not_asked = ap (filter (is_asked only)) is ∙ ap
    (λ b. cond b (formats ∷ filter (is_asked only) rest) (filter (is_asked only) rest)) not_asked

first_more : (ask : ConflictsAsk) (table : TableView) (known : List KnownPair) (others later : List (ℕ × ℕ)) (k : KnownPair) → others ≡ k.formats ∷ later
    → AreFirst ask table known others → IsSettled ask table k → AreFirst ask table (known ++ k ∷ []) later
first_more ask table known others later k is are settled = record {
  at = are.at ∙ ap (λ l. pairs_of known ++ l) is ∙ sym (append_assoc (pairs_of known) (k.formats ∷ []) later) ∙ ap (λ l. l ++ later)
      (sym (map-append (λ (k : KnownPair). k.formats) known (k ∷ [])));
  settled = All-push (IsSettled ask table) known k are.settled settled;
}

lines_more : (ask : ConflictsAsk) (table : TableView) (known : List KnownPair) (k : KnownPair)
    → pair_lines ask table (known ++ k ∷ []) ≡ pair_lines ask table known ++ pair_line ask table k.formats k.decision k.class
lines_more ask table known k =
    flat_map-append (λ (k : KnownPair). pair_line ask table k.formats k.decision k.class) known (k ∷ []) ∙ ap (λ l. pair_lines ask table known ++ l)
    (append-nil (pair_line ask table k.formats k.decision k.class))

notes_more : (known : List KnownPair) (k : KnownPair) → notes_of (known ++ k ∷ []) ≡ notes_of known ++ noted k.formats k.decision k.class
notes_more known k =
    flat_map-append (λ (k : KnownPair). noted k.formats k.decision k.class) known (k ∷ []) ∙ ap (λ l. notes_of known ++ l)
    (append-nil (noted k.formats k.decision k.class))

-- the formats of a note are those of its pair
one_within : (table : TableView) (formats : ℕ × ℕ) (class : Option PairClass) → (formats.0 < length table.formats) × (formats.1 < length table.formats)
    → All (IsOfFormats table) (note_of formats class ∷ [])
one_within table formats class within = All-cons (IsOfFormats table) (note_of formats class) [] within (All-nil (IsOfFormats table))

noted_within : (table : TableView) (formats : ℕ × ℕ) → (formats.0 < length table.formats) × (formats.1 < length table.formats)
    → (decision : Option PairDecision) (class : Option PairClass) → All (IsOfFormats table) (noted formats decision class)
noted_within table formats within None class = All-nil (IsOfFormats table)
noted_within table formats within (Some Decided) class = All-nil (IsOfFormats table)
noted_within table formats within (Some (Ambiguous s t file)) class = one_within table formats class within
noted_within table formats within (Some (Tried s t file)) class = one_within table formats class within
noted_within table formats within (Some (Unknown s t)) class = one_within table formats class within

module _ (Made : List ℕ → List ℕ → Type 0) (ask : ConflictsAsk) (table : TableView) where
  -- the file of a pair is made, where one is asked for
  abbrev Keeps : KnownPair → Type 0
  Keeps k = KeepsWitness Made table ask.files k.formats k.decision

  pub begins_told : (counts : Counts) (before : Option (List ℕ)) → AreCounts [] counts
      → AreTold Made ask table (asked_pairs ask.only (length table.formats)) counts [] before before
  begins_told counts before are = record {
    known = [];
    are_first = record { at = refl; settled = All-nil (IsSettled ask table) };
    are_counts = are;
    are_notes = refl;
    within = All-nil (IsOfFormats table);
    files = All-nil Keeps;
    adds = adds_nothing before;
  }

  -- one pair more
  pub goes_told : (formats : ℕ × ℕ) (others later : List (ℕ × ℕ)) (old new : Counts) (old_notes new_notes : List Note) (before mid after : Option (List ℕ))
      → others ≡ formats ∷ later → (formats.0 < length table.formats) × (formats.1 < length table.formats)
      → AreTold Made ask table others old old_notes before mid → IsTold Made ask table formats old new old_notes new_notes mid after
      → AreTold Made ask table later new new_notes before after
  goes_told formats others later old new old_notes new_notes before mid after is within are one =
      let k : KnownPair = record { formats = formats; decision = one.decision; class = one.class } in
      record {
        known = are.known ++ k ∷ [];
        are_first = first_more ask table are.known others later k is are.are_first one.settled;
        are_counts = counts_more are.known k old new are.are_counts one.counts;
        are_notes = one.notes ∙ ap (λ l. l ++ noted formats one.decision one.class) are.are_notes ∙ sym (notes_more are.known k);
        within = subst (All (IsOfFormats table)) (sym one.notes) (All-append (IsOfFormats table) old_notes (noted formats one.decision one.class) are.within
            (noted_within table formats within one.decision one.class));
        files = All-push Keeps are.known k are.files one.file;
        adds = subst (λ l. Adds before l after) (sym (lines_more ask table are.known k))
            (adds_then before mid after (pair_lines ask table are.known) (pair_line ask table formats one.decision one.class) are.adds one.adds);
      }

  -- memory ran out between two pairs
  pub stops : {F : Type 0} (failed : F → Bool) (others : List (ℕ × ℕ)) (counts : Counts) (notes : List Note) (is_failed : Bool) (before after : Option (List ℕ))
      → AreTold Made ask table others counts notes before after → StopsPairs failed (Cut OutOfMemory) ask table is_failed before after
  stops failed others counts notes is_failed before after are = record {
    known = are.known;
    others = others;
    are_first = are.are_first;
    adds = are.adds;
  }

  first_are_told : (others : List (ℕ × ℕ)) (counts : Counts) (notes : List Note) (before mid after : Option (List ℕ))
      → AreTold Made ask table others counts notes before mid → after ≡ mid → AddsFirstPairs ask table before after
  first_are_told others counts notes before mid after are same = record {
    known = are.known;
    others = others;
    are_first = are.are_first;
    adds = subst (Adds before (pair_lines ask table are.known)) (sym same) are.adds;
  }

  -- a pair is not written whole
  pub ends_cut : {F : Type 0} (failed : F → Bool) (fault : PairsFault) (formats : ℕ × ℕ) (others later : List (ℕ × ℕ)) (counts : Counts) (notes : List Note)
      (is_failed : Bool) (before mid after : Option (List ℕ)) → others ≡ formats ∷ later
      → AreTold Made ask table others counts notes before mid → IsPairCut failed fault ask table formats is_failed mid after
      → StopsPairs failed fault ask table is_failed before after
  ends_cut failed (CannotOpen name) formats others later counts notes is_failed before mid after is are cut = absurd cut
  ends_cut failed (NoFile folder name) formats others later counts notes is_failed before mid after is are cut = (
    cut.0.0,
    record {
      known = are.known;
      formats = formats;
      others = later;
      is_named = cut.0.1;
      are_first = subst (AreFirst ask table are.known) is are.are_first;
      adds = subst (Adds before (pair_lines ask table are.known)) (sym cut.1) are.adds;
    },
  )
  ends_cut failed (Cut Write) formats others later counts notes is_failed before mid after is are cut = elim cut [
    | inl front ↦
        let one = front.1 in
        let k : KnownPair = record { formats = formats; decision = one.decision; class = one.class } in
        inl (
          front.0,
          record {
            known = are.known ++ k ∷ [];
            others = later;
            are_first = first_more ask table are.known others later k is are.are_first one.settled;
            text = pair_lines ask table (are.known ++ k ∷ []);
            is_text = inl refl;
            adds = subst (λ l. AddsFront before l after) (sym (lines_more ask table are.known k))
                (front_then before mid after (pair_lines ask table are.known) (pair_line ask table formats one.decision one.class) are.adds one.adds);
          },
        )
    | inr made ↦ inr (made.0, first_are_told others counts notes before mid after are made.1)
  ]
  ends_cut failed (Cut OutOfMemory) formats others later counts notes is_failed before mid after is are cut =
      first_are_told others counts notes before mid after are cut

  -- the priority file is not written
  pub rank_stops : {F : Type 0} (failed : F → Bool) (fault : PairsFault) (others : List (ℕ × ℕ)) (counts : Counts) (notes : List Note) (is_failed : Bool)
      (before after : Option (List ℕ)) → AreTold Made ask table others counts notes before after
      → IsRankFault failed fault → StopsPairs failed fault ask table is_failed before after
  rank_stops failed (CannotOpen name) others counts notes is_failed before after are fault = absurd fault
  rank_stops failed (NoFile folder name) others counts notes is_failed before after are fault = absurd fault
  rank_stops failed (Cut Write) others counts notes is_failed before after are fault =
      inr (fault, first_are_told others counts notes before after after are refl)
  rank_stops failed (Cut OutOfMemory) others counts notes is_failed before after are fault = first_are_told others counts notes before after after are refl

-- before the first pair
pub none_yet : {F : Type 0} (failed : F → Bool) (ask : ConflictsAsk) (table : TableView) (is_failed : Bool) (before : Option (List ℕ))
    → StopsPairs failed (Cut OutOfMemory) ask table is_failed before before
none_yet failed ask table is_failed before = record {
  known = [];
  others = asked_pairs ask.only (length table.formats);
  are_first = record { at = refl; settled = All-nil (IsSettled ask table) };
  adds = adds_nothing before;
}

-- and before that a folder or a file is not made
pub target_stops : {F : Type 0} (failed : F → Bool) (fault : PairsFault) (ask : ConflictsAsk) (table : TableView) (is_failed : Bool)
    (before after : Option (List ℕ)) → IsTargetFault fault ask → StopsPairs failed fault ask table is_failed before after
target_stops failed (CannotOpen name) ask table is_failed before after fault = fault
target_stops failed (NoFile folder name) ask table is_failed before after fault = absurd fault
target_stops failed (Cut cut) ask table is_failed before after fault = absurd fault

-- what is not made in the search is none of what is made before it
pub cut_is_searched : {F : Type 0} (failed : F → Bool) (fault : PairsFault) (ask : ConflictsAsk) (table : TableView) (formats : ℕ × ℕ) (is_failed : Bool)
    (before after : Option (List ℕ)) → IsPairCut failed fault ask table formats is_failed before after → ¬ IsBeforeSearch fault
cut_is_searched failed (CannotOpen name) ask table formats is_failed before after cut = absurd cut
cut_is_searched failed (NoFile folder name) ask table formats is_failed before after cut = λ none. none
cut_is_searched failed (Cut cut) ask table formats is_failed before after is = λ none. none

pub rank_is_searched : {F : Type 0} (failed : F → Bool) (fault : PairsFault) → IsRankFault failed fault → ¬ IsBeforeSearch fault
rank_is_searched failed (CannotOpen name) fault = absurd fault
rank_is_searched failed (NoFile folder name) fault = absurd fault
rank_is_searched failed (Cut cut) fault = λ none. none

-- ---- the last line

few_are_asked : (test : ℕ × ℕ → Bool) (pairs : List (ℕ × ℕ)) → length (filter test pairs) ≤ length pairs
few_are_asked test pairs =
    let both = length-filter_both test (λ p. not (test p)) (λ p. refl) pairs in
    omega (arith, both)

-- the counts are few
few_told : (Made : List ℕ → List ℕ → Type 0) (ask : ConflictsAsk) (table : TableView) (others : List (ℕ × ℕ)) (counts : Counts) (notes : List Note)
    (before after : Option (List ℕ)) → AreTold Made ask table others counts notes before after
    → pairs_in counts + length others ≤ length (format_pairs (length table.formats))
few_told Made ask table others counts notes before after are =
    let asked = few_are_asked (is_asked ask.only) (format_pairs (length table.formats)) in
    let all = ap length are.are_first.at in
    let long = length-append (pairs_of are.known) others in
    let same = length-map are.known (λ (k : KnownPair). k.formats) in
    let sum = sum_of_counts are.known in
    let few = few_are_unrelated are.known in
    omega (arith, asked, all, long, same, sum, few, are.are_counts.decided, are.are_counts.ambiguous, are.are_counts.unknown)

few_classes_told : (Made : List ℕ → List ℕ → Type 0) (ask : ConflictsAsk) (table : TableView) (others : List (ℕ × ℕ)) (counts : Counts) (notes : List Note)
    (before after : Option (List ℕ)) → AreTold Made ask table others counts notes before after
    → classes_in counts + length others ≤ length (format_pairs (length table.formats))
few_classes_told Made ask table others counts notes before after are =
    let asked = few_are_asked (is_asked ask.only) (format_pairs (length table.formats)) in
    let all = ap length are.are_first.at in
    let long = length-append (pairs_of are.known) others in
    let same = length-map are.known (λ (k : KnownPair). k.formats) in
    let few = few_have_a_class are.known in
    omega (arith, asked, all, long, same, few, are.are_counts.over, are.are_counts.under, are.are_counts.same, are.are_counts.apart, are.are_counts.opens)

-- so there is room for one more
room_for_one : (n sum left long : ℕ) → n ≤ 1000 → n * (n - 1) / 2 ≡ long → sum + left ≤ long → sum < 4294967295
room_for_one n sum left long few is within =
    let less : n - 1 ≤ 1000 = omega arith in
    let product = mul-le-mul few less in
    omega (arith, product, is, within)

pub has_room : (Made : List ℕ → List ℕ → Type 0) (ask : ConflictsAsk) (table : TableView) (others : List (ℕ × ℕ)) (counts : Counts) (notes : List Note)
    (before after : Option (List ℕ)) (n : ℕ) → n ≤ 1000 → n ≡ length table.formats → AreTold Made ask table others counts notes before after → HasRoom counts
has_room Made ask table others counts notes before after n few count are = record {
  pairs = room (pairs_in counts) (few_told Made ask table others counts notes before after are);
  classes = room (classes_in counts) (few_classes_told Made ask table others counts notes before after are);
}
  where
    room : (sum : ℕ) → sum + length others ≤ length (format_pairs (length table.formats)) → sum < 4294967295
    room sum fits =
        room_for_one n sum (length others) (length (format_pairs n)) few (length-format_pairs n)
        (subst (λ k. sum + length others ≤ length (format_pairs k)) (sym count) fits)

-- ---- one pair

-- of related formats no file is kept
pub no_file : (Made : List ℕ → List ℕ → Type 0) (table : TableView) (files : Option (Bor (List ℕ))) (formats : ℕ × ℕ)
    → KeepsWitness Made table files formats None
no_file Made table None formats = tt
no_file Made table (Some folder) formats = tt

-- its line is written
pub pair_is_told : (Made : List ℕ → List ℕ → Type 0) (ask : ConflictsAsk) (table : TableView) (formats : ℕ × ℕ) (decision : PairDecision)
    (class : Option PairClass) (old new : Counts) (old_notes new_notes : List Note) (line : List ℕ) (before after : Option (List ℕ))
    → IsSettled ask table (record { formats = formats; decision = Some decision; class = class })
    → IsCounted old new (Some decision) class → new_notes ≡ old_notes ++ noted formats (Some decision) class
    → KeepsWitness Made table ask.files formats (Some decision) → line ≡ asked_line ask table formats decision class → Adds before line after
    → IsTold Made ask table formats old new old_notes new_notes before after
pair_is_told Made ask table formats decision class old new old_notes new_notes line before after settled counts notes file is adds = record {
  decision = Some decision;
  class = class;
  settled = settled;
  counts = counts;
  notes = notes;
  file = file;
  adds = subst (λ l. Adds before l after) is adds;
}

-- a write of it failed
pub line_is_cut : {F : Type 0} (failed : F → Bool) (e : CutShort) (ask : ConflictsAsk) (table : TableView) (formats : ℕ × ℕ) (decision : PairDecision)
    (class : Option PairClass) (line : List ℕ) (is_failed : Bool) (before after : Option (List ℕ))
    → IsSettled ask table (record { formats = formats; decision = Some decision; class = class })
    → line ≡ asked_line ask table formats decision class → (e ≡ Write) × (is_failed ≡ true) × AddsFront before line after
    → IsPairCut failed (Cut e) ask table formats is_failed before after
line_is_cut failed e ask table formats decision class line is_failed before after settled is cut =
    subst (λ e. IsPairCut failed (Cut e) ask table formats is_failed before after) (sym cut.0) (inl (
      cut.1,
      record {
        decision = Some decision;
        class = class;
        settled = settled;
        adds = subst (λ l. AddsFront before l after) is cut.2;
      },
    ))

-- its file was not made
pub file_is_cut : {F : Type 0} (failed : F → Bool) (fault : PairsFault) (ask : ConflictsAsk) (table : TableView) (formats : ℕ × ℕ) (is_failed : Bool)
    (before : Option (List ℕ)) → IsFileFault failed fault ask table formats → IsPairCut failed fault ask table formats is_failed before before
file_is_cut failed (CannotOpen name) ask table formats is_failed before fault = absurd fault
file_is_cut failed (NoFile folder name) ask table formats is_failed before fault = (fault, refl)
file_is_cut failed (Cut Write) ask table formats is_failed before fault = inr (fault, refl)
file_is_cut failed (Cut OutOfMemory) ask table formats is_failed before fault = refl
