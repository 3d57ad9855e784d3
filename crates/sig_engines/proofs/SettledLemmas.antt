-- What all pairs tell together: the last line, and where it counts no pair that is not decided, the table.
use Rattle.std.proofs.Common.{◌≡◌, ℕ, zero, suc, ◌+◌, ◌<◌, List, [], ◌∷◌, ◌++◌, All, Bool, Contains, Option, None, Some, ap, arith, false, true, inl, inr}
use Rattle.std.proofs.Common.{length, refl, subst, sym, ◌∙◌}
use Rattle.std.specs.Prelude.{cond, filter}
use Rattle.std.proofs.lemmas.Bool.{false≢true}
use Rattle.std.proofs.lemmas.List.{append-nil}
use Rattle.std.proofs.lemmas.List.Elements.{All-head, All-tail}
use Rattle.std.proofs.lemmas.List.Sums.{sum_by-cons}
use Rattle.sig_bits.specs.Device.{Adds, AddsFront}
use Rattle.sig_cert.specs.Deciding.{Decided as TableDecided}
use Rattle.sig_cert.specs.Pairs.{format_pairs}
use Rattle.sig_cert.proofs.Exports.{first_or_later, is_format_pair, none_is_there}
use Rattle.sig_find.specs.FormatPairs.{AreNeverLeft}
use Rattle.sig_find.specs.declared.pair.PairDecision.{PairDecision}
use Rattle.sig_find.specs.declared.pair.PairDecision.TheVariants.{Ambiguous, Decided, Tried, Unknown}
use Rattle.sig_table.specs.declared.ids.FormatId.{FormatId}
use Rattle.sig_find.proofs.Exports.{decided_pairs_decide}
use Rattle.sig_table.specs.Tables.{IsTable}
use Rattle.sig_table.specs.Views.{TableView}
use Rattle.sig_engines.specs.Conflicts.{AddsConflicts, AreCounts, IsSettled, KnownPair, StopsPairs, class_count, count_of, counted_class, counts_line}
use Rattle.sig_engines.specs.Conflicts.{four_counts, is_ambiguous, is_decided, is_unknown, is_unrelated, last_line, last_lines, notes_of, pair_lines, pairs_in}
use Rattle.sig_engines.specs.Conflicts.{pairs_of}
use Rattle.sig_engines.specs.Asks.{asked_pairs, is_asked, shows_class}
use Rattle.sig_engines.specs.ClassTexts.{classes_if_asked}
use Rattle.sig_engines.specs.Forced.{Forces}
use Rattle.sig_engines.specs.Notes.{summary_if_asked}
use Rattle.sig_engines.specs.Pairs.{AreTold}
use Rattle.sig_engines.specs.declared.ask.ConflictsAsk.{ConflictsAsk}
use Rattle.sig_engines.specs.Tellings.{Tells}
use Rattle.sig_engines.specs.declared.counts.Counts.{Counts}
use Rattle.sig_engines.specs.declared.error.CutShort.{CutShort}
use Rattle.sig_engines.specs.declared.error.CutShort.TheVariants.{Write}
use Rattle.sig_engines.specs.declared.error.PairsFault.TheVariants.{Cut}
use Rattle.sig_engines.specs.declared.note.Note.{Note}
use Rattle.sig_engines.proofs.WriteLemmas.{adds_then}
use Rattle.sig_engines.proofs.TellingLemmas.{front_then, sum_of_counts}

-- ---- the last line

-- the counts of the classes are those of the pairs
same_classes : (asked : Bool) (known : List KnownPair) (counts : Counts) → AreCounts known counts
    → classes_if_asked asked (counted_class counts) ≡ classes_if_asked asked (class_count known)
same_classes true known counts are = rw (are.over, are.under, are.same, are.apart, are.opens) refl
same_classes false known counts are = refl

-- the line of the counts is the last line
line_of_all : (ask : ConflictsAsk) (known : List KnownPair) (counts : Counts) → AreCounts known counts
    → counts_line (shows_class ask) counts ≡ last_line ask known
line_of_all ask known counts are =
    let sum = sum_of_counts known in
    let pairs : pairs_in counts ≡ count_of is_unrelated known = omega (arith, sum, are.decided, are.ambiguous, are.unknown) in
    let four : four_counts (pairs_in counts) counts.decided counts.ambiguous counts.unknown ≡ four_counts (count_of is_unrelated known)
    (count_of is_decided known) (count_of is_ambiguous known) (count_of is_unknown known) =
    rw (pairs, are.decided, are.ambiguous, are.unknown) refl in
    ap (λ l. l ++ classes_if_asked (shows_class ask) (counted_class counts) ++ 10 ∷ []) four
    ∙ ap (λ l. four_counts (count_of is_unrelated known) (count_of is_decided known) (count_of is_ambiguous known) (count_of is_unknown known) ++ l ++ 10 ∷ [])
    (same_classes (shows_class ask) known counts are)

module _ (Made : List ℕ → List ℕ → Type 0) (ask : ConflictsAsk) (table : TableView) (counts : Counts) (notes : List Note) (before mid after : Option (List ℕ))
    (are : AreTold Made ask table [] counts notes before mid) (lines : List ℕ)
    (is : lines ≡ summary_if_asked ask.summary table notes ++ counts_line (shows_class ask) counts) where
  lines_of_all : lines ≡ last_lines ask table are.known
  lines_of_all = is ∙ ap (λ n. summary_if_asked ask.summary table n ++ counts_line (shows_class ask) counts) are.are_notes ∙ ap
      (λ l. summary_if_asked ask.summary table (notes_of are.known) ++ l) (line_of_all ask are.known counts are.are_counts)

  pub all_answered : (is_yes : Bool) (refused : List ℕ) → Adds mid lines after → (is_yes ≡ true → (counts.ambiguous ≡ 0) × (counts.unknown ≡ 0))
      → (is_yes ≡ false → 0 < counts.ambiguous + counts.unknown) → Forces Made table ask.budget ask.priorities notes refused
      → AddsConflicts Made is_yes refused ask table before after
  all_answered is_yes refused adds when_yes when_no forces = record {
    known = are.known;
    are_all = are.are_first;
    yes = λ h. (sym are.are_counts.ambiguous ∙ (when_yes h).0, sym are.are_counts.unknown ∙ (when_yes h).1);
    no = λ h. (let some = when_no h in omega (arith, some, are.are_counts.ambiguous, are.are_counts.unknown));
    adds = adds_then before mid after (pair_lines ask table are.known) (last_lines ask table are.known) are.adds
        (subst (λ l. Adds mid l after) lines_of_all adds);
    files = are.files;
    forces = subst (λ n. Forces Made table ask.budget ask.priorities n refused) are.are_notes forces;
  }

  -- the last lines are not written whole
  pub last_is_cut : {F : Type 0} (failed : F → Bool) (e : CutShort) (is_failed : Bool) → (e ≡ Write) × (is_failed ≡ true) × AddsFront mid lines after
      → StopsPairs failed (Cut e) ask table is_failed before after
  last_is_cut failed e is_failed cut =
      subst (λ e. StopsPairs failed (Cut e) ask table is_failed before after) (sym cut.0) (inl (
        cut.1,
        record {
          known = are.known;
          others = [];
          are_first = are.are_first;
          text = pair_lines ask table are.known ++ last_lines ask table are.known;
          is_text = inr (refl, refl);
          adds = front_then before mid after (pair_lines ask table are.known) (last_lines ask table are.known) are.adds
              (subst (λ l. AddsFront mid l after) lines_of_all cut.2);
        },
      ))

-- a no counts a pair that is not decided
pub some_left : (m u : ℕ) (is_yes : Bool) → ((m ≡ 0) × (u ≡ 0) → is_yes ≡ true) → is_yes ≡ false → 0 < m + u
some_left zero zero is_yes none is = absurd (false≢true (sym is ∙ none (refl, refl)))
some_left zero (suc u) is_yes none is = omega arith
some_left (suc m) u is_yes none is = omega arith

-- ---- the table

-- where it is neither ambiguous nor unknown, no file leaves both
never_left : (table : TableView) (formats : ℕ × ℕ) (d : Option PairDecision) → ◌≡◌ {A = ℕ} (cond (is_ambiguous d) 1 0) 0
    → ◌≡◌ {A = ℕ} (cond (is_unknown d) 1 0) 0 → Tells table formats d → AreNeverLeft table formats
never_left table formats None ambiguous unknown tells = tells
never_left table formats (Some Decided) ambiguous unknown tells = tells
never_left table formats (Some (Ambiguous s t file)) ambiguous unknown tells = absurd (omega (arith, ambiguous))
never_left table formats (Some (Tried s t file)) ambiguous unknown tells = absurd (omega (arith, ambiguous))
never_left table formats (Some (Unknown s t)) ambiguous unknown tells = absurd (omega (arith, unknown))

none_left : (ask : ConflictsAsk) (table : TableView) (known : List KnownPair) → All (IsSettled ask table) known → count_of is_ambiguous known ≡ 0
    → count_of is_unknown known ≡ 0 → (formats : ℕ × ℕ) → Contains (pairs_of known) formats → AreNeverLeft table formats
none_left ask table [] settled ambiguous unknown formats there = absurd (none_is_there formats there)
none_left ask table (k ∷ known) settled ambiguous unknown formats there =
    let m = sum_by-cons (λ (k : KnownPair). cond (is_ambiguous k.decision) 1 0) k known in
    let u = sum_by-cons (λ (k : KnownPair). cond (is_unknown k.decision) 1 0) k known in
    elim (first_or_later k.formats (pairs_of known) formats there) [
      | inl same ↦ subst (AreNeverLeft table) same (never_left table k.formats k.decision (omega (arith, m, ambiguous)) (omega (arith, u, unknown))
          (All-head (IsSettled ask table) k known settled).tells)
      | inr later ↦ none_left ask table known (All-tail (IsSettled ask table) k known settled) (omega (arith, m, ambiguous)) (omega (arith, u, unknown)) formats
          later
    ]

-- with no format named each pair is asked for
all_are_asked : (pairs : List (ℕ × ℕ)) → filter (is_asked None) pairs ≡ pairs
all_are_asked [] = refl
all_are_asked (pair ∷ pairs) = ap (λ l. pair ∷ l) (all_are_asked pairs)

pub conflicts_decide : (Made : List ℕ → List ℕ → Type 0) (is_yes : Bool) (refused : List ℕ) (ask : ConflictsAsk) (table : TableView)
    (before after : Option (List ℕ)) → IsTable table → AddsConflicts Made is_yes refused ask table before after → is_yes ≡ true → ask.only ≡ None
    → TableDecided table
conflicts_decide Made is_yes refused ask table before after is adds all_known each =
    let none = adds.yes all_known in
    let asked : asked_pairs None (length table.formats) ≡ pairs_of adds.known =
    subst (λ (only : Option FormatId). asked_pairs only (length table.formats) ≡ pairs_of adds.known) each
    (adds.are_all.at ∙ append-nil (pairs_of adds.known)) in
    let all : format_pairs (length table.formats) ≡ pairs_of adds.known = sym (all_are_asked (format_pairs (length table.formats))) ∙ asked in
    decided_pairs_decide table is (λ a b order known unrelated.
    none_left ask table adds.known adds.are_all.settled none.0 none.1 (a, b)
    (subst (λ l. Contains l (a, b)) all (is_format_pair (length table.formats) a b order known)))
