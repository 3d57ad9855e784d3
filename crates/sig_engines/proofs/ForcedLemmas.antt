-- The forced pairs are tried one after another, and no format loses its last file by those that are added.
use Rattle.std.specs.Borrow.{Bor}
use Rattle.std.proofs.Common.{◌≡◌, ◌∙◌, ℕ, ◌+◌, ◌<◌, Bool, List, [], ◌∷◌, ◌++◌, None, Option, Some, ap, append_assoc, false, get_or, length, refl, subst, sym}
use Rattle.std.proofs.Common.{take}
use Rattle.std.proofs.lemmas.Grind.{flat_map-append}
use Rattle.std.proofs.lemmas.List.{append-nil, map-append, take_more}
use Rattle.sig_find.specs.Additions.{IsAddition}
use Rattle.sig_find.specs.Leaving.{IsSometimesLeft}
use Rattle.sig_find.specs.declared.addition.Addition.{Addition}
use Rattle.sig_find.specs.declared.addition.Addition.TheVariants as addition
use Rattle.sig_find.proofs.Exports.{additions_keep_formats_alive, ranked_is_table}
use Rattle.sig_table.proofs.Exports.{ranked_again}
use Rattle.sig_table.specs.Canonical.{priority_csv}
use Rattle.sig_table.specs.Ranked.{ranked}
use Rattle.sig_table.specs.RankingViews.{RankingView}
use Rattle.sig_table.specs.Tables.{IsTable}
use Rattle.sig_table.specs.Views.{TableView}
use Rattle.sig_bits.specs.Device.{Adds}
use Rattle.sig_engines.specs.Pairs.{IsFileAsked}
use Rattle.sig_engines.specs.Stores.{Holding, IsMade}
use Rattle.sig_engines.specs.Forced.{AreTried, Forces, KeepsFormats, Trial, WritesForced, added, pair_if, priorities_with, refused_lines, trial_line}
use Rattle.sig_engines.specs.Notes.{forced_by, forced_pairs}
use Rattle.sig_engines.specs.Ranking.{AreRanked, IsTrialMade}
use Rattle.sig_engines.specs.declared.note.Note.{Note}

-- ---- no format loses its last file

-- the table with these pairs is one, and each format that some file left with the others is left by some file with these
record Keeps (table : TableView) (pairs more : List (ℕ × ℕ)) : Type 0 where
  is_table : IsTable (ranked table more)
  alive : (format : ℕ) → IsSometimesLeft (ranked table pairs) format → IsSometimesLeft (ranked table more) format

keeps_same : (table : TableView) (pairs more : List (ℕ × ℕ)) → more ≡ pairs → IsTable (ranked table pairs) → Keeps table pairs more
keeps_same table pairs more same is = record {
  is_table = subst (λ p. IsTable (ranked table p)) (sym same) is;
  alive = λ format alive. subst (λ p. IsSometimesLeft (ranked table p) format) (sym same) alive;
}

module _ (table : TableView) (budget : ℕ) (is_table : IsTable table) where
  one_keeps : (pairs : List (ℕ × ℕ)) (pair : ℕ × ℕ) (does : Addition) → IsTable (ranked table pairs) → IsAddition table pairs pair budget does
      → Keeps table pairs (pairs ++ pair_if pair does)
  one_keeps pairs pair addition.Safe is safe =
      let more = ranked_is_table table (pairs ++ pair ∷ []) is_table safe.0 in
      record { is_table = more; alive = λ format alive. additions_keep_formats_alive table pairs pair format more safe.1 alive }
  one_keeps pairs pair addition.Cycle is cycle = keeps_same table pairs (pairs ++ []) (append-nil pairs) is
  one_keeps pairs pair addition.Dead is dead = keeps_same table pairs (pairs ++ []) (append-nil pairs) is
  one_keeps pairs pair addition.Unknown is unknown = keeps_same table pairs (pairs ++ []) (append-nil pairs) is

  all_keep : (pairs : List (ℕ × ℕ)) (trials : List Trial) → IsTable (ranked table pairs) → AreTried table budget pairs trials
      → Keeps table pairs (pairs ++ added trials)
  all_keep pairs [] is are = keeps_same table pairs (pairs ++ []) (append-nil pairs) is
  all_keep pairs (t ∷ trials) is are =
      let one = one_keeps pairs t.pair t.does is are.0 in
      let rest = all_keep (pairs ++ pair_if t.pair t.does) trials one.is_table are.1 in
      let same : (pairs ++ pair_if t.pair t.does) ++ added trials ≡ pairs ++ added (t ∷ trials) = append_assoc pairs (pair_if t.pair t.does) (added trials) in
      record {
        is_table = subst (λ p. IsTable (ranked table p)) same rest.is_table;
        alive = λ format alive. subst (λ p. IsSometimesLeft (ranked table p) format) same (rest.alive format (one.alive format alive));
      }

  pub forced_keep : (trials : List Trial) → AreTried table budget table.priorities trials → KeepsFormats table (priorities_with table trials)
  forced_keep trials are =
      let keeps = all_keep table.priorities trials is_table are in
      record {
        is_table = keeps.is_table;
        loads = λ signatures priorities read. ranked_again signatures priorities table (priorities_with table trials) keeps.is_table read;
        alive = λ format alive. keeps.alive format alive;
      }

-- ---- one pair more

tried_more : (table : TableView) (budget : ℕ) (pairs : List (ℕ × ℕ)) (trials : List Trial) (t : Trial) → AreTried table budget pairs trials
    → IsAddition table (pairs ++ added trials) t.pair budget t.does → AreTried table budget pairs (trials ++ t ∷ [])
tried_more table budget pairs [] t are is = (subst (λ p. IsAddition table p t.pair budget t.does) (append-nil pairs) is, tt)
tried_more table budget pairs (u ∷ trials) t are is = (
  are.0,
  tried_more table budget (pairs ++ pair_if u.pair u.does) trials t are.1
      (subst (λ p. IsAddition table p t.pair budget t.does) (sym (append_assoc pairs (pair_if u.pair u.does) (added trials))) is),
)

-- before the first one
pub none_ranked : (table : TableView) (budget : ℕ) (ranking : RankingView) (refused : List ℕ)
    → ranking ≡ record { format_count = length table.formats; pairs = table.priorities } → refused ≡ [] → AreRanked table budget [] ranking refused
none_ranked table budget ranking refused is none = record {
  trials = [];
  all = refl;
  tried = tt;
  count = ap (λ (r : RankingView). r.format_count) is;
  pairs = ap (λ (r : RankingView). r.pairs) is ∙ sym (append-nil table.priorities);
  lines = none;
}

module _ (table : TableView) (budget : ℕ) (notes : List Note) (note : Note) (ranking : RankingView) (refused : List ℕ)
    (are : AreRanked table budget notes ranking refused) where
  forced_more : (pairs : List (ℕ × ℕ)) → forced_by note ≡ pairs → forced_pairs (notes ++ note ∷ []) ≡ forced_pairs notes ++ pairs
  forced_more pairs is = flat_map-append forced_by notes (note ∷ []) ∙ ap (λ l. forced_pairs notes ++ l) (append-nil (forced_by note) ∙ is)

  -- a note forces a pair, which is tried
  pub ranked_more : (pair : ℕ × ℕ) (new : RankingView) (new_refused : List ℕ) → forced_by note ≡ pair ∷ []
      → IsTrialMade table budget pair ranking refused new new_refused → AreRanked table budget (notes ++ note ∷ []) new new_refused
  ranked_more pair new new_refused forces made =
      let t : Trial = record { pair = pair; does = made.does } in
      record {
        trials = are.trials ++ t ∷ [];
        all = map-append (λ (t : Trial). t.pair) are.trials (t ∷ []) ∙ ap (λ l. l ++ pair ∷ []) are.all ∙ sym (forced_more (pair ∷ []) forces);
        tried = tried_more table budget table.priorities are.trials t are.tried (subst (λ p. IsAddition table p pair budget made.does) are.pairs made.tried);
        count = made.count ∙ are.count;
        pairs = made.pairs ∙ ap (λ l. l ++ pair_if pair made.does) are.pairs ∙ append_assoc table.priorities (added are.trials) (pair_if pair made.does)
            ∙ ap (λ l. table.priorities ++ l) (ap (λ l. added are.trials ++ l) (sym (append-nil (pair_if pair made.does))) ∙ sym
            (flat_map-append (λ (t : Trial). pair_if t.pair t.does) are.trials (t ∷ [])));
        lines = made.lines ∙ ap (λ l. l ++ trial_line table t) are.lines
            ∙ ap (λ l. refused_lines table are.trials ++ l) (sym (append-nil (trial_line table t))) ∙ sym
            (flat_map-append (trial_line table) are.trials (t ∷ []));
      }

  -- it forces none
  pub ranked_passed : forced_by note ≡ [] → AreRanked table budget (notes ++ note ∷ []) ranking refused
  ranked_passed forces = record {
    trials = are.trials;
    all = are.all ∙ sym (append-nil (forced_pairs notes)) ∙ sym (forced_more [] forces);
    tried = are.tried;
    count = are.count;
    pairs = are.pairs;
    lines = are.lines;
  }

-- the next of some notes
module _ (table : TableView) (budget : ℕ) (notes : List Note) (i : ℕ) (d : Note) (ranking : RankingView) (refused : List ℕ) (within : i < length notes)
    (are : AreRanked table budget (take i notes) ranking refused) where
  pub next_ranked : (pair : ℕ × ℕ) (new : RankingView) (new_refused : List ℕ) → forced_by (get_or notes i d) ≡ pair ∷ []
      → IsTrialMade table budget pair ranking refused new new_refused → AreRanked table budget (take (i + 1) notes) new new_refused
  next_ranked pair new new_refused forces made = rw (take_more notes i d within)
      (ranked_more table budget (take i notes) (get_or notes i d) ranking refused are pair new new_refused forces made)

  pub next_passed : forced_by (get_or notes i d) ≡ [] → AreRanked table budget (take (i + 1) notes) ranking refused
  next_passed forces = rw (take_more notes i d within) (ranked_passed table budget (take i notes) (get_or notes i d) ranking refused are forces)

-- ---- the file

pub forced_are_written : (Made : List ℕ → List ℕ → Type 0) (table : TableView) (budget : ℕ) (notes : List Note) (ranking : RankingView) (name refused : List ℕ)
    → IsTable table → (are : AreRanked table budget notes ranking refused)
    → Made name (priority_csv (ranked table ranking.pairs)) → WritesForced Made table budget notes name refused
forced_are_written Made table budget notes ranking name refused is are made = record {
  trials = are.trials;
  all = are.all;
  tried = are.tried;
  made = subst (λ p. Made name (priority_csv (ranked table p))) are.pairs made;
  lines = are.lines;
  keeps = forced_keep table budget is are.trials are.tried;
}

-- where a name is asked for, of the file that was made for it
pub forces_written : {F : Type 0} (name_of written : F → Option (List ℕ)) (failed : F → Bool) (held : Holding) (table : TableView) (budget : ℕ)
    (priorities : Option (Bor (List ℕ))) (asked : Option F) (f g : F) (notes : List Note) (ranking : RankingView) (refused : List ℕ)
    → asked ≡ Some f → IsFileAsked name_of written failed held priorities asked → IsTable table → AreRanked table budget notes ranking refused
    → Adds (written f) (priority_csv (ranked table ranking.pairs)) (written g) → failed g ≡ false
    → Forces (IsMade name_of written failed held) table budget priorities notes refused
forces_written name_of written failed held table budget priorities asked f g notes ranking refused same is_asked is are adds sound =
    go priorities (subst (IsFileAsked name_of written failed held priorities) same is_asked)
  where
    go : (priorities : Option (Bor (List ℕ))) → IsFileAsked name_of written failed held priorities (Some f)
        → Forces (IsMade name_of written failed held) table budget priorities notes refused
    go None asked = absurd asked
    go (Some name) asked = forced_are_written (IsMade name_of written failed held) table budget notes ranking name.now refused is are
        (record { file = f; after = g; named = asked.0; empty = asked.1; adds = adds; sound = sound })
