-- The beginning and the end of a scan: what it is of an empty file, and which signatures it marks.
use Rattle.sig_scan.proofs.Common.{◌≡◌, ◌∙◌, ℕ, ◌+◌, ◌≤◌, ◌<◌, inl, inr, All, Bool, List, [], ◌++◌, ap, arith, drop, false, true, get_or, length, max, Option}
use Rattle.sig_scan.proofs.Common.{refl, Some, subst, sym, set, cases_eq, append-nil, All-nil, slice_get-get_or, slice_get_within, slice_get, ◌↔◌, IsTrue}
use Rattle.sig_scan.proofs.Common.{slice_index, IsBytes, AreExcluded, AreFirst, AreMarked, HasLastBytes, IsBase, IsScanOf, IsShort, IsShortCourse, ScanView}
use Rattle.sig_scan.proofs.Common.{TailIsShort, CourseView, StageView, TailView, Waits, State, Hits, Stands, SequenceView, SignatureView, TableView, cases_Bool}
use Rattle.sig_scan.proofs.Common.{false≢true, AreNeeded, IsProgramOf, ProgramView, AreSequencesOf, EndsPast, Knows, WaitsOn}
use Rattle.sig_scan.proofs.PassLemmas.{InTurn-raised}
use Rattle.sig_scan.proofs.ScanLemmas.{All-at, one_value, slice_get-set_cases, still-set}
use Rattle.sig_scan.proofs.WaitLemmas.{Waits-fed, Waits-fresh, Waits-judged, Waits-last}

-- a scan of the bytes at hand, of which no word is looked for yet
pub Knows-fresh : (table : TableView) (program : ProgramView) (keep : ℕ) (bytes : List ℕ) (states : List State) (may_hit : List Bool)
    → IsProgramOf table may_hit program → length may_hit ≡ length table.signatures → AreFirst program.courses states → IsBytes bytes
    → AreExcluded table may_hit bytes → Knows table bytes program keep 0 bytes states may_hit
Knows-fresh table program keep bytes states may_hit is size first are excluded = record {
  sequences = is.sequences;
  are = is.are;
  size = size;
  before = [];
  cut = refl;
  counted = refl;
  last = inl refl;
  wait = λ i g s c t owner may sequence course state.
      let left = (first i c t course state).left in
      let c_is = sym (is.courses i g s c owner may sequence course) in
      let Q : CourseView → Type 0 = λ d. Waits false s [] d.from d.stages d.tail in
      let fresh : Waits false s [] c.from c.stages c.tail = subst Q c_is (Waits-fresh s) in
      let fed = Waits-fed s [] bytes c.from c.stages c.tail are fresh in
      let zero : t.from ≡ length {A = ℕ} [] + t.from = omega arith in
      let now : Waits false s bytes t.from (drop t.done c.stages) c.tail = record {
        residual = λ more later.
            let known = fed.residual more later in
            let is = left (bytes ++ more) in
            (λ stands. is.0 (known.0 stands), λ turn. known.1 (is.1 turn));
      } in
      subst (λ (n : ℕ). Waits false s bytes n (drop t.done c.stages) c.tail) zero now;
  excluded = excluded;
}

-- of each mark that still stands the sequences before this one stand in the file, and of the others the file is not hit
pub record AreMarkedTo (k : ℕ) (table : TableView) (file : List ℕ) (owners : List ℕ) (sequences : List SequenceView) (may_hit marks : List Bool) : Type 0 where
  pub still : (g : ℕ) → slice_get marks g ≡ Some true → slice_get may_hit g ≡ Some true
  pub stand : (i g : ℕ) (s : SequenceView) → i < k → slice_get marks g ≡ Some true → slice_get owners i ≡ Some g → slice_get sequences i ≡ Some s
      → Stands s file
  pub never : (g : ℕ) (h : SignatureView) → slice_get marks g ≡ Some false → slice_get table.signatures g ≡ Some h → ¬ Hits h file

-- at first
pub AreMarkedTo-none : (table : TableView) (file : List ℕ) (owners : List ℕ) (sequences : List SequenceView) (may_hit : List Bool)
    → AreExcluded table may_hit file → AreMarkedTo 0 table file owners sequences may_hit may_hit
AreMarkedTo-none table file owners sequences may_hit excluded = record {
  still = λ g may. may;
  stand = λ i g s low. absurd (omega arith);
  never = λ g h out signature hits. excluded g h out signature [] (All-nil (λ b. b < 256)) (subst (Hits h) (sym (append-nil file)) hits);
}

-- one sequence more, of a signature that is still marked
pub AreMarkedTo-set : (k own : ℕ) (table : TableView) (file : List ℕ) (owners : List ℕ) (sequences : List SequenceView) (may_hit marks : List Bool)
    (b : Bool) (s : SequenceView) → own < length marks → slice_get marks own ≡ Some true → slice_get owners k ≡ Some own → slice_get sequences k ≡ Some s
    → AreNeeded table owners sequences → (IsTrue b ↔ Stands s file) → AreMarkedTo k table file owners sequences may_hit marks
    → AreMarkedTo (k + 1) table file owners sequences may_hit (set marks own b)
AreMarkedTo-set k own table file owners sequences may_hit marks b s inside mark is_own is_s needed judged marked = record {
  still = λ g may. marked.still g (still-set marks own g b inside mark may);
  stand = λ i g u low may owner sequence.
      let could = still-set marks own g b inside mark may in
      elim (cases_eq i k) [
        | inl here ↦ (
            let own_g : own ≡ g = one_value (slice_get owners k) own g is_own (subst (λ n. slice_get owners n ≡ Some g) here owner) in
            let yes : b ≡ true = elim (slice_get-set_cases marks own g b true inside may) [ inl now ↦ sym now.1 | inr other ↦ absurd (other.0 (sym own_g)) ] in
            let same : s ≡ u = one_value (slice_get sequences k) s u is_s (subst (λ n. slice_get sequences n ≡ Some u) here sequence) in
            subst (λ (v : SequenceView). Stands v file) same (judged.0 yes))
        | inr other ↦ marked.stand i g u (omega arith) could owner sequence
      ];
  never = λ g h out signature hits.
      elim (slice_get-set_cases marks own g b false inside out) [
        | inl here ↦ (
            let there = subst (λ n. slice_get table.signatures n ≡ Some h) here.0 signature in
            absurd (false≢true (here.1 ∙ judged.1 (needed k own s h is_own is_s there file hits))))
        | inr there ↦ marked.never g h there.1 signature hits
      ];
}

-- or of one that is not
pub AreMarkedTo-skip : (k own : ℕ) (table : TableView) (file : List ℕ) (owners : List ℕ) (sequences : List SequenceView) (may_hit marks : List Bool)
    → slice_get marks own ≡ Some false → slice_get owners k ≡ Some own → AreMarkedTo k table file owners sequences may_hit marks
    → AreMarkedTo (k + 1) table file owners sequences may_hit marks
AreMarkedTo-skip k own table file owners sequences may_hit marks mark is_own marked = record {
  still = marked.still;
  stand = λ i g s low may owner sequence.
      elim (cases_eq i k) [
        | inl here ↦ (
            let own_g : own ≡ g = one_value (slice_get owners k) own g is_own (subst (λ n. slice_get owners n ≡ Some g) here owner) in
            absurd (false≢true (one_value (slice_get marks g) false true (subst (λ n. slice_get marks n ≡ Some false) own_g mark) may)))
        | inr other ↦ marked.stand i g s (omega arith) may owner sequence
      ];
  never = marked.never;
}

-- at last each mark says whether its signature hits
pub AreMarked-all : (k : ℕ) (table : TableView) (file : List ℕ) (owners : List ℕ) (sequences : List SequenceView) (may_hit marks : List Bool)
    → length owners ≤ k → AreSequencesOf table owners sequences → AreMarkedTo k table file owners sequences may_hit marks
    → length marks ≡ length table.signatures → AreMarked table file marks
AreMarked-all k table file owners sequences may_hit marks all are marked len g h signature =
    let within = slice_get_within table.signatures g h signature in
    let mark : slice_get marks g ≡ Some (get_or marks g false) = slice_get-get_or marks g false (omega arith) in (
      λ marked_g j d inside.
          let s = get_or h.sequences j d in
          let one = are.whole g j h s signature (slice_get-get_or h.sequences j d inside) in
          let low = slice_get_within owners one.place g one.owner in
          marked.stand one.place g s (omega arith) (mark ∙ ap (λ (b : Bool). Some b) marked_g) one.owner one.sequence,
      λ hits. elim (cases_Bool (get_or marks g false)) [
        | inl marked_g ↦ marked_g
        | inr out ↦ absurd (marked.never g h (mark ∙ ap (λ (b : Bool). Some b) out) signature hits)
      ],
    )

-- what is asked at the end of a sequence with these stages and this tail, over these bytes
abbrev pub JudgedBy : ℕ → ℕ → ℕ → ℕ → Bool → List StageView → Option TailView → List ℕ → Type 0
JudgedBy keep base done from b stages tail bytes = (s : SequenceView) (before : List ℕ) → IsBase before base → All (IsShort keep) stages → TailIsShort keep tail
    → HasLastBytes keep before bytes → WaitsOn true s before bytes from (drop done stages) tail → IsTrue b ↔ Stands s (before ++ bytes)

-- a sequence of a signature that the file may hit is judged
pub Stands-judged : (table : TableView) (file : List ℕ) (scan : ScanView) (known : IsScanOf table file scan) (g k from : ℕ) (s : SequenceView) (t : State)
    (c : CourseView) (b : Bool) (stages : List StageView) (tail : Option TailView) (seen : List ℕ) → All (IsShortCourse scan.keep) scan.program.courses
    → slice_get scan.program.courses k ≡ Some c → slice_get scan.states k ≡ Some t
    → stages ≡ c.stages → tail ≡ c.tail → seen ≡ scan.buffer.bytes → from ≡ max t.from (slice_index scan.found k)
    → JudgedBy scan.keep scan.base t.done from b stages tail seen → EndsPast scan → slice_get scan.program.owners k ≡ Some g
    → slice_get scan.may_hit g ≡ Some true → slice_get known.sequences k ≡ Some s → IsTrue b ↔ Stands s file
Stands-judged table file scan known g k from s t c b stages tail seen held course state stages_is tail_is seen_is from_is judged past owner may sequence =
    let keep = scan.keep in
    let base = scan.base in
    let bytes = scan.buffer.bytes in
    let before = known.before in
    let few = All-at (IsShortCourse keep) scan.program.courses k c course held in
    let here : JudgedBy keep base t.done from b c.stages c.tail bytes =
    subst (λ (l : List ℕ). JudgedBy keep base t.done from b c.stages c.tail l) seen_is
    (subst (λ (o : Option TailView). JudgedBy keep base t.done from b c.stages o seen) tail_is
    (subst (λ (l : List StageView). JudgedBy keep base t.done from b l tail seen) stages_is judged)) in
    let waits = Waits-judged false s (before ++ bytes) (length before + t.from) (drop t.done c.stages) c.tail
    (known.wait k g s c t owner may sequence course state) in
    let raised = InTurn-raised c.stages c.tail before bytes past.0 t.done t.from (slice_index scan.found k) from from_is
    (λ x least most. past.1 k x c t course state least most) in
    let last = Waits-last s (before ++ bytes) (length before + from) (drop t.done c.stages) c.tail
    (λ stands. raised.0 (waits.0 stands), λ turn. waits.1 (raised.1 turn)) in
    subst (λ (f : List ℕ). IsTrue b ↔ Stands s f) (sym known.cut) (here s before known.counted few.stages few.tail known.last last)
