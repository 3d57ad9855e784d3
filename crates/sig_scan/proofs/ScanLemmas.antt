-- The states of all sequences: one after the other is settled.
use Rattle.sig_scan.proofs.Common.{◌≡◌, ◌∙◌, ℕ, ◌+◌, ◌-◌, ◌≤◌, ◌<◌, ◌⊎◌, ◌^◌, inl, inr, All, Bool, List, ◌++◌, ap, append_assoc, arith, drop, get_or}
use Rattle.sig_scan.proofs.Common.{get_or-set_other, get_or-set_same, length, length-append, min, None, Option, Some, subst, sym, take, true, length-set, set}
use Rattle.sig_scan.proofs.Common.{cases_eq, cases_lt, length-drop, length-take-le, take-append-drop, All-append, All-get_or, get_or_from_slice_get}
use Rattle.sig_scan.proofs.Common.{slice_get-get_or, slice_get_past, slice_get_within, slice_get, IfSome, IsBytes, IsBoundedCourse, IsHeld, AreBounded, span}
use Rattle.sig_scan.proofs.Common.{AllWait, AreExcluded, AreDone, IsShortCourse, TailIsShort, WaitsAt, CourseView, StageView, TailView, Waits, State}
use Rattle.sig_scan.proofs.Common.{slice_get-within, Hits, SequenceView, TableView, false, false≢true, SignatureView, ProgramView, Knows, not, refl, []}
use Rattle.sig_scan.proofs.Common.{drop_all}
use Rattle.sig_scan.proofs.StateLemmas.{Waits-tail}
use Rattle.sig_scan.proofs.WaitLemmas.{Waits-fed}

-- an element after a write
pub slice_get-set_cases : {X : Type 0} (xs : List X) (k i : ℕ) (v t : X) → k < length xs → slice_get (set xs k v) i ≡ Some t
    → ((i ≡ k) × (t ≡ v)) ⊎ ((i ≡ k → ⊥) × (slice_get xs i ≡ Some t))
slice_get-set_cases {X} xs k i v t within at =
    let inside = slice_get_within (set xs k v) i t at in
    let len : length (set xs k v) ≡ length xs = length-set xs k v in
    let value : get_or (set xs k v) i t ≡ t = get_or_from_slice_get (set xs k v) i t t at in
    elim (cases_eq i k) [
      | inl same ↦ inl (same, sym value ∙ ap (λ n. get_or (set xs k v) n t) same ∙ get_or-set_same xs k v t within)
      | inr other ↦ inr (other, slice_get-get_or xs i t (omega arith) ∙ ap (λ (x : X). Some x) (sym (get_or-set_other xs k i v t other) ∙ value))
    ]

-- the element at another place
pub slice_get-set_other : {X : Type 0} (xs : List X) (k i : ℕ) (v : X) → (i ≡ k → ⊥) → slice_get (set xs k v) i ≡ slice_get xs i
slice_get-set_other {X} xs k i v other =
    let len : length (set xs k v) ≡ length xs = length-set xs k v in
    elim (cases_lt i (length xs)) [
      | inl within ↦ (
          let y = slice_get-within xs i within in
          let value = get_or-set_other xs k i v y.0 other ∙ get_or_from_slice_get xs i y.0 y.0 y.1 in
          slice_get-get_or (set xs k v) i y.0 (omega arith) ∙ ap (λ (x : X). Some x) value ∙ sym y.1)
      | inr past ↦ slice_get_past (set xs k v) i (omega arith) ∙ sym (slice_get_past xs i past)
    ]

-- and its stages behind it are some of its own
pub AreDone-set : (courses : List CourseView) (states : List State) (k : ℕ) (v : State) → k < length states
    → ((c : CourseView) → slice_get courses k ≡ Some c → v.done ≤ length c.stages) → AreDone courses states → AreDone courses (set states k v)
AreDone-set courses states k v within here done i c t course state =
    elim (slice_get-set_cases states k i v t within state) [
      | inl same ↦ (
          let course_k : slice_get courses k ≡ Some c = subst (λ n. slice_get courses n ≡ Some c) same.0 course in
          subst (λ (x : State). x.done ≤ length c.stages) (sym same.1) (here c course_k))
      | inr other ↦ done i c t course other.1
    ]

-- the same bytes, cut at the limit
cut-at : (before bytes : List ℕ) (limit : ℕ) → before ++ bytes ≡ (before ++ take limit bytes) ++ drop limit bytes
cut-at before bytes limit =
    sym (append_assoc before (take limit bytes) (drop limit bytes) ∙ ap (λ (l : List ℕ). before ++ l) (take-append-drop limit bytes))

-- the same residual, counted from the limit on
pub Waits-moved : (s : SequenceView) (before bytes : List ℕ) (from limit : ℕ) (stages : List StageView) (tail : Option TailView) → limit ≤ from
    → limit ≤ length bytes → WaitsAt s before bytes from stages tail → WaitsAt s (before ++ take limit bytes) (drop limit bytes) (from - limit) stages tail
Waits-moved s before bytes from limit stages tail order within waits =
    let len = length-append before (take limit bytes) in
    let taken = length-take-le limit bytes within in
    let offset : length before + from ≡ length (before ++ take limit bytes) + (from - limit) = omega arith in
    subst (λ (f : List ℕ). Waits false s f (length (before ++ take limit bytes) + (from - limit)) stages tail) (cut-at before bytes limit)
    (subst (λ (n : ℕ). Waits false s (before ++ bytes) n stages tail) offset waits)

-- also where all stages have ended, and its tail is in sight
pub Waits-rest : (s : SequenceView) (stages : List StageView) (tail : Option TailView) (before bytes : List ℕ) (done from limit to reach : ℕ)
    → TailIsShort reach tail → limit + reach ≤ length bytes → to ≡ from - limit → (done < length stages → limit ≤ from)
    → WaitsAt s before bytes from (drop done stages) tail → WaitsAt s (before ++ take limit bytes) (drop limit bytes) to (drop done stages) tail
Waits-rest s stages tail before bytes done from limit to reach short sight to_is settled waits =
    rw to_is (elim (cases_lt from limit) [
      | inr behind ↦ Waits-moved s before bytes from limit (drop done stages) tail behind (omega arith) waits
      | inl early ↦ (
          let all : length stages ≤ done = elim (cases_lt done (length stages)) [ inl some ↦ (let on = settled some in absurd (omega arith)) | inr none ↦ none ]
          in
          let same : limit - limit ≡ from - limit = omega arith in
          let end = drop_all done stages all in
          rw end (subst (λ n. WaitsAt s (before ++ take limit bytes) (drop limit bytes) n [] tail) same
          (Waits-moved s before bytes limit limit [] tail (omega arith) (omega arith)
          (Waits-tail s before bytes from limit reach tail short (omega arith) sight (rw (← end) waits)))))
    ])

-- what holds of each holds of this one
pub All-at : {X : Type 0} (P : X → Type 0) (xs : List X) (k : ℕ) (x : X) → slice_get xs k ≡ Some x → All P xs → P x
All-at {X} P xs k x at all = subst P (get_or_from_slice_get xs k x x at) (All-get_or P xs k x (slice_get_within xs k x at) all)

-- what is not to be so is so
pub true_from_not : (p : Bool) → not p ≡ false → p ≡ true
true_from_not true e = refl
true_from_not false e = sym e

tail-short_of : (reach : ℕ) (o : Option TailView) → IfSome o (λ (t : TailView). AreBounded t.items) → IfSome o (λ (t : TailView). span t.items + t.max ≤ reach)
    → TailIsShort reach o
tail-short_of reach None bounded few = tt
tail-short_of reach (Some t) bounded few = (bounded, few)

-- no word of bounded courses is without bound
pub courses-short : (reach : ℕ) (courses : List CourseView) → All IsBoundedCourse courses → All (IsHeld reach) courses → All (IsShortCourse reach) courses
courses-short reach courses bounded held k d within =
    let b = bounded k d within in
    let h = held k d within in
    record {
      stages = λ j e at. record { bounded = b.stages j e at; few = h.stages j e at };
      tail = tail-short_of reach (get_or courses k d).tail b.tail h.tail;
    }

-- each sequence before this one waits from the limit on, with the bytes before it behind them, and the others as they did
abbrev pub AllMoved : ℕ → ℕ → List SequenceView → ProgramView → List Bool → List ℕ → List ℕ → List State → Type 0
AllMoved k limit sequences program may_hit before bytes states = (i g : ℕ) (s : SequenceView) (c : CourseView) (t : State) → slice_get program.owners i ≡ Some g
    → slice_get may_hit g ≡ Some true → slice_get sequences i ≡ Some s → slice_get program.courses i ≡ Some c → slice_get states i ≡ Some t
    → (i < k → WaitsAt s (before ++ take limit bytes) (drop limit bytes) t.from (drop t.done c.stages) c.tail)
    × (k ≤ i → WaitsAt s before bytes t.from (drop t.done c.stages) c.tail)

-- two values of one place
pub one_value : {X : Type 0} (o : Option X) (x y : X) → o ≡ Some x → o ≡ Some y → x ≡ y
one_value o x y one two = let both : Some x ≡ Some y = sym one ∙ two in cc

-- a signature that the file may hit at last could be hit before
pub still-set : (may_hit : List Bool) (k g : ℕ) (b : Bool) → k < length may_hit → slice_get may_hit k ≡ Some true → slice_get (set may_hit k b) g ≡ Some true
    → slice_get may_hit g ≡ Some true
still-set may_hit k g b within may at =
    elim (slice_get-set_cases may_hit k g b true within at) [
      | inl here ↦ ap (slice_get may_hit) here.0 ∙ may
      | inr there ↦ there.1
    ]

-- one more
pub AllMoved-set : (k limit own : ℕ) (sequences : List SequenceView) (program : ProgramView) (may_hit : List Bool) (before bytes : List ℕ) (states : List State)
    (old v : State) (b : Bool) → k < length states → own < length may_hit → slice_get program.owners k ≡ Some own → slice_get may_hit own ≡ Some true
    → slice_get states k ≡ Some old
    → (b ≡ true → (s : SequenceView) (c : CourseView) → slice_get program.courses k ≡ Some c → WaitsAt s before bytes old.from (drop old.done c.stages) c.tail
    → WaitsAt s (before ++ take limit bytes) (drop limit bytes) v.from (drop v.done c.stages) c.tail)
    → AllMoved k limit sequences program may_hit before bytes states
    → AllMoved (k + 1) limit sequences program (set may_hit own b) before bytes (set states k v)
AllMoved-set k limit own sequences program may_hit before bytes states old v b within inside is_own may at step all i g s c t owner may_g sequence course state
    =
    let could = still-set may_hit own g b inside may may_g in
    elim (slice_get-set_cases states k i v t within state) [
      | inl here ↦ (
          let owner_k = subst (λ n. slice_get program.owners n ≡ Some g) here.0 owner in
          let same : own ≡ g = one_value (slice_get program.owners k) own g is_own owner_k in
          let yes : b ≡ true = elim (slice_get-set_cases may_hit own g b true inside may_g) [ inl now ↦ sym now.1 | inr other ↦ absurd (other.0 (sym same)) ] in
          let course_k = subst (λ n. slice_get program.courses n ≡ Some c) here.0 course in
          let sequence_k = subst (λ n. slice_get sequences n ≡ Some s) here.0 sequence in
          let moved = step yes s c course_k ((all k g s c old owner_k could sequence_k course_k at).1 (omega arith)) in
          let P : State → Type 0 = λ x. WaitsAt s (before ++ take limit bytes) (drop limit bytes) x.from (drop x.done c.stages) c.tail in
          let is = here.0 in
          (λ _. subst P (sym here.1) moved, λ far. absurd (omega arith)))
      | inr there ↦ (
          let was = all i g s c t owner could sequence course there.1 in
          let other = there.0 in
          (λ near. was.0 (omega arith), λ far. was.1 (omega arith)))
    ]

-- an excluded one more
pub AllMoved-skip : (k limit own : ℕ) (sequences : List SequenceView) (program : ProgramView) (may_hit : List Bool) (before bytes : List ℕ)
    (states : List State)
    → slice_get program.owners k ≡ Some own → slice_get may_hit own ≡ Some false → AllMoved k limit sequences program may_hit before bytes states
    → AllMoved (k + 1) limit sequences program may_hit before bytes states
AllMoved-skip k limit own sequences program may_hit before bytes states is_own never all i g s c t owner may sequence course state =
    elim (cases_eq i k) [
      | inl here ↦ (
          let same : own ≡ g = one_value (slice_get program.owners k) own g is_own (subst (λ n. slice_get program.owners n ≡ Some g) here owner) in
          absurd (false≢true (one_value (slice_get may_hit g) false true (subst (λ n. slice_get may_hit n ≡ Some false) same never) may)))
      | inr other ↦ (
          let was = all i g s c t owner may sequence course state in
          (λ near. was.0 (omega arith), λ far. was.1 (omega arith)))
    ]

-- a signature that hits no file that so begins is excluded
pub AreExcluded-set : (table : TableView) (may_hit : List Bool) (file : List ℕ) (own : ℕ) (b : Bool) → own < length may_hit
    → (b ≡ false → (h : SignatureView) → slice_get table.signatures own ≡ Some h → (more : List ℕ) → IsBytes more → ¬ Hits h (file ++ more))
    → AreExcluded table may_hit file → AreExcluded table (set may_hit own b) file
AreExcluded-set table may_hit file own b within never excluded g h out signature =
    elim (slice_get-set_cases may_hit own g b false within out) [
      | inl here ↦ never (sym here.1) h (subst (λ n. slice_get table.signatures n ≡ Some h) here.0 signature)
      | inr there ↦ excluded g h there.1 signature
    ]

-- a scan, settled up to the limit
pub Knows-settled : (table : TableView) (file : List ℕ) (program : ProgramView) (keep base limit : ℕ) (bytes : List ℕ) (states next : List State)
    (old new : List Bool) (known : Knows table file program keep base bytes states old) → limit + keep ≡ length bytes → length new ≡ length old
    → AllWait known.sequences program new (known.before ++ take limit bytes) (drop limit bytes) next → AreExcluded table new file
    → Knows table file program keep (min (base + limit) (2 ^ 64 - 1)) (drop limit bytes) next new
Knows-settled table file program keep base limit bytes states next old new known sum len wait excluded =
    let taken = length-take-le limit bytes (omega arith) in
    let all = length-append known.before (take limit bytes) in
    let left = length-drop limit bytes in
    let counted = known.counted in
    record {
      sequences = known.sequences;
      are = known.are;
      size = len ∙ known.size;
      before = known.before ++ take limit bytes;
      cut = known.cut ∙ cut-at known.before bytes limit;
      counted = omega arith;
      last = inr (omega arith);
      wait = wait;
      excluded = excluded;
    }

-- a scan with some bytes more
pub Knows-added : (table : TableView) (file piece : List ℕ) (program : ProgramView) (keep base : ℕ) (bytes : List ℕ) (states : List State)
    (may_hit : List Bool) → IsBytes piece → Knows table file program keep base bytes states may_hit
    → Knows table (file ++ piece) program keep base (bytes ++ piece) states may_hit
Knows-added table file piece program keep base bytes states may_hit are known =
    let before = known.before in
    let joined : (before ++ bytes) ++ piece ≡ before ++ (bytes ++ piece) = append_assoc before bytes piece in
    let len = length-append bytes piece in
    record {
      sequences = known.sequences;
      are = known.are;
      size = known.size;
      before = before;
      cut = ap (λ (l : List ℕ). l ++ piece) known.cut ∙ joined;
      counted = known.counted;
      last = elim known.last [ inl none ↦ inl none | inr enough ↦ inr (omega arith) ];
      wait = λ i g s c t owner may sequence course state.
          subst (λ (f : List ℕ). Waits false s f (length before + t.from) (drop t.done c.stages) c.tail) joined
          (Waits-fed s (before ++ bytes) piece (length before + t.from) (drop t.done c.stages) c.tail are
          (known.wait i g s c t owner may sequence course state));
      excluded = λ g h out signature more later hits.
          known.excluded g h out signature (piece ++ more) (All-append (λ b. b < 256) piece more are later)
          (subst (Hits h) (append_assoc file piece more) hits);
    }
