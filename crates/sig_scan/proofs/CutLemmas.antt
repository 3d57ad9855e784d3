-- A sequence stands where its stages stand in turn.
use Rattle.sig_scan.proofs.Common.{◌≡◌, ℕ, ◌+◌, ◌≤◌, List, [], ◌∷◌, ◌++◌, length, take, drop, Option, None, Some, refl, sym, ap, arith, append_assoc}
use Rattle.sig_scan.proofs.Common.{length-append, ◌↔◌, All, IfSome, slice_range, ⊤, append-nil, length-drop, length-take-le, take-append-drop, take_at, drop_at}
use Rattle.sig_scan.proofs.Common.{All-cons, All-head, All-nil, All-push, All-tail, drop_split, IsBytes, Item, IsAtMost, Position, Cut, AreBounded}
use Rattle.sig_scan.proofs.Common.{IsBoundedItem, Lies, InTurn, CourseStands, StageEnds, StageView, TailView, all_but_last, course_of, last_items, stages_of}
use Rattle.sig_scan.proofs.Common.{max, min}
use Rattle.sig_table.specs.Standing.{StandsAt}
use Rattle.sig_expr.specs.declared.item.Item.TheVariants as item
use Rattle.sig_table.specs.declared.position.Position.TheVariants as position
use Rattle.sig_scan.proofs.LiesLemmas.{Lies-behind_gap, Lies-gap, Lies-join, Lies-split}

-- a word of the items lies in the file from `from` on, within a greatest offset, and ends at one of
-- these
record Found (until : Option ℕ) (from : ℕ) (items : List Item) (file : List ℕ) (IsEnd : ℕ → Type 0) : Type 0 where
  start : ℕ
  end : ℕ
  not_before : from ≤ start
  not_behind : IsAtMost until start
  lies : Lies items file start end
  is_end : IsEnd end

-- behind the items before an unbounded gap, and its least length, the later ones are found
Found-cut : (until : Option ℕ) (from min : ℕ) (before later : List Item) (file : List ℕ) (E : ℕ → Type 0)
    → Found until from (before ++ item.Gap min None ∷ later) file E
    → (end : ℕ) × StageEnds (record { items = before; until = until; delay = min }) file from end × Found None (end + min) later file E
Found-cut until from min before later file E f =
    let cut = Lies-split before (item.Gap min None ∷ later) file f.start f.end f.lies in
    let gap = Lies-behind_gap min later file cut.0 f.end cut.2 in
    search (arith, tt)

-- the converse
Found-join : (until : Option ℕ) (from min end : ℕ) (before later : List Item) (file : List ℕ) (E : ℕ → Type 0) → IsBytes file
    → StageEnds (record { items = before; until = until; delay = min }) file from end → Found None (end + min) later file E
    → Found until from (before ++ item.Gap min None ∷ later) file E
Found-join until from min end before later file E bytes ends f =
    let lies = Lies-join before _ file ends.start end f.end ends.lies (Lies-gap min later file end f.start f.end bytes f.not_before f.lies) in
    search

-- to stages without a tail, and back
InTurn-from_Found : (until : Option ℕ) (from : ℕ) (before later : List Item) (file : List ℕ) → Found until from (before ++ later) file (λ e. ⊤)
    → InTurn file from (stages_of until before later) None
InTurn-from_Found until from before [] file f =
    let g = rw append-nil at f in
    (g.end, record { start = g.start; not_before = g.not_before; not_behind = g.not_behind; lies = g.lies }, omega (arith, g.lies.within))
InTurn-from_Found until from before (item.Gap min None ∷ later) file f =
    let cut = Found-cut until from min before later file (λ e. ⊤) f in
    (cut.0, cut.1, InTurn-from_Found None (cut.0 + min) [] later file cut.2)
InTurn-from_Found until from before (i ∷ later) file f = InTurn-from_Found until from (before ++ i ∷ []) later file (rw append_assoc f)

Found-from_InTurn : (until : Option ℕ) (from : ℕ) (before later : List Item) (file : List ℕ) → IsBytes file
    → InTurn file from (stages_of until before later) None → Found until from (before ++ later) file (λ e. ⊤)
Found-from_InTurn until from before [] file bytes (end, ends, rest) = rw append-nil
    (record { start = ends.start; end = end; not_before = ends.not_before; not_behind = ends.not_behind; lies = ends.lies; is_end = tt })
Found-from_InTurn until from before (item.Gap min None ∷ later) file bytes (end, ends, rest) =
    Found-join until from min end before later file (λ e. ⊤) bytes ends (Found-from_InTurn None (end + min) [] later file bytes rest)
Found-from_InTurn until from before (i ∷ later) file bytes turn =
    rw append_assoc at (Found-from_InTurn until from (before ++ i ∷ []) later file bytes turn)

-- a word may end here that has so many bytes behind it
abbrev IsNearEnd : ℕ → ℕ → List ℕ → ℕ → Type 0
IsNearEnd min max file e = (e + min ≤ length file) × (length file ≤ e + max)

-- all stages but the last in turn, and its items as a tail
abbrev InTurnTo : ℕ → ℕ → List ℕ → ℕ → List StageView → Type 0
InTurnTo min max file from stages = InTurn file from (all_but_last stages) (Some (record { items = last_items stages; min = min; max = max }))

-- there is a stage, so the one before it is not the last
pub stages_of-some : (until : Option ℕ) (before later : List Item) → (t : StageView) × (ts : List StageView) × (stages_of until before later ≡ t ∷ ts)
stages_of-some until before [] = (_, _, refl)
stages_of-some until before (item.Gap min None ∷ later) = (_, _, refl)
stages_of-some until before (i ∷ later) = stages_of-some until (before ++ i ∷ []) later

InTurnTo-more : (min max : ℕ) (file : List ℕ) (from : ℕ) (s : StageView) (stages : List StageView)
    (some : (t : StageView) × (ts : List StageView) × (stages ≡ t ∷ ts))
    → InTurnTo min max file from (s ∷ stages) ↔ ((end : ℕ) × StageEnds s file from end × InTurnTo min max file (end + s.delay) stages)
InTurnTo-more min max file from s stages (t, ts, is) = rw is (λ h. h, λ h. h)

-- to stages and a tail, and back
InTurnTo-from_Found : (min max from : ℕ) (before later : List Item) (file : List ℕ) → Found None from (before ++ later) file (IsNearEnd min max file)
    → InTurnTo min max file from (stages_of None before later)
InTurnTo-from_Found min max from before [] file f =
    let g = rw append-nil at f in
    record { start = g.start; end = g.end; not_before = g.not_before; lies = g.lies; least = g.is_end.0; greatest = g.is_end.1 }
InTurnTo-from_Found min max from before (item.Gap least None ∷ later) file f =
    let cut = Found-cut None from least before later file (IsNearEnd min max file) f in
    (InTurnTo-more min max file from _ (stages_of None [] later) (stages_of-some None [] later)).1
    (cut.0, cut.1, InTurnTo-from_Found min max (cut.0 + least) [] later file cut.2)
InTurnTo-from_Found min max from before (i ∷ later) file f = InTurnTo-from_Found min max from (before ++ i ∷ []) later file (rw append_assoc f)

Found-from_InTurnTo : (min max from : ℕ) (before later : List Item) (file : List ℕ) → IsBytes file → InTurnTo min max file from (stages_of None before later)
    → Found None from (before ++ later) file (IsNearEnd min max file)
Found-from_InTurnTo min max from before [] file bytes t = rw append-nil
    (record { start = t.start; end = t.end; not_before = t.not_before; not_behind = tt; lies = t.lies; is_end = (t.least, t.greatest) })
Found-from_InTurnTo min max from before (item.Gap least None ∷ later) file bytes turn =
    let cut = (InTurnTo-more min max file from _ (stages_of None [] later) (stages_of-some None [] later)).0 turn in
    Found-join None from least cut.0 before later file (IsNearEnd min max file) bytes cut.1
    (Found-from_InTurnTo min max (cut.0 + least) [] later file bytes cut.2)
Found-from_InTurnTo min max from before (i ∷ later) file bytes turn =
    rw append_assoc at (Found-from_InTurnTo min max from (before ++ i ∷ []) later file bytes turn)

-- a cut of a file says where a word lies, and back
length-Cut : (items : List Item) (file : List ℕ) (c : Cut items file) → length c.front + length c.word + length c.back ≡ length file
length-Cut items file c = omega (arith, ap length c.cut, length-append (c.front ++ c.word) c.back, length-append c.front c.word)

Lies-from_Cut : (items : List Item) (file : List ℕ) (c : Cut items file) → Lies items file (length c.front) (length c.front + length c.word)
Lies-from_Cut items file c =
    grind (
      arith,
      length-Cut items file c,
      c.cut,
      append_assoc c.front c.word c.back,
      drop_at c.front (c.word ++ c.back) (length c.front) refl,
      take_at c.word c.back (length c.word) refl,
    )

Cut-from_Lies : (items : List Item) (file : List ℕ) (start end : ℕ) → Lies items file start end
    → (c : Cut items file) × (length c.front ≡ start) × (end + length c.back ≡ length file)
Cut-from_Lies items file start end l =
    let cut : file ≡ (take start file ++ slice_range file start end) ++ drop end file =
    rw append_assoc (rw (← drop_split file start end l.in_order) (sym (take-append-drop start file))) in
    let c : Cut items file = record { front = take start file; word = slice_range file start end; back = drop end file; cut = cut; is_word = l.is_word } in
    (c, omega (arith, length-take-le start file), omega (arith, length-drop end file))

-- a cut is found
Found-from_Cut : (until : Option ℕ) (from : ℕ) (items : List Item) (file : List ℕ) (E : ℕ → Type 0) (c : Cut items file) → from ≤ length c.front
    → IsAtMost until (length c.front) → E (length c.front + length c.word) → Found until from items file E
Found-from_Cut until from items file E c low high is_end = search (Lies-from_Cut items file c)

-- to a word and back, at each position
pub Stands-in_turn : (p : Position) (items : List Item) (file : List ℕ) → IsBytes file
    → StandsAt p items file ↔ CourseStands (course_of (record { position = p; items = items })) file
Stands-in_turn (position.Bof min max) items file bytes = (
  λ (c, low, high). InTurn-from_Found (Some max) min [] items file (Found-from_Cut (Some max) min items file (λ e. ⊤) c low high tt),
  λ turn.
      let f = Found-from_InTurn (Some max) min [] items file bytes turn in
      let cut = Cut-from_Lies items file f.start f.end f.lies in
      (cut.0, omega (arith, f.not_before), omega (arith, f.not_behind)),
)
Stands-in_turn (position.Eof min max) items file bytes = (
  λ (c, low, high).
      let len = length-Cut items file c in
      InTurnTo-from_Found min max 0 [] items file (Found-from_Cut None 0 items file (IsNearEnd min max file) c (omega arith) tt (omega arith, omega arith)),
  λ turn.
      let f = Found-from_InTurnTo min max 0 [] items file bytes turn in
      let cut = Cut-from_Lies items file f.start f.end f.lies in
      (cut.0, omega (arith, f.is_end.0), omega (arith, f.is_end.1)),
)
Stands-in_turn position.Variable items file bytes = (
  λ c. InTurn-from_Found None 0 [] items file (Found-from_Cut None 0 items file (λ e. ⊤) c (omega arith) tt tt),
  λ turn. let f = Found-from_InTurn None 0 [] items file bytes turn in (Cut-from_Lies items file f.start f.end f.lies).0,
)

-- no stage has an unbounded gap, if the items before have none
stages_of-bounded : (until : Option ℕ) (before later : List Item) → AreBounded before
    → All (λ (t : StageView). AreBounded t.items) (stages_of until before later)
stages_of-bounded until before [] bounded = All-cons (λ (t : StageView). AreBounded t.items) _ [] bounded (All-nil (λ (t : StageView). AreBounded t.items))
stages_of-bounded until before (item.Gap min None ∷ later) bounded =
    All-cons (λ (t : StageView). AreBounded t.items) _ (stages_of None [] later) bounded (stages_of-bounded None [] later (All-nil IsBoundedItem))
stages_of-bounded until before (i ∷ later) bounded = stages_of-bounded until (before ++ i ∷ []) later (All-push IsBoundedItem before i bounded tt)

-- what holds of the items of each stage holds of those before the last one and of the last items
pub all_but_last-All : (P : List Item → Type 0) → P [] → (stages : List StageView) → All (λ (t : StageView). P t.items) stages
    → All (λ (t : StageView). P t.items) (all_but_last stages) × P (last_items stages)
all_but_last-All P none [] all = (All-nil (λ (t : StageView). P t.items), none)
all_but_last-All P none (s ∷ []) all = (All-nil (λ (t : StageView). P t.items), All-head (λ (t : StageView). P t.items) s [] all)
all_but_last-All P none (s ∷ t ∷ later) all =
    let Q : StageView → Type 0 = λ t. P t.items in
    let rest = all_but_last-All P none (t ∷ later) (All-tail Q s (t ∷ later) all) in
    (All-cons Q s (all_but_last (t ∷ later)) (All-head Q s (t ∷ later) all) rest.0, rest.1)

pub stages-bounded : (p : Position) (items : List Item)
    → All (λ (t : StageView). AreBounded t.items) (course_of (record { position = p; items = items })).stages
stages-bounded (position.Bof min max) items = stages_of-bounded (Some max) [] items (All-nil IsBoundedItem)
stages-bounded (position.Eof min max) items = (all_but_last-All AreBounded (All-nil IsBoundedItem) (stages_of None [] items)
    (stages_of-bounded None [] items (All-nil IsBoundedItem))).0
stages-bounded position.Variable items = stages_of-bounded None [] items (All-nil IsBoundedItem)

pub tail-bounded : (p : Position) (items : List Item) → IfSome (course_of (record { position = p; items = items })).tail (λ (t : TailView). AreBounded t.items)
tail-bounded (position.Bof min max) items = tt
tail-bounded (position.Eof min max) items = (all_but_last-All AreBounded (All-nil IsBoundedItem) (stages_of None [] items)
    (stages_of-bounded None [] items (All-nil IsBoundedItem))).1
tail-bounded position.Variable items = tt
