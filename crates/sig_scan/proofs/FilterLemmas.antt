-- The prefilter: where the four bytes of an entry stand, its marks and its list are found.
use Rattle.sig_scan.proofs.Common.{◌≡◌, ◌≢◌, ◌⊎◌, inl, inr, ℕ, ◌+◌, ◌*◌, ◌-◌, ◌%◌, ◌≤◌, ◌<◌, List, [], ◌∷◌, ◌++◌, length, get_or, ap, ◌∙◌, sym, subst, refl}
use Rattle.sig_scan.proofs.Common.{take, arith, Some, get_or-set_same, length-append, set, get_or-append-add, get_or_append_left, get_or-take, get_or_past}
use Rattle.sig_scan.proofs.Common.{length-take-le, get_or_from_slice_get, slice_get-get_or, slice_get_within, cases_eq, cases_lt, slice_get, AddsEntry, AreKept}
use Rattle.sig_scan.proofs.Common.{AreLiteralsOf, AreLowered, AreMissed, AreOwned, HasWindow, IsEntered, IsFilter, IsListed, IsPassedAt, IsUnlisted, behind_of}
use Rattle.sig_scan.proofs.Common.{four_at, list_of, mark_of, text_of, Fits, IsLiteralOf, LiteralView, StandsAt, byte_of, CourseView, StageView, Entry, State}
use Rattle.sig_scan.proofs.Common.{get_or-set_other, min}
use Rattle.std.proofs.lemmas.Option.{same_Some}

-- the fourth byte does not count for a mark
mark_of-four : (m d : ℕ) → mark_of (m + d * 16777216) ≡ mark_of m
unfolding mark_of
mark_of-four m d = omega arith

-- which of the two bytes of a place it is
choice : (literal : LiteralView) (k x : ℕ) → Fits literal k x → (n : ℕ) × (n < 2) × (x ≡ byte_of literal k n)
choice literal k x fits = grind arith

-- where four bytes of an entry stand, they are one of its texts, and the last three of them begin behind the first
text_at : (e : Entry) (bytes : List ℕ) (w : ℕ) → HasWindow e bytes w → (n : ℕ) × (n < 16) × (four_at bytes w ≡ text_of e.literal e.window n)
    × (four_at bytes (w + 1) ≡ behind_of e.literal e.window n + get_or bytes (w + 1 + 3) 0 * 16777216)
text_at e bytes w has =
    let l : LiteralView = e.literal in
    let v : ℕ = e.window in
    let b0 = choice l (v + 0) (get_or bytes (w + 0) 0) (has 0 (omega arith)) in
    let b1 = choice l (v + 1) (get_or bytes (w + 1) 0) (has 1 (omega arith)) in
    let b2 = choice l (v + 2) (get_or bytes (w + 2) 0) (has 2 (omega arith)) in
    let b3 = choice l (v + 3) (get_or bytes (w + 3) 0) (has 3 (omega arith)) in
    (b0.0 + b1.0 * 2 + b2.0 * 4 + b3.0 * 8, omega arith, grind arith, grind arith)

-- so it is in their list
at_window : (marks slots : List ℕ) (i : ℕ) (e : Entry) (bytes : List ℕ) (w : ℕ) → IsEntered marks slots i e → HasWindow e bytes w
    → (behind : ℕ) × IsListed marks slots (i + 1) (four_at bytes w) behind × (four_at bytes (w + 1) ≡ behind + get_or bytes (w + 1 + 3) 0 * 16777216)
at_window marks slots i e bytes w is has =
    let t = text_at e bytes w has in
    (behind_of e.literal e.window t.0, rw t.2 (is.each t.0 t.1), t.3)

-- the three bytes behind the first are marked
marked_behind : (marks slots : List ℕ) (i : ℕ) (e : Entry) (bytes : List ℕ) (w : ℕ) → IsEntered marks slots i e → HasWindow e bytes w
    → get_or marks (mark_of (four_at bytes (w + 1))) 0 ≢ 0
marked_behind marks slots i e bytes w is has =
    let t = at_window marks slots i e bytes w is has in
    grind (arith, t.1.second, mark_of-four t.0 (get_or bytes (w + 1 + 3) 0))

-- at no place from the one up to the other is a mark
abbrev pub AreUnmarked : List ℕ → List ℕ → ℕ → ℕ → Type 0
AreUnmarked marks bytes from to = (y : ℕ) → from ≤ y → y < to → y % 2 ≡ 0 → y + 4 ≤ length bytes → get_or marks (mark_of (four_at bytes y)) 0 ≡ 0

-- no entry stands with its four bytes there
abbrev pub ArePassed : List Entry → List ℕ → ℕ → ℕ → Type 0
ArePassed entries bytes from to =
    (i w : ℕ) (e : Entry) → slice_get entries i ≡ Some e → from ≤ w + 1 → w + 1 < to → w + 5 ≤ length bytes → ¬ HasWindow e bytes w

pub ArePassed-unmarked : (marks slots : List ℕ) (entries : List Entry) (bytes : List ℕ) (from to : ℕ) → IsFilter marks slots entries → from % 2 ≡ 0
    → AreUnmarked marks bytes from to → ArePassed entries bytes from to
ArePassed-unmarked marks slots entries bytes from to filter even none i w e at low high room has =
    let is = filter.each i e at in
    elim (cases_eq (w % 2) 0) [
      | inl here ↦ (at_window marks slots i e bytes w is has).1.first (none w (omega arith) (omega arith) here (omega arith))
      | inr behind ↦ marked_behind marks slots i e bytes w is has (none (w + 1) low high (omega arith) (omega arith))
    ]

-- past a place that is not listed
pub ArePassed-on : (marks slots : List ℕ) (entries : List Entry) (bytes : List ℕ) (from place to : ℕ) → IsFilter marks slots entries → place % 2 ≡ 0
    → IsUnlisted slots bytes place × (0 < place → IsUnlisted slots bytes (place - 1)) → AreUnmarked marks bytes (place + 2) to
    → ArePassed entries bytes from place → ArePassed entries bytes from to
ArePassed-on marks slots entries bytes from place to filter even unlisted none before i w e at low high room has =
    grind (
      arith,
      (at_window marks slots i e bytes w (filter.each i e at) has).1.some,
      unlisted,
      before i w e at low,
      ArePassed-unmarked marks slots entries bytes (place + 2) to filter (omega arith) none i w e at,
    )

-- the slots of a list say which entries are found by its four bytes
pub IsEntered-slot : (marks slots : List ℕ) (entries : List Entry) (bytes : List ℕ) (w i : ℕ) (e : Entry) (found : List ℕ) (states : List State)
    → IsFilter marks slots entries → slice_get entries i ≡ Some e → HasWindow e bytes w
    → ((slot j : ℕ) (f : Entry) → 8 * list_of (four_at bytes w) ≤ slot → slot < 8 * list_of (four_at bytes w) + 8 → get_or slots slot 0 ≡ j + 1
    → slice_get entries j ≡ Some f → IsPassedAt f bytes states w found) → IsPassedAt e bytes states w found
IsEntered-slot marks slots entries bytes w i e found states filter at has all =
    let is = (at_window marks slots i e bytes w (filter.each i e at) has).1 in
    all is.slot i e is.low is.high is.listed at

-- where its literal stands, four bytes of it do
pub HasWindow-stands : (e : Entry) (bytes : List ℕ) (x w : ℕ) → e.window + 4 ≤ length e.literal.text → x + e.literal.at + e.window ≡ w
    → StandsAt e.literal bytes (x + e.literal.at) → HasWindow e bytes w
HasWindow-stands e bytes x w inside at stands j few = grind (arith, stands.fits (e.window + j))

-- at the places before this one no literal stands with its four bytes, before what was found
abbrev pub ArePassedBelow : List Entry → List ℕ → List State → ℕ → List ℕ → Type 0
ArePassedBelow entries bytes states place found =
    (i w : ℕ) (e : Entry) → slice_get entries i ≡ Some e → w + 1 < place → w + 5 ≤ length bytes → IsPassedAt e bytes states w found

-- what is lowered stays passed
pub IsPassedAt-lowered : (e : Entry) (bytes : List ℕ) (states : List State) (w : ℕ) (old new : List ℕ) → AreLowered old new → IsPassedAt e bytes states w old
    → IsPassedAt e bytes states w new
IsPassedAt-lowered e bytes states w old new lower passed x v at stage low high place = passed x v at stage low (omega (arith, lower e.sequence)) place

pub IsPassedAt-set : (e : Entry) (bytes : List ℕ) (states : List State) (w : ℕ) (found : List ℕ) (n : ℕ) (v : State) → e.sequence < length states
    → e.sequence < length found → v ≡ get_or states e.sequence v
    → ((x : ℕ) → e.done ≡ v.done → v.from ≤ x → x < n → x + e.literal.at + e.window ≡ w → ¬ StandsAt e.literal bytes (x + e.literal.at))
    → IsPassedAt e bytes states w (set found e.sequence n)
IsPassedAt-set e bytes states w found n v states_has found_has is passed x u at stage low high place =
    grind (arith, get_or_from_slice_get states e.sequence u v at, get_or-set_same found e.sequence n 0 found_has, passed x)

-- a sequence that is not there states for nothing
pub IsPassedAt-none : (e : Entry) (bytes : List ℕ) (states : List State) (w : ℕ) (found : List ℕ)
    → (length states ≤ e.sequence) ⊎ (length found ≤ e.sequence) → IsPassedAt e bytes states w found
IsPassedAt-none e bytes states w found past x v at stage low high place =
    grind (arith, slice_get_within states e.sequence v at, get_or_past found e.sequence 0)

-- the places below, and what two looks there pass
pub ArePassedBelow-next : (entries : List Entry) (bytes : List ℕ) (states : List State) (place next : ℕ) (old new : List ℕ) → AreLowered old new
    → ((i : ℕ) (e : Entry) → slice_get entries i ≡ Some e → HasWindow e bytes place → IsPassedAt e bytes states place new)
    → ((i : ℕ) (e : Entry) → 0 < place → slice_get entries i ≡ Some e → HasWindow e bytes (place - 1) → IsPassedAt e bytes states (place - 1) new)
    → ((i : ℕ) (e : Entry) → slice_get entries i ≡ Some e → e.window + 4 ≤ length e.literal.text) → ArePassed entries bytes (place + 2) next
    → ArePassedBelow entries bytes states place old → ArePassedBelow entries bytes states next new
ArePassedBelow-next entries bytes states place next old new lower here behind inside none below i w e at high room x v wait stage low small is occurs =
    let has = HasWindow-stands e bytes x w (inside i e at) is occurs in
    elim (cases_lt (w + 1) place) [
      | inl past ↦ IsPassedAt-lowered e bytes states w old new lower (below i w e at past room) x v wait stage low small is occurs
      | inr on ↦ (
          let at_w : (n : ℕ) → n ≡ w → (HasWindow e bytes n → IsPassedAt e bytes states n new) → ⊥ = λ n same law.
          subst (λ m. HasWindow e bytes m → IsPassedAt e bytes states m new) same law has x v wait stage low small is occurs in
          elim (cases_eq place w) [
            | inl same ↦ at_w place same (here i e at)
            | inr other ↦ elim (cases_eq (place - 1) w) [
              | inl first ↦ at_w (place - 1) first (behind i e (omega arith) at)
              | inr later ↦ none i w e at (omega arith) high room has
            ]
          ])
    ]

-- before the first place nothing is passed but what does not stand
pub ArePassedBelow-first : (entries : List Entry) (bytes : List ℕ) (states : List State) (place : ℕ) (found : List ℕ)
    → ((i : ℕ) (e : Entry) → slice_get entries i ≡ Some e → e.window + 4 ≤ length e.literal.text)
    → ArePassed entries bytes 0 place → ArePassedBelow entries bytes states place found
ArePassedBelow-first entries bytes states place found inside none i w e at high room x v wait stage low small is occurs =
    grind (arith, none i w e at, inside i e at, occurs.fits)

-- a literal that ends in the first bytes stands in them
StandsAt-front : (literal : LiteralView) (bytes : List ℕ) (n start : ℕ) → start + length literal.text ≤ n → n ≤ length bytes → StandsAt literal bytes start
    → StandsAt literal (take n bytes) start
StandsAt-front literal bytes n start few within stands = grind (arith, length-take-le n bytes within, get_or-take n bytes, stands.fits)

-- at the end of the first bytes, as far as they have to be looked at, each literal is missed
pub AreMissed-last : (entries : List Entry) (bytes : List ℕ) (states : List State) (place end : ℕ) (old found : List ℕ)
    → ((i : ℕ) (e : Entry) → slice_get entries i ≡ Some e → e.window + 4 ≤ length e.literal.text)
    → end ≤ length bytes → end < place + 4 → AreOwned entries states (length bytes) end old found
    → ArePassedBelow entries (take end bytes) states place found → AreMissed entries bytes states old found
AreMissed-last entries bytes states place end old found inside within last owned passed k x w at low more high =
    let (e, i, v, entry, of, state, done, reach) = owned k (omega arith) in
    let len = length-take-le end bytes within in
    let here : slice_get states e.sequence ≡ Some w = ap (slice_get states) of ∙ at in
    let is : v ≡ w = same_Some v w (sym state ∙ at) in
    let stage : e.done ≡ w.done = done ∙ ap (λ (t : State). t.done) is in
    let few : x < get_or found e.sequence 0 = omega (arith, ap (λ n. get_or found n 0) of) in
    let enough = inside i e entry in (
      i,
      e,
      entry,
      of,
      stage,
      λ room occurs. passed i (x + e.literal.at + e.window) e entry (omega arith) (omega arith) x w here stage low few refl
          (StandsAt-front e.literal bytes end (x + e.literal.at) (omega arith) within occurs),
    )

-- what is entered stays
pub IsListed-kept : (marks slots marks_new slots_new : List ℕ) (id four behind : ℕ) → AreKept marks slots marks_new slots_new → 0 < id
    → IsListed marks slots id four behind → IsListed marks_new slots_new id four behind
IsListed-kept marks slots marks_new slots_new id four behind kept some is = grind (arith, kept.marked, kept.listed)

pub AreKept-twice : (marks slots marks_1 slots_1 marks_2 slots_2 : List ℕ) → AreKept marks slots marks_1 slots_1
    → AreKept marks_1 slots_1 marks_2 slots_2 → AreKept marks slots marks_2 slots_2
AreKept-twice marks slots marks_1 slots_1 marks_2 slots_2 one two = grind (arith, one.marked, two.marked, one.listed, two.listed)

pub IsFilter-kept : (marks slots marks_new slots_new : List ℕ) (entries : List Entry) → AreKept marks slots marks_new slots_new
    → IsFilter marks slots entries → IsFilter marks_new slots_new entries
IsFilter-kept marks slots marks_new slots_new entries kept filter = record {
  marks_len = kept.marks_len ∙ filter.marks_len;
  slots_len = kept.slots_len ∙ filter.slots_len;
  each = λ place e at. record {
    inside = (filter.each place e at).inside;
    each = λ n few. IsListed-kept marks slots marks_new slots_new (place + 1) _ _ kept (omega arith) ((filter.each place e at).each n few);
  };
}

-- the element at a place of a list with one more at its end
pub push_cases : {X : Type 0} (xs : List X) (x y : X) (i : ℕ) → slice_get (xs ++ x ∷ []) i ≡ Some y
    → ((i < length xs) × (slice_get xs i ≡ Some y)) ⊎ ((i ≡ length xs) × (x ≡ y))
push_cases {X} xs x y i at = grind (
  arith,
  get_or_from_slice_get (xs ++ x ∷ []) i y y at,
  slice_get-get_or xs i y,
  get_or_append_left xs (x ∷ []) y i,
  slice_get_within (xs ++ x ∷ []) i y at,
  length-append xs (x ∷ []),
  get_or-append-add xs (x ∷ []) 0 y,
)

-- an entry more
pub IsFilter-added : (marks slots : List ℕ) (entries : List Entry) (e : Entry) → IsFilter marks slots entries → IsEntered marks slots (length entries) e
    → IsFilter marks slots (entries ++ e ∷ [])
IsFilter-added marks slots entries e filter is = record {
  marks_len = filter.marks_len;
  slots_len = filter.slots_len;
  each = λ place f at. grind (arith, push_cases entries e f place at, filter.each place f);
}

pub AreLowered-twice : (a b d : List ℕ) → AreLowered a b → AreLowered b d → AreLowered a d
AreLowered-twice a b d first second k = omega (arith, first k, second k)

pub AreOwned-lowered : (entries : List Entry) (states : List State) (len end : ℕ) (first old new : List ℕ) → AreLowered old new
    → AreOwned entries states len end first old → AreOwned entries states len end first new
AreOwned-lowered entries states len end first old new lower owned k some = grind (arith, lower k, owned k)

-- the literal of one stage more
pub AreLiteralsOf-added : (courses : List CourseView) (old new : List Entry) (l : LiteralView) (u : StageView) (sequence done : ℕ)
    → AddsEntry old new l sequence done → IsLiteralOf u.items l
    → ((c : CourseView) → slice_get courses sequence ≡ Some c → slice_get c.stages done ≡ Some u) → AreLiteralsOf courses old → AreLiteralsOf courses new
AreLiteralsOf-added courses old new l u sequence done adds is stage literals i f c at course = grind (arith, push_cases, literals, stage)

-- where a literal is looked for, as far as it stands behind the offsets of its stage, an entry has it
pub AreOwned-set : (entries : List Entry) (states : List State) (len end to : ℕ) (first old : List ℕ) (i n : ℕ) (e : Entry) (v : State)
    → i < length entries → e ≡ get_or entries i e → e.sequence < length states → e.sequence < length old → v ≡ get_or states e.sequence v
    → e.done ≡ v.done → end ≤ to → min len (n + e.literal.at + length e.literal.text) ≤ to
    → AreOwned entries states len end first old → AreOwned entries states len to first (set old e.sequence n)
AreOwned-set entries states len end to first old i n e v within e_is states_has found_has v_is stage more reach owned k some =
    elim (cases_eq k e.sequence) [
      | inl same ↦ (
          let here = ap (λ j. get_or (set old e.sequence n) j 0) same ∙ get_or-set_same old e.sequence n 0 found_has in (
            e,
            i,
            v,
            slice_get-get_or entries i e within ∙ ap (λ (g : Entry). Some g) (sym e_is),
            sym same,
            ap (slice_get states) same ∙ slice_get-get_or states e.sequence v states_has ∙ ap (λ (t : State). Some t) (sym v_is),
            stage,
            omega arith,
          ))
      | inr other ↦ (
          let here = get_or-set_other old e.sequence k n 0 other in
          let own = owned k (omega arith) in
          let before = own.7 in
          (own.0, own.1, own.2, own.3, own.4, own.5, own.6, omega arith))
    ]
