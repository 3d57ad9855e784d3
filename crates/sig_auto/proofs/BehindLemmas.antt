-- What comes behind a state.
use Rattle.sig_auto.proofs.Common.{◌||◌, ◌≡◌, ℕ, zero, suc, ◌+◌, ◌-◌, ◌<◌, ◌≤◌, ◌==◌, true, false, List, [], ◌∷◌, drop, get_or, length, Option, Some, None}
use Rattle.sig_auto.proofs.Common.{Fits, w32, refl, sym, ap, is_some, ◌∙◌, subst, inl, inr, arith, IfSome, and_from, and_parts, cases_lt, cond-false, cond-true}
use Rattle.sig_auto.proofs.Common.{eq-eqb, eqb-true, le-leb, leb-true, lt-ltb, ltb-true, ne_eqb, or_cases, any, Behind, Cell, Joint, Joints, IsBehind, IsCellOf}
use Rattle.sig_auto.proofs.Common.{LiesBehind, is_own, slots_in, Lined, entered_first, joint_past, seek, AreJoints, IsJoint, entered, has_slot, leave, own}
use Rattle.sig_auto.proofs.JoinLemmas.{drop_past, drop_some, here_of, onward_here, onward_other}
use Rattle.sig_auto.proofs.LineLemmas.{exit_at, gone_at, lined_later}
use Rattle.sig_auto.proofs.WayLemmas.{entered_past, land_past, passes_none}

-- ---- the first cell behind a joint

pub drop_twice : (cs : List Cell) (k m : ℕ) → drop m (drop k cs) ≡ drop (k + m) cs
drop_twice cs zero m = ap (λ x. drop x cs) (let e : m ≡ 0 + m = omega arith in e)
drop_twice [] (suc k) zero = sym (drop_past [] (suc k + 0) (omega arith))
drop_twice [] (suc k) (suc m) = sym (drop_past [] (suc k + suc m) (omega arith))
drop_twice (c ∷ cs) (suc k) m = drop_twice cs k m ∙ ap (λ x. drop x (c ∷ cs)) (let e : suc (k + m) ≡ suc k + m = omega arith in e)

pub drop_more : (cells xs : List Cell) (i : ℕ) (c : Cell) → drop i cells ≡ c ∷ xs → drop (i + 1) cells ≡ xs
drop_more cells xs i c h = sym (drop_twice cells i 1) ∙ ap (drop 1) h

pub seek_enters : (cells xs : List Cell) (i j q : ℕ) → drop i cells ≡ xs → entered (Some j) xs q ≡ entered_first (drop (seek j xs i) cells) q
seek_enters cells [] i j q h = sym (ap (λ x. entered_first x q) h)
seek_enters cells (c ∷ xs) i j q h = grind (
  arith,
  cond-true,
  eq-eqb,
  ne_eqb,
  onward_other c j,
  drop_more cells xs i c h,
  cond-false,
  seek_enters cells xs (i + 1) j q (drop_more cells xs i c h),
)

pub seek_above : (xs : List Cell) (i j : ℕ) → i ≤ seek j xs i
seek_above [] i j = omega arith
seek_above (c ∷ xs) i j = grind (arith, cond-true, cond-false, seek_above xs (i + 1) j)

-- the first of some cells is entered, and what is entered with it
first_here : (c : Cell) (rest : List Cell) (q : ℕ) → entered_first (c ∷ rest) q ≡ (q == c.before + 1 || entered (Some (joint_past c)) rest q)
first_here c rest q = grind (arith, eq-eqb, onward_here c)

-- ---- a search among the cells

-- the place is below another, its cell before the slot, and the other's is not
pub record Between (cells : List Cell) (p low high : ℕ) : Type 0 where
  pub order : low < high
  pub within : high ≤ length cells
  pub under : (d : Cell) → (get_or cells low d).before < p
  pub over : (d : Cell) → high < length cells → p ≤ (get_or cells high d).before

pub between_ends : (cells : List Cell) (p low high : ℕ) → Lined 0 cells → p ≤ slots_in cells → Between cells p low high → high - low ≤ 1 → (d : Cell)
    → IsCellOf cells p low
between_ends cells p low high lined within h close d =
    let order = h.order in
    let inside : high ≤ length cells = h.within in
    let here = here_of cells low d (omega arith) in
    let c : Cell = get_or cells low d in
    let rest : List Cell = drop (low + 1) cells in
    let later = lined_later cells rest 0 low c lined here in
    let sum = later.3 in
    let less : c.before < p = h.under d in
    let high_is : high ≡ low + 1 = omega arith in
    let most : p ≤ c.before + c.count = elim (cases_lt high (length cells)) [
      | inl more ↦
          let there = here_of cells high d more in
          let tail : drop high cells ≡ rest = ap (λ x. drop x cells) high_is in
          let is : rest ≡ get_or cells high d ∷ drop (high + 1) cells = sym tail ∙ there in
          let next : Lined (c.before + c.count) (get_or cells high d ∷ drop (high + 1) cells) = subst (Lined (c.before + c.count)) is later.2 in
          let at = next.0 in
          let over : p ≤ (get_or cells high d).before = h.over d more in
          omega arith
      | inr none ↦ grind (arith, drop_past)
    ] in
    grind (arith, and_from, lt-ltb, le-leb)

-- ---- the start and the slots

pub behind_starts : (cells : List Cell) (joints : Joints) (p : ℕ) (b : Behind) → AreJoints cells joints → p ≡ 0 → b.own ≡ None → b.enters ≡ joints.start
    → b.ends ≡ joints.nullable → IsBehind cells p b
behind_starts cells joints p b h start own_is enters ends = grind (arith, cond-true, eq-eqb, seek_enters cells cells 0 0)

pub behind_leaves : (cells : List Cell) (joints : Joints) (p k : ℕ) (d : Cell) (e : Joint) (b : Behind) (o : Option ℕ) → Lined 0 cells → AreJoints cells joints
    → 0 < p → IsCellOf cells p k → e ≡ get_or joints.each.items k e →
    leave (get_or cells k d) p ≡ Some (get_or cells k d).behind → ((q : ℕ) → own (get_or cells k d) p q ≡ is_own o q) → b.own ≡ o →
    b.enters ≡ e.enters → b.ends ≡ e.ends → IsBehind cells p b
behind_leaves cells joints p k d e b o lined h some at e_is leaves owns own_is enters ends =
    let less : k < length cells = drop_some cells at.rest k at.cell at.is in
    let both : at.cell ∷ at.rest ≡ get_or cells k d ∷ drop (k + 1) cells = sym at.is ∙ here_of cells k d less in
    let head : at.cell ≡ get_or cells k d = cc in
    let c : Cell = get_or cells k d in
    let rest : List Cell = drop (k + 1) cells in
    let here : drop k cells ≡ c ∷ rest = here_of cells k d less in
    let slot : has_slot c p ≡ true = subst (λ x. has_slot x p ≡ true) head at.slot in
    let joint : IsJoint (length cells) c rest k e = subst (IsJoint (length cells) c rest k) (sym e_is) (h.each k c rest e here) in
    grind (arith, cond-false, ne_eqb, gone_at, seek_enters, exit_at)

pub behind_stays : (cells : List Cell) (p k : ℕ) (d : Cell) (b : Behind) (o : Option ℕ) → Lined 0 cells → 0 < p → IsCellOf cells p k →
    leave (get_or cells k d) p ≡ None → ((q : ℕ) → own (get_or cells k d) p q ≡ is_own o q) → b.own ≡ o →
    b.enters ≡ length cells → b.ends ≡ false → IsBehind cells p b
behind_stays cells p k d b o lined some at leaves owns own_is enters ends =
    let less : k < length cells = drop_some cells at.rest k at.cell at.is in
    let both : at.cell ∷ at.rest ≡ get_or cells k d ∷ drop (k + 1) cells = sym at.is ∙ here_of cells k d less in
    let head : at.cell ≡ get_or cells k d = cc in
    let c : Cell = get_or cells k d in
    let rest : List Cell = drop (k + 1) cells in
    let here : drop k cells ≡ c ∷ rest = here_of cells k d less in
    let slot : has_slot c p ≡ true = subst (λ x. has_slot x p ≡ true) head at.slot in
    let nothing : drop b.enters cells ≡ [] = drop_past cells b.enters (omega arith) in
    record {
      goes = λ q. grind (arith, cond-false, ne_eqb, gone_at cells rest 0 k p q c lined here slot, entered_past rest None q (passes_none rest));
      ends = grind (arith, cond-false, ne_eqb, exit_at cells rest 0 k p c lined here slot, land_past rest None (passes_none rest));
    }

pub last_cell : (cells : List Cell) (d : Cell) → Lined 0 cells → 0 < length cells
    → (get_or cells (length cells - 1) d).before + (get_or cells (length cells - 1) d).count ≡ slots_in cells
last_cell cells d lined some =
    let k : ℕ = length cells - 1 in
    let later = lined_later cells (drop (k + 1) cells) 0 k (get_or cells k d) lined (here_of cells k d (omega arith)) in
    let nothing : slots_in (drop (k + 1) cells) ≡ 0 = ap slots_in (drop_past cells (k + 1) (omega arith)) in
    let sum = later.3 in
    omega arith

-- a cell is passed
pub passed : (cells : List Cell) (joints : Joints) (k q : ℕ) (d : Cell) (e : Joint) → AreJoints cells joints → k < length cells
    → e ≡ get_or joints.each.items k e → ((get_or cells k d).before + 1 ≡ q → ⊥) →
    entered_first (drop k cells) q ≡ entered_first (drop e.beside cells) q
passed cells joints k q d e h less e_is other =
    let c : Cell = get_or cells k d in
    let rest : List Cell = drop (k + 1) cells in
    let here : drop k cells ≡ c ∷ rest = here_of cells k d less in
    let joint : IsJoint (length cells) c rest k e = subst (IsJoint (length cells) c rest k) (sym e_is) (h.each k c rest e here) in
    grind (arith, first_here, ne_eqb, seek_enters)

pub passed_on : (cells : List Cell) (joints : Joints) (k : ℕ) (d : Cell) (e : Joint) → AreJoints cells joints → k < length cells
    → e ≡ get_or joints.each.items k e → k < e.beside
passed_on cells joints k d e h less e_is =
    let c : Cell = get_or cells k d in
    let joint : IsJoint (length cells) c (drop (k + 1) cells) k e =
    subst (IsJoint (length cells) c (drop (k + 1) cells) k) (sym e_is) (h.each k c (drop (k + 1) cells) e (here_of cells k d less)) in
    let is : e.beside ≡ seek (joint_past c) (drop (k + 1) cells) (k + 1) = joint.beside in
    let above : k + 1 ≤ seek (joint_past c) (drop (k + 1) cells) (k + 1) = seek_above (drop (k + 1) cells) (k + 1) (joint_past c) in
    omega arith

pub met_here : (cells : List Cell) (k q : ℕ) (d : Cell) → k < length cells → q ≡ (get_or cells k d).before + 1 → entered_first (drop k cells) q ≡ true
met_here cells k q d less is = grind (arith, here_of cells k d less, first_here, eq-eqb)

pub cell_within : (cells : List Cell) (k : ℕ) (d : Cell) → Lined 0 cells → k < length cells
    → (get_or cells k d).before + (get_or cells k d).count ≤ slots_in cells
cell_within cells k d lined less = grind (
  arith,
  lined_later cells (drop (k + 1) cells) 0 k (get_or cells k d) lined (here_of cells k d less),
  here_of cells k d less,
)

pub is_in : (cells : List Cell) (p k : ℕ) → IsCellOf cells p k → k < length cells
is_in cells p k h = drop_some cells h.rest k h.cell h.is

pub own_room : (cells : List Cell) (p k : ℕ) (d : Cell) → Lined 0 cells → slots_in cells ≤ 65535 → IsCellOf cells p k
    → (get_or cells k d).before + (get_or cells k d).count ≤ 65535
own_room cells p k d lined few h = let within = cell_within cells k d lined (is_in cells p k h) in
    let more : (get_or cells k d).before + (get_or cells k d).count ≤ slots_in cells = within in omega arith

pub a_cell : Cell
a_cell = record { class = any; before = 0; count = 0; least = 0; endless = false; front = 0; behind = 0 }

pub last_fits : (cells : List Cell) (d : Cell) → Lined 0 cells → 0 < length cells → slots_in cells ≤ 65535
    → Fits w32 ((get_or cells (length cells - 1) d).before + (get_or cells (length cells - 1) d).count)
last_fits cells d lined some few = let is = last_cell cells d lined some in omega arith

pub first_fits : (cells : List Cell) (k : ℕ) (d : Cell) → Lined 0 cells → k < length cells → slots_in cells ≤ 65535 → Fits w32 ((get_or cells k d).before + 1)
first_fits cells k d lined less few = let within = cell_within cells k d lined less in omega arith

pub less_left : (cells : List Cell) (joints : Joints) (k : ℕ) (e : Joint) → AreJoints cells joints → k < length cells → e ≡ get_or joints.each.items k e
    → length cells - e.beside < length cells - k
less_left cells joints k e h less e_is = let on = passed_on cells joints k a_cell e h less e_is in omega arith

-- ---- the own slot stands before those that are entered

pub lined_drop : (n m : ℕ) (cs : List Cell) → Lined n cs → LiesBehind n (drop m cs)
lined_drop n zero cs h = record { before = n; most = omega arith; lined = h }
lined_drop n (suc m) [] h = record { before = n; most = omega arith; lined = tt }
lined_drop n (suc m) (c ∷ cs) h = grind (arith, lined_drop (n + c.count) m cs h.2)

pub behind_after : (cells : List Cell) (joints : Joints) (p k : ℕ) (d : Cell) (e : Joint) (enters : ℕ) (o : Option ℕ) → Lined 0 cells → AreJoints cells joints
    → IsCellOf cells p k → e ≡ get_or joints.each.items k e →
    IfSome o (λ q. q ≤ (get_or cells k d).before + (get_or cells k d).count) → enters ≡ e.enters → IfSome o (λ q. LiesBehind q (drop enters cells))
behind_after cells joints p k d e enters None lined h at e_is within is = within
behind_after cells joints p k d e enters (Some q) lined h at e_is within is =
    let less = is_in cells p k at in
    let c : Cell = get_or cells k d in
    let rest : List Cell = drop (k + 1) cells in
    let here : drop k cells ≡ c ∷ rest = here_of cells k d less in
    let later = lined_later cells rest 0 k c lined here in
    let joint : IsJoint (length cells) c rest k e = subst (IsJoint (length cells) c rest k) (sym e_is) (h.each k c rest e here) in
    let above : k + 1 ≤ seek c.behind rest (k + 1) = seek_above rest (k + 1) c.behind in
    let place : enters ≡ seek c.behind rest (k + 1) = is ∙ joint.enters in
    let more = lined_drop (c.before + c.count) (enters - (k + 1)) rest later.2 in
    let same : drop (enters - (k + 1)) rest ≡ drop enters cells =
    drop_twice cells (k + 1) (enters - (k + 1)) ∙ ap (λ x. drop x cells) (let z : k + 1 + (enters - (k + 1)) ≡ enters = omega arith in z) in
    let most = more.most in
    let top : q ≤ c.before + c.count = within in
    record { before = more.before; most = omega arith; lined = subst (Lined more.before) same more.lined }

pub behind_nothing : (cells : List Cell) (enters : ℕ) (o : Option ℕ) → enters ≡ length cells → IfSome o (λ q. LiesBehind q (drop enters cells))
behind_nothing cells enters None is = tt
behind_nothing cells enters (Some q) is = record { before = q; most = omega arith; lined = subst (Lined q) (sym (drop_past cells enters (omega arith))) tt }

-- ---- the cell of the own slot

own_within : (c : Cell) (p q : ℕ) → has_slot c p ≡ true → own c p q ≡ true → has_slot c q ≡ true
own_within c p q slot is = grind (arith, and_parts, or_cases, ltb-true, leb-true, eqb-true, and_from, lt-ltb, le-leb)

pub own_cell : (cells : List Cell) (p k r : ℕ) (d : Cell) (o : Option ℕ) → IsCellOf cells p k → ((q : ℕ) → own (get_or cells k d) p q ≡ is_own o q)
    → (is_some o ≡ true → r ≡ k) → IfSome o (λ q. IsCellOf cells q r)
own_cell cells p k r d None at owns place = tt
own_cell cells p k r d (Some q) at owns place =
    let c : Cell = get_or cells k d in
    let here = here_of cells k d (is_in cells p k at) in
    let both : at.cell ∷ at.rest ≡ c ∷ drop (k + 1) cells = sym at.is ∙ here in
    let head : at.cell ≡ c = cc in
    subst (IsCellOf cells q) (sym (place refl)) (record {
      cell = c;
      rest = drop (k + 1) cells;
      is = here;
      slot = own_within c p q (subst (λ x. has_slot x p ≡ true) head at.slot) (owns q ∙ eq-eqb q q refl);
    })

-- a cell that begins with the slot
pub guessed : (cells : List Cell) (p k : ℕ) (d : Cell) → Lined 0 cells → 0 < p → k < length cells → (get_or cells k d).before ≡ p - 1 → IsCellOf cells p k
guessed cells p k d lined some less is =
    let here = here_of cells k d less in
    let c : Cell = get_or cells k d in
    let rest : List Cell = drop (k + 1) cells in
    let later = lined_later cells rest 0 k c lined here in
    let count : 0 < c.count = later.1 in
    grind (arith, and_from, lt-ltb, le-leb)
