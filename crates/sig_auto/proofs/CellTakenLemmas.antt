-- The slots that are entered on a byte.
use Rattle.sig_auto.proofs.Common.{◌≡◌, ◌⊎◌, ◌↔◌, ℕ, zero, suc, ◌+◌, ◌-◌, ◌<◌, ◌≤◌, ◌&&◌, if◌then◌else◌, true, List, [], ◌∷◌, drop, get_or, length, Option}
use Rattle.sig_auto.proofs.Common.{Some, refl, sym, ap, subst, inl, inr, arith, ⊤, Contains, IsStrictlyIncreasing, and_from, and_left, and_parts, cases_Bool}
use Rattle.sig_auto.proofs.Common.{cond-false, cond-true, eq-eqb, eqb-true, false_from_ne_true, false≢true, le-leb, leb-true, lt-ltb, ltb-true, ne_eqb}
use Rattle.sig_auto.proofs.Common.{or_cases, or_left, or_right, get_or_append_left, get_or-append_right, get_or-replicate, length-replicate, Class, Within}
use Rattle.sig_auto.proofs.Common.{Outside, InClass, any, in_class, Cell, Joint, Joints, Lined, entered_first, joint_past, seek, AreJoints, IsJoint, spread}
use Rattle.sig_auto.proofs.Common.{taken, taken_first, entered, meets, onward}
use Rattle.sig_auto.proofs.BehindLemmas.{drop_more}
use Rattle.sig_auto.proofs.JoinLemmas.{drop_past, here_of, onward_here, onward_other}

-- the test of a class is whether the byte is in it
pub in_class_exact : (c : Class) (byte : ℕ) → (in_class c byte ≡ true) ↔ InClass c byte
in_class_exact (Within first last) byte = grind (arith, and_parts, leb-true, and_from, le-leb)
in_class_exact (Outside first last) byte = grind (arith, and_parts, ltb-true, or_cases, and_from, lt-ltb, or_left, or_right)

-- ---- the walk from cell to cell

seek_takes : (cells xs : List Cell) (i j byte : ℕ) → drop i cells ≡ xs → taken byte (Some j) xs ≡ taken_first byte (drop (seek j xs i) cells)
seek_takes cells [] i j byte h = sym (ap (taken_first byte) h)
seek_takes cells (c ∷ xs) i j byte h =
    grind (
      arith,
      cond-true,
      eq-eqb,
      cond-false,
      and_left,
      ne_eqb,
      onward_other c j,
      drop_more cells xs i c h,
      seek_takes cells xs (i + 1) j byte (drop_more cells xs i c h),
    )

first_takes : (c : Cell) (rest : List Cell) (byte : ℕ) → taken_first byte (c ∷ rest)
    ≡ (if in_class c.class byte then (c.before + 1) ∷ taken byte (Some (joint_past c)) rest else taken byte (Some (joint_past c)) rest)
first_takes c rest byte = grind (arith, eq-eqb, onward_here c)

here_takes : (cells : List Cell) (joints : Joints) (k byte : ℕ) (d : Cell) (e : Joint) → AreJoints cells joints → k < length cells
    → e ≡ get_or joints.each.items k e →
    taken_first byte (drop k cells) ≡ (if in_class (get_or cells k d).class byte then ((get_or cells k d).before + 1) ∷ taken_first byte (drop e.beside cells)
    else taken_first byte (drop e.beside cells))
here_takes cells joints k byte d e h less e_is =
    let c : Cell = get_or cells k d in
    let rest : List Cell = drop (k + 1) cells in
    let here : drop k cells ≡ c ∷ rest = here_of cells k d less in
    let joint : IsJoint (length cells) c rest k e = subst (IsJoint (length cells) c rest k) (sym e_is) (h.each k c rest e here) in
    grind (arith, first_takes, seek_takes)

pub takes_here : (cells : List Cell) (joints : Joints) (k byte : ℕ) (d : Cell) (e : Joint) → AreJoints cells joints → k < length cells
    → e ≡ get_or joints.each.items k e → InClass (get_or cells k d).class byte →
    taken_first byte (drop k cells) ≡ ((get_or cells k d).before + 1) ∷ taken_first byte (drop e.beside cells)
takes_here cells joints k byte d e h less e_is is = grind (arith, here_takes cells joints k byte d e h less e_is, cond-true, in_class_exact)

pub passes_here : (cells : List Cell) (joints : Joints) (k byte : ℕ) (d : Cell) (e : Joint) → AreJoints cells joints → k < length cells
    → e ≡ get_or joints.each.items k e → (InClass (get_or cells k d).class byte → ⊥) →
    taken_first byte (drop k cells) ≡ taken_first byte (drop e.beside cells)
passes_here cells joints k byte d e h less e_is not = grind (
  arith,
  here_takes cells joints k byte d e h less e_is,
  cond-false,
  false_from_ne_true,
  in_class_exact,
)

pub none_taken : (cells : List Cell) (k byte : ℕ) → length cells ≤ k → taken_first byte (drop k cells) ≡ []
none_taken cells k byte h = ap (taken_first byte) (drop_past cells k h)

-- ---- the members

pub contains_cons : (x y : ℕ) (xs : List ℕ) → Contains (x ∷ xs) y → (x ≡ y) ⊎ Contains xs y
contains_cons x y xs (zero, less, is) = inl is
contains_cons x y xs (suc k, less, is) = inr (k, omega arith, is)

pub contains_here : (x : ℕ) (xs : List ℕ) → Contains (x ∷ xs) x
contains_here x xs = (0, omega arith, refl)

pub contains_there : (x y : ℕ) (xs : List ℕ) → Contains xs y → Contains (x ∷ xs) y
contains_there x y xs (k, less, is) = (suc k, omega arith, is)

-- the class of each cell is that of its first slot
abbrev pub Classed : (ℕ → Class) → List Cell → Type 0
Classed f [] = ⊤
Classed f (c ∷ cs) = (f (c.before + 1) ≡ c.class) × Classed f cs

pub taken_only : (f : ℕ → Class) (byte q : ℕ) (cs : List Cell) (j : Option ℕ) → Classed f cs → Contains (taken byte j cs) q → (entered j cs q ≡ true)
    × InClass (f q) byte
taken_only f byte q [] j h (k, less, is) = absurd (omega arith)
taken_only f byte q (c ∷ cs) j h at =
    grind (
      arith,
      and_parts,
      contains_cons (c.before + 1) q (taken byte (onward c j) cs),
      cond-true,
      or_left,
      and_from,
      eq-eqb,
      in_class_exact c.class byte,
      or_right,
      cond-false,
      taken_only f byte q cs (onward c j) h.1,
    )

taken_later : (byte q : ℕ) (c : Cell) (cs : List Cell) (j : Option ℕ) → Contains (taken byte (onward c j) cs) q → Contains (taken byte j (c ∷ cs)) q
taken_later byte q c cs j at =
    elim (cases_Bool (meets c j && in_class c.class byte)) [
      | inl met ↦ subst (λ x. Contains x q) (sym (cond-true (meets c j && in_class c.class byte) ((c.before + 1) ∷ taken byte (onward c j) cs)
          (taken byte (onward c j) cs) met)) (contains_there (c.before + 1) q (taken byte (onward c j) cs) at)
      | inr apart ↦ subst (λ x. Contains x q) (sym (cond-false (meets c j && in_class c.class byte) ((c.before + 1) ∷ taken byte (onward c j) cs)
          (taken byte (onward c j) cs) apart)) at
    ]

pub taken_all : (f : ℕ → Class) (byte q : ℕ) (cs : List Cell) (j : Option ℕ) → Classed f cs → entered j cs q ≡ true → InClass (f q) byte
    → Contains (taken byte j cs) q
taken_all f byte q [] j h go takes = absurd (false≢true go)
taken_all f byte q (c ∷ cs) j h go takes =
    grind (
      arith,
      or_cases,
      and_parts,
      eqb-true,
      in_class_exact c.class byte,
      cond-true,
      and_from,
      contains_here (c.before + 1) (taken byte (onward c j) cs),
      taken_later byte q c cs j,
      taken_all f byte q cs (onward c j) h.1,
    )

pub first_members : (f : ℕ → Class) (byte q : ℕ) (cs : List Cell) → Classed f cs → Contains (taken_first byte cs) q
    ↔ ((entered_first cs q ≡ true) × InClass (f q) byte)
first_members f byte q [] h = (λ (k, less, is). absurd (omega arith), λ x. absurd (false≢true x.0))
first_members f byte q (c ∷ cs) h = (λ at. taken_only f byte q (c ∷ cs) (Some c.front) h at, λ x. taken_all f byte q (c ∷ cs) (Some c.front) h x.0 x.1)

Classed-drop : (f : ℕ → Class) (cs : List Cell) (k : ℕ) → Classed f cs → Classed f (drop k cs)
Classed-drop f cs zero h = h
Classed-drop f [] (suc k) h = tt
Classed-drop f (c ∷ cs) (suc k) h = Classed-drop f cs k h.1

-- the class of a slot, by the list of all classes
pub Classed-as : (f g : ℕ → Class) (n : ℕ) (cs : List Cell) → ((q : ℕ) → n < q → f q ≡ g q) → Lined n cs → Classed g cs → Classed f cs
Classed-as f g n [] same lined h = tt
Classed-as f g n (c ∷ cs) same lined h = grind (arith, Classed-as f g (n + c.count) cs)

pub classed : (n : ℕ) (cs : List Cell) → Lined n cs → Classed (λ q. get_or (spread cs) (q - (n + 1)) any) cs
classed n [] lined = tt
classed n (c ∷ cs) lined = grind (
  arith,
  length-replicate,
  get_or_append_left,
  get_or-replicate,
  Classed-as,
  get_or-append_right,
  classed (n + c.count) cs lined.2,
)

pub members_from : (f : ℕ → Class) (byte q k : ℕ) (cells : List Cell) → Classed f cells → Contains (taken_first byte (drop k cells)) q
    ↔ ((entered_first (drop k cells) q ≡ true) × InClass (f q) byte)
members_from f byte q k cells h = first_members f byte q (drop k cells) (Classed-drop f cells k h)

-- ---- they rise

abbrev pub Above : ℕ → List ℕ → Type 0
Above n [] = ⊤
Above n (x ∷ xs) = (n < x) × Above x xs

pub Above-lower : (m n : ℕ) (xs : List ℕ) → m ≤ n → Above n xs → Above m xs
Above-lower m n [] low h = tt
Above-lower m n (x ∷ xs) low h = let less = h.0 in (omega arith, h.1)

pub above_rises : (n : ℕ) (xs : List ℕ) → Above n xs → IsStrictlyIncreasing xs
above_rises n [] h k less = absurd (omega arith)
above_rises n (x ∷ []) h k less = absurd (omega arith)
above_rises n (x ∷ (y ∷ xs)) h zero less = h.1.0
above_rises n (x ∷ (y ∷ xs)) h (suc k) less = grind (arith, above_rises x (y ∷ xs) h.1 k)

taken_above : (byte n : ℕ) (cs : List Cell) (j : Option ℕ) → Lined n cs → Above n (taken byte j cs)
taken_above byte n [] j lined = tt
taken_above byte n (c ∷ cs) j lined = grind (arith, cond-true, Above-lower, cond-false, taken_above byte (n + c.count) cs (onward c j) lined.2)

pub first_above : (byte n : ℕ) (cs : List Cell) → Lined n cs → Above n (taken_first byte cs)
first_above byte n [] lined = tt
first_above byte n (c ∷ cs) lined = taken_above byte n (c ∷ cs) (Some c.front) lined

pub rises_from : (x : ℕ) (xs : List ℕ) → Above x xs → IsStrictlyIncreasing (x ∷ xs)
rises_from x [] h k less = absurd (omega arith)
rises_from x (y ∷ xs) h zero less = h.0
rises_from x (y ∷ xs) h (suc k) less = grind (arith, rises_from y xs h.1 k)
