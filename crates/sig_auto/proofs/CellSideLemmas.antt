-- Bytes that all cells take alike are those that all slots do, and bytes on which cells are entered.
use Rattle.sig_auto.proofs.Common.{◌≡◌, ◌↔◌, ◌⊎◌, ◌∙◌, ℕ, suc, ◌+◌, ◌-◌, ◌<◌, ◌≤◌, inl, inr, List, [], ◌∷◌, drop, get_or, IfSome, is_some, length}
use Rattle.sig_auto.proofs.Common.{length-append, None, Option, replicate, Some, true, ap, arith, refl, subst, sym, Contains, slice_get, cases_Bool, cases_lt}
use Rattle.sig_auto.proofs.Common.{eqb-true, false≢true, or_cases, or_left, or_right, get_or_append_left, get_or-append_right, get_or-replicate}
use Rattle.sig_auto.proofs.Common.{length-replicate, get_or_from_slice_get, slice_get_within, ByteClass, AddsCuts, AddsLive, in_class, InClass, any, EachSide}
use Rattle.sig_auto.proofs.Common.{EnteredOn, OwnOn, SlotOn, FollowsOn, TakesAlike, SameSide, Class, Outside, Within, class_in, spread, taken_first, whole_tree}
use Rattle.sig_auto.proofs.Common.{class_of, slots_of, cells_in, Cell, Joint, Joints, ComesBehind, IsCellOf, is_own, cells_of_sequence, Behind, Lined, Spells}
use Rattle.sig_auto.proofs.Common.{AreJoints, SequenceView}
use Rattle.sig_auto.specs.Classes.{IsSpelled}
use Rattle.sig_bits.specs.Groups.{InSpan, SameSide as SpanSide}
use Rattle.sig_auto.proofs.CellLemmas.{comes_follows, of_sequence, spelled_lined, spelled_slots}
use Rattle.sig_auto.proofs.CellSuccessorLemmas.{class_here, class_is, classes, own_is_own}
use Rattle.sig_auto.proofs.CellTakenLemmas.{contains_cons, contains_here, contains_there, in_class_exact, members_from, none_taken, passes_here, takes_here}
use Rattle.sig_auto.proofs.CutLemmas.{cuts_as, cuts_both, live_as, live_both}
use Rattle.sig_auto.proofs.JoinLemmas.{here_of}
use Rattle.sig_auto.proofs.LineLemmas.{class_at, lined_later, spread_of}
use Rattle.sig_auto.proofs.TakenLemmas.{length_classes}

-- a byte is in a span, or its class is what is outside
outside_or_in : (first last b : ℕ) → b < 256 → InClass (Outside first last) b ⊎ InSpan first last b
outside_or_in first last b low = elim (cases_lt b first) [
  | inl before ↦ inl (low, inl before)
  | inr from ↦ elim (cases_lt last b) [ inl past ↦ inl (low, inr past) | inr to ↦ inr (omega arith, omega arith) ]
]

outside_not_in : (first last b : ℕ) → InClass (Outside first last) b → InSpan first last b → ⊥
outside_not_in first last b out inside = elim (out.1) [ inl before ↦ omega (arith, before, inside.0) | inr past ↦ omega (arith, past, inside.1) ]

-- a class takes two bytes alike exactly where its span does
pub spelled_side : (c : Class) (first last a b : ℕ) → IsSpelled c first last → a < 256 → b < 256 → SameSide c a b ↔ SpanSide first last a b
spelled_side (Within x y) first last a b is in_a in_b = rw (is.0, is.1) (λ k. k, λ k. k)
spelled_side (Outside x y) first last a b is in_a in_b = rw (is.0, is.1) (
  λ k. (λ inside. into a b in_b k.1 inside, λ inside. into b a in_a k.0 inside),
  λ k. (λ out. out_of a b in_b k.1 out, λ out. out_of b a in_a k.0 out),
)
  where
    into : (p q : ℕ) → q < 256 → (InClass (Outside x y) q → InClass (Outside x y) p) → InSpan x y p → InSpan x y q
    into p q low f inside = elim (outside_or_in x y q low) [ inl out ↦ absurd (outside_not_in x y p (f out) inside) | inr in_q ↦ in_q ]

    out_of : (p q : ℕ) → q < 256 → (InSpan x y q → InSpan x y p) → InClass (Outside x y) p → InClass (Outside x y) q
    out_of p q low f out = elim (outside_or_in x y q low) [ inl out_q ↦ out_q | inr inside ↦ absurd (outside_not_in x y p out (f inside)) ]

-- the class of each slot is that of a cell
each_slot : (cs : List Cell) (a b : ℕ) → EachSide cs a b → (i : ℕ) → i < length (spread cs) → SameSide (get_or (spread cs) i any) a b
each_slot [] a b each i low = absurd (omega arith)
each_slot (c ∷ cs) a b each i low =
    let long : length (replicate c.count c.class) ≡ c.count = length-replicate c.count c.class in
    elim (cases_lt i c.count) [
      | inl inside ↦
          subst (λ x. SameSide x a b)
          (sym (get_or_append_left (replicate c.count c.class) (spread cs) any i (omega arith) ∙ get_or-replicate c.count i c.class any inside))
          (each 0 c refl)
      | inr past ↦
          let all = length-append (replicate c.count c.class) (spread cs) in
          subst (λ x. SameSide x a b) (sym (get_or-append_right (replicate c.count c.class) (spread cs) c.count i any long past))
          (each_slot cs a b (λ k d at. each (suc k) d at) (i - c.count) (omega arith))
    ]

spread_many : (cells list : List Cell) (s now : SequenceView) → Spells cells s → s ≡ now → list ≡ cells → length (spread list) ≡ slots_of (whole_tree now)
spread_many cells list s now h same is = grind (arith, spread_of (whole_tree s) 0 0 0 (cells_in (whole_tree s)), length_classes (whole_tree s))

-- so all cells take two bytes alike exactly where all slots do
pub sides_told : (cells list : List Cell) (s now : SequenceView) (a b : ℕ) → Spells cells s → s ≡ now → list ≡ cells → EachSide list a b
    → TakesAlike (whole_tree now) a b
sides_told cells list s now a b h same is each q low high = grind
    (arith, spread_many cells list s now h same is, class_is cells s now q h same, each_slot list a b each (q - 1))

pub sides_found : (cells list : List Cell) (s now : SequenceView) (a b : ℕ) → Spells cells s → s ≡ now → list ≡ cells
    → TakesAlike (whole_tree now) a b → EachSide list a b
sides_found cells list s now a b h same is alike k c at =
    let lined = spelled_lined cells s h in
    let here : slice_get cells k ≡ Some c = subst (λ l. slice_get l k ≡ Some c) is at in
    let inside = slice_get_within cells k c here in
    let cut : drop k cells ≡ c ∷ drop (k + 1) cells = here_of cells k c inside ∙ ap (λ x. x ∷ drop (k + 1) cells) (get_or_from_slice_get cells k c c here) in
    let later = lined_later cells (drop (k + 1) cells) 0 k c lined cut in
    let some = later.1 in
    let order = later.3 in
    let many = spelled_slots cells s h in
    let q : ℕ = c.before + 1 in
    let first : get_or (spread cells) (q - (0 + 1)) any ≡ c.class = class_at cells (drop (k + 1) cells) 0 k q c lined cut (omega arith) (omega arith) in
    let index : q - 1 ≡ q - (0 + 1) = omega arith in
    let class : class_of (whole_tree now) q ≡ c.class = sym (class_is cells s now q h same) ∙ ap (λ i. get_or (spread cells) i any) index ∙ first in
    subst (λ x. InClass x a ↔ InClass x b) class (alike q (omega arith) (omega (arith, ap (λ v. slots_of (whole_tree v)) same)))

-- ---- cells that are entered

entered_either : (cells : List Cell) (joints : Joints) (k : ℕ) (d : Cell) (e : Joint) → AreJoints cells joints → k < length cells
    → e ≡ get_or joints.each.items k e → (b q : ℕ)
    → EnteredOn cells k b q ↔ (SlotOn (get_or cells k d).class ((get_or cells k d).before + 1) b q ⊎ EnteredOn cells e.beside b q)
entered_either cells joints k d e joined low e_is b q =
    let c : Cell = get_or cells k d in
    let rest : List ℕ = taken_first b (drop e.beside cells) in
    elim (cases_Bool (in_class c.class b)) [
      | inl met ↦ (
          let takes : InClass c.class b = (in_class_exact c.class b).0 met in
          let now : taken_first b (drop k cells) ≡ (c.before + 1) ∷ rest = takes_here cells joints k b d e joined low e_is takes in (
            λ at. grind (arith, contains_cons),
            λ at. subst (λ l. Contains l q) (sym now) (elim at [
              | inl here ↦ subst (λ n. Contains ((c.before + 1) ∷ rest) n) (sym here.0) (contains_here (c.before + 1) rest)
              | inr more ↦ contains_there (c.before + 1) q rest more
            ]),
          ))
      | inr apart ↦ (
          let not : InClass c.class b → ⊥ = λ is. false≢true (sym apart ∙ (in_class_exact c.class b).1 is) in
          let now : taken_first b (drop k cells) ≡ rest = passes_here cells joints k b d e joined low e_is not in (
            λ at. inr (subst (λ l. Contains l q) now at),
            λ at. subst (λ l. Contains l q) (sym now) (elim at [ inl here ↦ absurd (not here.1) | inr more ↦ more ]),
          ))
    ]

pub entered_live : (cells : List Cell) (joints : Joints) (k : ℕ) (d : Cell) (e : Joint) (old mid new : ByteClass) → AreJoints cells joints
    → k < length cells → e ≡ get_or joints.each.items k e → ((q : ℕ) → AddsLive old mid (SlotOn (get_or cells k d).class q))
    → AddsLive mid new (EnteredOn cells e.beside) → AddsLive old new (EnteredOn cells k)
entered_live cells joints k d e old mid new joined low e_is first more =
    live_both old mid new (EnteredOn cells k) (SlotOn (get_or cells k d).class ((get_or cells k d).before + 1)) (EnteredOn cells e.beside)
    (entered_either cells joints k d e joined low e_is) (first ((get_or cells k d).before + 1)) more

pub entered_cuts : (cells : List Cell) (joints : Joints) (k : ℕ) (d : Cell) (e : Joint) (old mid new : ByteClass) → AreJoints cells joints
    → k < length cells → e ≡ get_or joints.each.items k e → ((q : ℕ) → AddsCuts old mid (SlotOn (get_or cells k d).class q))
    → AddsCuts mid new (EnteredOn cells e.beside) → AddsCuts old new (EnteredOn cells k)
entered_cuts cells joints k d e old mid new joined low e_is first more =
    cuts_both old mid new (EnteredOn cells k) (SlotOn (get_or cells k d).class ((get_or cells k d).before + 1)) (EnteredOn cells e.beside)
    (entered_either cells joints k d e joined low e_is) (first ((get_or cells k d).before + 1)) more

-- behind the last cell none is entered
pub none_on : (cells : List Cell) (k b q : ℕ) → length cells ≤ k → EnteredOn cells k b q → ⊥
none_on cells k b q past at = grind (arith, none_taken cells k b past)

-- ---- what follows a state: its own next slot, and the cells that are entered behind it

own_on_slot : (cells : List Cell) (own : Option ℕ) (q k : ℕ) (d : Cell) → Lined 0 cells → IsCellOf cells q k → own ≡ Some q → (b x : ℕ)
    → OwnOn cells own b x ↔ SlotOn (get_or cells k d).class q b x
own_on_slot cells own q k d lined at is b x = grind (arith, class_here cells q k d lined at)

-- what the class of its cell adds
pub own_live : (cells : List Cell) (own : Option ℕ) (k : ℕ) (d : Cell) (old new : ByteClass) → Lined 0 cells → IfSome own (λ q. IsCellOf cells q k)
    → is_some own ≡ true
    → ((q : ℕ) → AddsLive old new (SlotOn (get_or cells k d).class q)) → AddsLive old new (OwnOn cells own)
own_live cells None k d old new lined at some adds = absurd (false≢true some)
own_live cells (Some q) k d old new lined at some adds = live_as old new (OwnOn cells (Some q)) (SlotOn (get_or cells k d).class q)
    (own_on_slot cells (Some q) q k d lined at refl) (adds q)

pub own_cuts : (cells : List Cell) (own : Option ℕ) (k : ℕ) (d : Cell) (old new : ByteClass) → Lined 0 cells → IfSome own (λ q. IsCellOf cells q k)
    → is_some own ≡ true
    → ((q : ℕ) → AddsCuts old new (SlotOn (get_or cells k d).class q)) → AddsCuts old new (OwnOn cells own)
own_cuts cells None k d old new lined at some adds = absurd (false≢true some)
own_cuts cells (Some q) k d old new lined at some adds = cuts_as old new (OwnOn cells (Some q)) (SlotOn (get_or cells k d).class q)
    (own_on_slot cells (Some q) q k d lined at refl) (adds q)

own_from : (own : Option ℕ) (q : ℕ) → is_own own q ≡ true → own ≡ Some q
own_from None q is = absurd (false≢true is)
own_from (Some x) q is = ap (λ n. Some n) (sym (eqb-true q x is))

pub behind_either : (list : List Cell) (s : SequenceView) (p : ℕ) (b : Behind) → list ≡ cells_of_sequence s → ComesBehind s p b → (byte q : ℕ)
    → FollowsOn (whole_tree s) p byte q ↔ (OwnOn list b.own byte q ⊎ EnteredOn list b.enters byte q)
behind_either list s p b here h byte q =
    let cells : List Cell = cells_of_sequence s in
    let spells = of_sequence s h.sequence in
    let law = comes_follows s p q b h in
    let walk = members_from (class_of (whole_tree s)) byte q b.enters cells (classes cells s s spells refl) in
    let class : class_in cells q ≡ class_of (whole_tree s) q = class_is cells s s q spells refl in
    subst (λ x. FollowsOn (whole_tree s) p byte q ↔ (OwnOn x b.own byte q ⊎ EnteredOn x b.enters byte q)) (sym here) (
      λ on. grind (arith, or_cases, own_from),
      λ at. elim at [
        | inl one ↦ grind (arith, or_left, own_is_own)
        | inr other ↦ grind (arith, or_right)
      ],
    )
