-- The successors of a state.
use Rattle.sig_auto.proofs.Common.{◌≡◌, ◌↔◌, ℕ, ◌+◌, Bool, true, List, [], ◌∷◌, ◌++◌, drop, get_or, Option, Some, None, refl, sym, ap, ◌∙◌, subst, inl, inr}
use Rattle.sig_auto.proofs.Common.{arith, Contains, IfSome, IsStrictlyIncreasing, cases_Bool, cond-false, cond-true, eq-eqb, eqb-true, false_from_ne_true}
use Rattle.sig_auto.proofs.Common.{false≢true, or_cases, or_left, or_right, Contains-append_cases, Contains-append_left, Contains-append_right, InClass}
use Rattle.sig_auto.proofs.Common.{in_class, FollowsOn, whole_tree, class_of, SequenceView, Behind, Cell, ComesBehind, IsCellOf, LiesBehind, followers, is_own}
use Rattle.sig_auto.proofs.Common.{cells_in, cells_of_sequence, Lined, Spells, entered_first, class_in, own_list, own_taken, taken_first}
use Rattle.sig_auto.proofs.CellLemmas.{comes_follows, of_sequence, spelled_lined}
use Rattle.sig_auto.proofs.BehindLemmas.{is_in, lined_drop}
use Rattle.sig_auto.proofs.JoinLemmas.{here_of}
use Rattle.sig_auto.proofs.LineLemmas.{class_at, slot_parts, spread_of}
use Rattle.sig_auto.proofs.CellTakenLemmas.{Above-lower, Classed, Classed-as, above_rises, classed, contains_cons, contains_here, first_above, in_class_exact}
use Rattle.sig_auto.proofs.CellTakenLemmas.{members_from, rises_from}

-- the class of a slot by the cell that was found
pub class_here : (cells : List Cell) (q k : ℕ) (d : Cell) → Lined 0 cells → IsCellOf cells q k → (get_or cells k d).class ≡ class_in cells q
class_here cells q k d lined at = grind (arith, is_in cells q k at, here_of cells k d, slot_parts at.cell q at.slot, class_at cells (drop (k + 1) cells) 0 k q)

pub own_takes : (cells : List Cell) (own : Option ℕ) (q k byte : ℕ) (d : Cell) → Lined 0 cells → IsCellOf cells q k → own ≡ Some q
    → InClass (get_or cells k d).class byte → q ∷ [] ≡ own_taken cells own byte
own_takes cells own q k byte d lined at is takes = grind (arith, class_here cells q k d lined at, cond-true, in_class_exact)

pub own_not : (cells : List Cell) (own : Option ℕ) (q k byte : ℕ) (d : Cell) → Lined 0 cells → IsCellOf cells q k → own ≡ Some q
    → (InClass (get_or cells k d).class byte → ⊥) → [] ≡ own_taken cells own byte
own_not cells own q k byte d lined at is not = grind (arith, class_here cells q k d lined at, cond-false, false_from_ne_true, in_class_exact)

-- ---- the states that follow on a byte

pub class_is : (cells : List Cell) (s now : SequenceView) (q : ℕ) → Spells cells s → s ≡ now → class_in cells q ≡ class_of (whole_tree now) q
class_is cells s now q h same = grind (arith, spread_of (whole_tree s) 0 0 0 (cells_in (whole_tree s)))

pub classes : (cells : List Cell) (s now : SequenceView) → Spells cells s → s ≡ now → Classed (class_of (whole_tree now)) cells
classes cells s now h same = grind (
  arith,
  Classed-as (class_of (whole_tree now)),
  class_is cells s now,
  spelled_lined cells s h,
  classed 0 cells (spelled_lined cells s h),
)

own_member : (cells : List Cell) (own : Option ℕ) (byte q : ℕ) → Contains (own_taken cells own byte) q → (own ≡ Some q) × InClass (class_in cells q) byte
own_member cells None byte q (k, less, is) = absurd (omega arith)
own_member cells (Some y) byte q at = grind (arith, cond-true, cond-false, in_class_exact (class_in cells y) byte, contains_cons y q [])

own_found : (cells : List Cell) (own : Option ℕ) (byte q : ℕ) → is_own own q ≡ true → InClass (class_in cells q) byte → Contains (own_taken cells own byte) q
own_found cells None byte q is takes = absurd (false≢true is)
own_found cells (Some y) byte q is takes = grind (arith, eqb-true q y, cond-true, in_class_exact, contains_here y [])

pub own_is_own : (own : Option ℕ) (q : ℕ) → own ≡ Some q → is_own own q ≡ true
own_is_own own q h = ap (λ o. is_own o q) h ∙ eq-eqb q q refl

-- a state is among them exactly where it follows and takes the byte
pub followers_follow : (s : SequenceView) (p : ℕ) (b : Behind) (byte : ℕ) → ComesBehind s p b → (q : ℕ) → Contains (followers s b byte) q
    ↔ FollowsOn (whole_tree s) p byte q
unfolding followers
followers_follow s p b byte h q =
    let cells : List Cell = cells_of_sequence s in
    let spells = of_sequence s h.sequence in
    let law = comes_follows s p q b h in
    let walk = members_from (class_of (whole_tree s)) byte q b.enters cells (classes cells s s spells refl) in
    let class : class_in cells q ≡ class_of (whole_tree s) q = class_is cells s s q spells refl in (
      λ at. elim (Contains-append_cases (own_taken cells b.own byte) (taken_first byte (drop b.enters cells)) q at) [
        | inl one ↦ (let own = own_member cells b.own byte q one in (
          law.0
              (or_left (is_own b.own q) (entered_first (drop b.enters cells) q) (own_is_own b.own q own.0)),
          subst (λ x. InClass x byte) class own.1,
        ))
        | inr other ↦ (let more = walk.0 other in (law.0 (or_right (is_own b.own q) (entered_first (drop b.enters cells) q) more.0), more.1))
      ],
      λ on. elim (or_cases (is_own b.own q) (entered_first (drop b.enters cells) q) (law.1 on.0)) [
        | inl one ↦ Contains-append_left (own_taken cells b.own byte) (taken_first byte (drop b.enters cells)) q
            (own_found cells b.own byte q one (subst (λ x. InClass x byte) (sym class) on.1))
        | inr other ↦ Contains-append_right (own_taken cells b.own byte) (taken_first byte (drop b.enters cells)) q (walk.1 (other, on.1))
      ],
    )

-- they rise
entered_rise : (cells : List Cell) (enters byte : ℕ) → Lined 0 cells → IsStrictlyIncreasing (taken_first byte (drop enters cells))
entered_rise cells enters byte lined = let at = lined_drop 0 enters cells lined in
    above_rises at.before (taken_first byte (drop enters cells)) (first_above byte at.before (drop enters cells) at.lined)

rising : (cells : List Cell) (own : Option ℕ) (enters byte : ℕ) → Lined 0 cells → IfSome own (λ q. LiesBehind q (drop enters cells))
    → IsStrictlyIncreasing (own_taken cells own byte ++ taken_first byte (drop enters cells))
rising cells None enters byte lined order = entered_rise cells enters byte lined
rising cells (Some x) enters byte lined order =
    let list : List ℕ = taken_first byte (drop enters cells) in
    let first : Bool = in_class (class_in cells x) byte in
    elim (cases_Bool first) [
      | inl met ↦
          subst (λ l. IsStrictlyIncreasing (l ++ list)) (sym (cond-true first (x ∷ []) [] met))
          (rises_from x list (Above-lower x order.before list order.most (first_above byte order.before (drop enters cells) order.lined)))
      | inr apart ↦ subst (λ l. IsStrictlyIncreasing (l ++ list)) (sym (cond-false first (x ∷ []) [] apart)) (entered_rise cells enters byte lined)
    ]

pub followers_rise : (s : SequenceView) (p : ℕ) (b : Behind) (byte : ℕ) → ComesBehind s p b → IsStrictlyIncreasing (followers s b byte)
unfolding followers
followers_rise s p b byte h = rising (cells_of_sequence s) b.own b.enters byte (spelled_lined (cells_of_sequence s) s (of_sequence s h.sequence)) h.order

-- what an iterator over them begins with
pub followers_told : (list : List Cell) (s : SequenceView) (b : Behind) (own : Option ℕ) (byte : ℕ) → list ≡ cells_of_sequence s
    → own_list own ≡ own_taken list b.own byte
    → own_list own ++ taken_first byte (drop b.enters list) ≡ followers s b byte
unfolding followers
followers_told list s b own byte here told = ap (λ x. x ++ taken_first byte (drop b.enters list)) told ∙ ap
    (λ x. own_taken x b.own byte ++ taken_first byte (drop b.enters x)) here
