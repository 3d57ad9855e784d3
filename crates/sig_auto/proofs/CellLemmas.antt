-- What is known of cells that spell a sequence.
use Rattle.sig_auto.proofs.Common.{◌||◌, ◌≡◌, ◌↔◌, ℕ, ◌+◌, ◌<◌, ◌≤◌, ◌/◌, ◌==◌, if◌then◌else◌, Bool, true, false, List, drop, get_or, length, IfSome, Option}
use Rattle.sig_auto.proofs.Common.{Some, None, refl, sym, ap, ◌∙◌, subst, inl, inr, arith, option_eq, eqb-true, cases_eq, cases_lt, cond-false, cond-true}
use Rattle.sig_auto.proofs.Common.{eq-eqb, false_from_ne_true, false≢true, ne_eqb, follows, is_first, is_last, is_nullable, Tree, Never, Empty, Slot, Gap, Then}
use Rattle.sig_auto.proofs.Common.{Or, whole_tree, class_of, set_len, slots_of, Accepting, Follows, HasTrack, IsTrim, SequenceView, IsSequence, Behind, Cell}
use Rattle.sig_auto.proofs.Common.{AreReady, EndsAt, IsBehind, IsCellOf, LiesBehind, ComesBehind, is_own, slots_in, HasBit, cells_in, cells_of}
use Rattle.sig_auto.proofs.Common.{cells_of_sequence, IsFlat, Bounded, Lined, Spells, entered_first, is_joint, entered, exit, gone, land}
use lib.Dec.{eqb}
use Rattle.sig_auto.proofs.TrimLemmas.{accepting_slot, follows_slot, follows_start}
use Rattle.sig_auto.proofs.BeginLemmas.{accepts_nullable}
use Rattle.sig_auto.proofs.EndOrNotLemmas.{followed_is_state}
use Rattle.sig_auto.proofs.LocalLemmas.{is_last-slot}
use Rattle.sig_auto.proofs.WholeLemmas.{whole_has_track, whole_is_trim, whole_slots}
use Rattle.sig_auto.proofs.BehindLemmas.{is_in}
use Rattle.sig_auto.proofs.FlatLemmas.{whole_is_flat}
use Rattle.sig_auto.proofs.JoinLemmas.{here_of}
use Rattle.sig_auto.proofs.LeadLemmas.{ends, goes, stays}
use Rattle.sig_auto.proofs.LineLemmas.{bounded, class_at, length_of, lined, slot_parts, spread_of, total_of}
use Rattle.sig_auto.proofs.ShapeLemmas.{Fits, gap_positive, null_of_none}
use Rattle.sig_auto.proofs.TreeLemmas.{begins, lands, stops}

pub cells_few : (t : Tree) → cells_in t ≤ slots_of t
cells_few Never = omega arith
cells_few Empty = omega arith
cells_few (Slot c) = omega arith
cells_few (Gap min max) = grind (arith, cond-true, cond-false, gap_positive min max)
cells_few (Then t u) = let x = cells_few t in let y = cells_few u in omega arith
cells_few (Or t u) = let x = cells_few t in let y = cells_few u in omega arith

whole_fits : (t : Tree) → Fits t 0 0 (cells_in t)
whole_fits t = record { low = λ h. omega arith; high = λ h. omega arith; closed = λ h none. sym none }

pub spelled_lined : (cells : List Cell) (s : SequenceView) → Spells cells s → Lined 0 cells
spelled_lined cells s h = subst (Lined 0) (sym h.same) (lined (whole_tree s) 0 0 0 (cells_in (whole_tree s)))

pub spelled_length : (cells : List Cell) (s : SequenceView) → Spells cells s → length cells ≡ cells_in (whole_tree s)
spelled_length cells s h = ap length h.same ∙ length_of (whole_tree s) 0 0 0 (cells_in (whole_tree s))

pub spelled_slots : (cells : List Cell) (s : SequenceView) → Spells cells s → slots_in cells ≡ slots_of (whole_tree s)
spelled_slots cells s h = ap slots_in h.same ∙ total_of (whole_tree s) 0 0 0 (cells_in (whole_tree s))

pub spelled_cells : (cells : List Cell) (s : SequenceView) → Spells cells s → length cells ≤ 65535
spelled_cells cells s h = grind (arith, spelled_length cells s h, spelled_slots cells s h, cells_few (whole_tree s), spelled_slots, whole_slots)

pub ready : (cells list : List Cell) (s : SequenceView) → Spells cells s → list ≡ cells → AreReady list
ready cells list s h is = grind (arith, lined, spelled_lined cells s h, spelled_cells cells s h, spelled_slots, whole_slots)

pub slots_are : (cells list : List Cell) (s now : SequenceView) (n : ℕ) → Spells cells s → s ≡ now → list ≡ cells → n ≡ slots_in list
    → n ≡ slots_of (whole_tree now)
slots_are cells list s now n h same is told = told ∙ ap slots_in is ∙ spelled_slots cells s h ∙ ap (λ x. slots_of (whole_tree x)) same

-- a state is the start or a slot of the cells
pub within : (cells list : List Cell) (s now : SequenceView) (p : ℕ) → Spells cells s → s ≡ now → list ≡ cells → p ≤ slots_of (whole_tree now)
    → p ≤ slots_in list
within cells list s now p h same is most = grind (arith, spelled_slots cells s h)

-- ---- the start

pub start_goes : (cells : List Cell) (s : SequenceView) (q : ℕ) → Spells cells s → entered (Some 0) cells q ≡ is_first (whole_tree s) 0 q
start_goes cells s q h =
    let t : Tree = whole_tree s in
    ap (λ x. entered (Some 0) x q) h.same ∙ begins t 0 0 0 (cells_in t) q (whole_is_trim s h.sequence) (whole_is_flat s h.sequence) (whole_fits t)

start_ends : (t : Tree) → IsTrim t → HasTrack t → IsFlat t → is_joint (land (Some 0) (cells_of t 0 0 0 (cells_in t))) (cells_in t) ≡ is_nullable t
start_ends t trim some flat =
    grind (
      arith,
      lands t 0 0 0 (cells_in t) trim flat (whole_fits t),
      whole_fits t,
      eq-eqb,
      stops t 0 0 0 (cells_in t) trim flat (whole_fits t),
      false≢true,
      null_of_none t some,
      ne_eqb,
    )

-- ---- the slots

pub slot_goes : (cells : List Cell) (s : SequenceView) (p q : ℕ) → Spells cells s → 0 < p → p ≤ slots_in cells → gone cells p q ≡ follows (whole_tree s) 0 p q
slot_goes cells s p q h low high =
    let t : Tree = whole_tree s in
    let all = spelled_slots cells s h in
    ap (λ x. gone x p q) h.same ∙ goes t 0 0 0 (cells_in t) p q (whole_is_trim s h.sequence) (whole_is_flat s h.sequence) (whole_fits t) low (omega arith)

slot_ends : (t : Tree) (p : ℕ) → IsTrim t → IsFlat t → 0 < p → p ≤ slots_of t → is_joint (exit (cells_of t 0 0 0 (cells_in t)) p) (cells_in t) ≡ is_last t 0 p
slot_ends t p trim flat low high = grind (arith, ends, whole_fits, eq-eqb, stays, ne_eqb)

-- ---- what follows a state, and where a track ends

pub behind_follows : (cells : List Cell) (s now : SequenceView) (p q : ℕ) (b : Behind) (own enters : Bool) → Spells cells s → s ≡ now → p ≤ slots_in cells
    → IsBehind cells p b →
    own ≡ is_own b.own q → enters ≡ entered_first (drop b.enters cells) q → ((own || enters) ≡ true) ↔ Follows (whole_tree now) p q
behind_follows cells s now p q b own enters h same within is own_is enters_is =
    let trim = whole_is_trim s h.sequence in
    let starts = follows_start (whole_tree s) trim p q (own || enters) in
    let goes_on = follows_slot (whole_tree s) trim p q (own || enters) in
    grind (arith, cond-true, cond-false, eq-eqb, ne_eqb, starts, goes_on, start_goes cells s q h, slot_goes cells s p q h, is.goes q)

accepts_where : (cells : List Cell) (s now : SequenceView) (p : ℕ) (r : Bool) → Spells cells s → s ≡ now → p ≤ slots_in cells
    → r ≡ is_joint (if p == 0 then land (Some 0) cells else exit cells p) (length cells) → (r ≡ true) ↔ Accepting (whole_tree now) p
accepts_where cells s now p r h same within is =
    let t : Tree = whole_tree s in
    let trim = whole_is_trim s h.sequence in
    let flat = whole_is_flat s h.sequence in
    let some_track = whole_has_track s h.sequence in
    let long = spelled_length cells s h in
    let all = spelled_slots cells s h in
    elim (cases_eq p 0) [
      | inl start ↦ grind (arith, h.same, cond-true, eq-eqb, accepts_nullable t r trim, start_ends t trim some_track flat)
      | inr some ↦ grind (arith, h.same, cond-false, ne_eqb, accepting_slot t trim p r, slot_ends t p trim flat)
    ]

-- a number above all slots is no state
pub none_follows : (cells : List Cell) (s now : SequenceView) (p q : ℕ) → Spells cells s → s ≡ now → slots_of (whole_tree now) < p → (false ≡ true)
    ↔ Follows (whole_tree now) p q
none_follows cells s now p q h same above = (λ e. absurd (false≢true e), λ f. (let most = followed_is_state (whole_tree now) p q f in absurd (omega arith)))

pub none_accepts : (cells : List Cell) (s now : SequenceView) (p : ℕ) → Spells cells s → s ≡ now → slots_of (whole_tree now) < p → (false ≡ true)
    ↔ Accepting (whole_tree now) p
none_accepts cells s now p h same above =
    let sequence : IsSequence now = subst IsSequence same h.sequence in
    accepting_slot (whole_tree now) (whole_is_trim now sequence) p false (ne_eqb p 0 (λ e. absurd (omega arith)))
    (sym (false_from_ne_true (is_last (whole_tree now) 0 p) (λ is. (let slot = (is_last-slot (whole_tree now) 0 p is).1 in absurd (omega arith)))))

-- ---- the class of a slot

pub class_told : (cells list : List Cell) (s now : SequenceView) (q k : ℕ) (c : Cell) → Spells cells s → s ≡ now → list ≡ cells → c ≡ get_or cells k c
    → IsCellOf list q k → c.class ≡ class_of (whole_tree now) q
class_told cells list s now q k c h same is here at =
    let found = class_at cells (drop (k + 1) cells) 0 k q in
    grind (
      arith,
      is_in list q k at,
      here_of cells k c,
      slot_parts at.cell q at.slot,
      found,
      spelled_lined cells s h,
      spread_of (whole_tree s) 0 0 0 (cells_in (whole_tree s)),
    )

pub behind_told : (cells list other : List Cell) (s now : SequenceView) (p q : ℕ) (b : Behind) (own enters : Bool) → Spells cells s → s ≡ now → list ≡ cells
    → other ≡ cells → p ≤ slots_of (whole_tree now) → IsBehind list p b →
    own ≡ is_own b.own q → enters ≡ entered_first (drop b.enters other) q → ((own || enters) ≡ true) ↔ Follows (whole_tree now) p q
behind_told cells list other s now p q b own enters h same is is_other most told own_is enters_is =
    behind_follows cells s now p q b own enters h same (within cells cells s now p h same refl most) (subst (λ x. IsBehind x p b) is told) own_is
    (enters_is ∙ ap (λ x. entered_first (drop b.enters x) q) is_other)

pub out_of_slots : (cells list : List Cell) (s now : SequenceView) (p n : ℕ) → Spells cells s → s ≡ now → list ≡ cells → n ≡ slots_in list → n < p
    → slots_of (whole_tree now) < p
out_of_slots cells list s now p n h same is told above = grind (arith, slots_are cells list s now n h same is told)

pub in_slots : (cells list : List Cell) (s now : SequenceView) (p n : ℕ) → Spells cells s → s ≡ now → list ≡ cells → n ≡ slots_in list → p ≤ n
    → p ≤ slots_of (whole_tree now)
in_slots cells list s now p n h same is told most = grind (arith, slots_are cells list s now n h same is told)

pub follows_then : (cells list : List Cell) (s now : SequenceView) (p q : ℕ) (b : Behind) (own : Bool) → Spells cells s → s ≡ now → list ≡ cells
    → p ≤ slots_of (whole_tree now) → IsBehind list p b →
    own ≡ is_own b.own q → own ≡ true → (own ≡ true) ↔ Follows (whole_tree now) p q
follows_then cells list s now p q b own h same is most told own_is so = grind (arith, behind_told)

pub follows_else : (cells list : List Cell) (s now : SequenceView) (p q : ℕ) (b : Behind) (own enters : Bool) → Spells cells s → s ≡ now → list ≡ cells
    → p ≤ slots_of (whole_tree now) → IsBehind list p b →
    own ≡ is_own b.own q → enters ≡ entered_first (drop b.enters list) q → own ≡ false → (enters ≡ true) ↔ Follows (whole_tree now) p q
follows_else cells list s now p q b own enters h same is most told own_is enters_is not =
    subst (λ x. ((x || enters) ≡ true) ↔ Follows (whole_tree now) p q) not
    (behind_told cells list list s now p q b own enters h same is is most told own_is enters_is)

pub same_own : (a b : Option ℕ) (r : Bool) → r ≡ option_eq eqb a b → r ≡ true → a ≡ b
same_own None None r is h = refl
same_own None (Some y) r is h = absurd (false≢true (sym is ∙ h))
same_own (Some x) None r is h = absurd (false≢true (sym is ∙ h))
same_own (Some x) (Some y) r is h = ap Some (eqb-true x y (sym is ∙ h))

pub bounded_told : (cells list : List Cell) (s : SequenceView) → Spells cells s → list ≡ cells → Bounded (length list) list
bounded_told cells list s h is = grind (arith, spelled_length cells s h, bounded (whole_tree s) 0 0 0 (cells_in (whole_tree s)) (cells_in (whole_tree s)))

-- ---- the set of the accepting states

-- a state is accepting exactly where the joint behind all cells is reached from it
pub ends_accept : (cells : List Cell) (s : SequenceView) (p : ℕ) → Spells cells s → EndsAt cells p ↔ Accepting (whole_tree s) p
ends_accept cells s p h =
    let many = spelled_slots cells s h in
    let r : Bool = is_joint (if p == 0 then land (Some 0) cells else exit cells p) (length cells) in
    elim (cases_lt (slots_in cells) p) [
      | inl above ↦ (
          let none = none_accepts cells s s p h refl (omega arith) in
          (λ at. absurd (let low = at.0 in omega arith), λ a. absurd (false≢true (none.1 a))))
      | inr within ↦ (
          let is = accepts_where cells s s p r h refl within refl in
          (λ at. is.0 at.1, λ a. (within, is.1 a)))
    ]

pub accepting_told : (cells list : List Cell) (s : SequenceView) (set : List ℕ) → Spells cells s → list ≡ cells → ((p : ℕ) → HasBit set p ↔ EndsAt list p)
    → (p : ℕ) → HasBit set p ↔ Accepting (whole_tree s) p
accepting_told cells list s set h is ends p = grind (arith, ends_accept cells s p h)

pub few_slots : (cells list : List Cell) (s : SequenceView) (n : ℕ) → Spells cells s → list ≡ cells → n ≡ slots_in list → n ≤ 65535
few_slots cells list s n h is told = grind (arith, spelled_slots, whole_slots)

pub set_room : (cells list : List Cell) (s : SequenceView) (set : List ℕ) → Spells cells s → list ≡ cells → length set ≡ (slots_in list + 8) / 8
    → length set ≡ set_len (whole_tree s)
set_room cells list s set h is len = len ∙ ap (λ n. (n + 8) / 8) (ap slots_in is ∙ spelled_slots cells s h)

-- ---- what comes behind a state, in the words of its sequence

pub of_sequence : (s : SequenceView) → IsSequence s → Spells (cells_of_sequence s) s
of_sequence s h = record { sequence = h; same = refl }

pub spelled_are : (cells list : List Cell) (s now : SequenceView) → Spells cells s → s ≡ now → list ≡ cells → list ≡ cells_of_sequence now
spelled_are cells list s now h same is = is ∙ h.same ∙ ap cells_of_sequence same

pub comes_behind : (cells list : List Cell) (s now : SequenceView) (p : ℕ) (b : Behind) → Spells cells s → s ≡ now → list ≡ cells
    → p ≤ slots_of (whole_tree now) → IsBehind list p b
    → IfSome b.own (λ q. LiesBehind q (drop b.enters list)) → IfSome b.own (λ q. IsCellOf list q b.cell) → ComesBehind now p b
comes_behind cells list s now p b h same is state told order cell =
    let sequence : IsSequence now = subst IsSequence same h.sequence in
    let here = spelled_are cells list s now h same is in
    record {
      sequence = sequence;
      state = state;
      few = few_slots cells cells s (slots_of (whole_tree now)) h refl (sym (spelled_slots cells s h ∙ ap (λ x. slots_of (whole_tree x)) same));
      is = subst (λ x. IsBehind x p b) here told;
      order = subst (λ x. IfSome b.own (λ q. LiesBehind q (drop b.enters x))) here order;
      cell = subst (λ x. IfSome b.own (λ q. IsCellOf x q b.cell)) here cell;
    }

pub cell_there : (list : List Cell) (s : SequenceView) (p : ℕ) (b : Behind) → list ≡ cells_of_sequence s → ComesBehind s p b
    → IfSome b.own (λ q. IsCellOf list q b.cell)
cell_there list s p b here h = subst (λ x. IfSome b.own (λ q. IsCellOf x q b.cell)) (sym here) h.cell

pub comes_follows : (s : SequenceView) (p q : ℕ) (b : Behind) → ComesBehind s p b
    → ((is_own b.own q || entered_first (drop b.enters (cells_of_sequence s)) q) ≡ true) ↔ Follows (whole_tree s) p q
comes_follows s p q b h =
    let cells : List Cell = cells_of_sequence s in
    behind_told cells cells cells s s p q b (is_own b.own q) (entered_first (drop b.enters cells) q) (of_sequence s h.sequence) refl refl refl h.state h.is refl
    refl

pub alike : (s : SequenceView) (p q : ℕ) (one other : Behind) → ComesBehind s p one → ComesBehind s q other → one.own ≡ other.own → one.enters ≡ other.enters
    → (next : ℕ) → Follows (whole_tree s) p next ↔ Follows (whole_tree s) q next
alike s p q one other h g own enters next = grind (arith, comes_follows s p next one h, comes_follows s q next other g)
