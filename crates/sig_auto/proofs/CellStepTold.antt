-- A step in the words of the cells is a step of the automaton.
use Rattle.sig_auto.proofs.Common.{◌||◌, ◌≡◌, ◌⊎◌, ◌↔◌, ◌∙◌, ℕ, zero, suc, ◌+◌, ◌<◌, ◌≤◌, nat_le, inl, inr, true, false, List, [], ◌∷◌, drop, get_or, length}
use Rattle.sig_auto.proofs.Common.{Some, arith, refl, subst, sym, slice_get, cases_Bool, cases_eq, cases_lt, cond-false, cond-true, false≢true, le-leb}
use Rattle.sig_auto.proofs.Common.{leb-true, ne_eqb, or_cases, or_left, or_right, get_or_from_slice_get, slice_get-get_or, slice_get_within, HasBit, Cell}
use Rattle.sig_auto.proofs.Common.{Joint, Joints, slots_in, GoesIn, IsCellStep, IsEntered, Lined, Spells, entered_first, AreJoints, IsJoint, IsStepOf, Follows}
use Rattle.sig_auto.proofs.Common.{whole_tree, entered, gone, has_slot, leave, own, SequenceView}
use Rattle.sig_auto.proofs.BehindLemmas.{seek_enters}
use Rattle.sig_auto.proofs.CellLemmas.{slot_goes, spelled_lined, spelled_slots, start_goes}
use Rattle.sig_auto.proofs.CellStepLemmas.{cell_at, slot_from}
use Rattle.sig_auto.proofs.CellSuccessorLemmas.{class_is}
use Rattle.sig_auto.proofs.EndOrNotLemmas.{followed_is_state}
use Rattle.sig_auto.proofs.LineLemmas.{gone_at, lined_later, slot_parts}
use Rattle.sig_auto.proofs.TrimLemmas.{follows_slot, follows_start}
use Rattle.sig_auto.proofs.WayLemmas.{entered_past, passes_none}
use Rattle.sig_auto.proofs.WholeLemmas.{whole_is_trim}

a_joint : Joint
a_joint = record { enters = 0; beside = 0; ends = false }

-- the cell that has a slot
cell_of : (cs : List Cell) (n p : ℕ) → Lined n cs → n < p → p ≤ n + slots_in cs → (k : ℕ) × (c : Cell) × (slice_get cs k ≡ Some c) × (has_slot c p ≡ true)
cell_of [] n p lined low high = absurd (omega arith)
cell_of (c ∷ cs) n p lined low high =
    let at = lined.0 in
    elim (cases_lt (n + c.count) p) [
      | inl behind ↦ (let (k, d, there, slot) = cell_of cs (n + c.count) p lined.2 behind (omega arith) in (suc k, d, there, slot))
      | inr here ↦ (zero, c, refl, slot_from c p (omega arith) (omega arith))
    ]

-- what is entered behind a slot that leaves its cell
left_enters : (cells : List Cell) (joints : Joints) (k p q : ℕ) (c : Cell) (e : Joint) → AreJoints cells joints → slice_get cells k ≡ Some c
    → slice_get joints.each.items k ≡ Some e → c.before + c.least ≤ p → entered (leave c p) (drop (k + 1) cells) q ≡ entered_first (drop e.enters cells) q
left_enters cells joints k p q c e joined at behind late =
    let rest : List Cell = drop (k + 1) cells in
    let joint : IsJoint (length cells) c rest k e =
    subst (IsJoint (length cells) c rest k) (get_or_from_slice_get joints.each.items k e e behind) (joined.each k c rest e (cell_at cells k c at)) in
    grind (arith, cond-true, le-leb, seek_enters)

-- the states that follow the start and those that follow a slot
follows_first : (cells : List Cell) (joints : Joints) (s : SequenceView) (q : ℕ) → Spells cells s → AreJoints cells joints
    → (entered_first (drop joints.start cells) q ≡ true) ↔ Follows (whole_tree s) 0 q
follows_first cells joints s q h joined =
    grind (
      arith,
      follows_start (whole_tree s) (whole_is_trim s h.sequence) 0 q (entered_first (drop joints.start cells) q) refl,
      whole_is_trim s h.sequence,
      seek_enters cells cells 0 0 q refl,
      start_goes cells s q h,
    )

follows_some : (cells : List Cell) (s : SequenceView) (p q : ℕ) → Spells cells s → 0 < p → p ≤ slots_in cells → (gone cells p q ≡ true)
    ↔ Follows (whole_tree s) p q
follows_some cells s p q h low high = follows_slot (whole_tree s) (whole_is_trim s h.sequence) p q (gone cells p q) (ne_eqb p 0 (λ z. omega arith))
    (slot_goes cells s p q h low high)

-- a slot of a cell is one of all
in_all : (cells : List Cell) (k p : ℕ) (c : Cell) → Lined 0 cells → slice_get cells k ≡ Some c → has_slot c p ≡ true → (0 < p) × (p ≤ slots_in cells)
in_all cells k p c lined at slot = grind (
  arith,
  slot_parts c p slot,
  lined_later cells (drop (k + 1) cells) 0 k c lined (cell_at cells k c at),
  cell_at cells k c at,
)

goes_behind : (cells : List Cell) (joints : Joints) (s : SequenceView) (from : List ℕ) (q : ℕ) → Spells cells s → AreJoints cells joints
    → (GoesIn cells from q ⊎ IsEntered cells joints from q) ↔ ((p : ℕ) × HasBit from p × Follows (whole_tree s) p q)
goes_behind cells joints s from q h joined =
    let lined = spelled_lined cells s h in
    let many = spelled_slots cells s h in
    let go : (k p : ℕ) (c : Cell) → slice_get cells k ≡ Some c → has_slot c p ≡ true
    → gone cells p q ≡ (own c p q || entered (leave c p) (drop (k + 1) cells) q) =
    (λ k p c at slot. gone_at cells (drop (k + 1) cells) 0 k p q c lined (cell_at cells k c at) slot) in (
      λ at. elim at [
        | inl goes ↦ (
            let g = goes.within in
            let inside = in_all cells goes.place g.state goes.cell lined goes.at g.slot in (
              g.state,
              g.in_set,
              (follows_some cells s g.state q h inside.0 inside.1).0
                  (go goes.place g.state goes.cell goes.at g.slot ∙ or_left (own goes.cell g.state q)
                  (entered (leave goes.cell g.state) (drop (goes.place + 1) cells) q) g.goes),
            ))
        | inr is ↦ elim is [
          | inl begin ↦ (0, begin.0, (follows_first cells joints s q h joined).0 begin.1)
          | inr (k, i, leaves, there) ↦ (
              let l = leaves.left in
              let inside = in_all cells k l.state leaves.cell lined leaves.at l.slot in
              let on = left_enters cells joints k l.state q leaves.cell leaves.joint joined leaves.at leaves.behind l.late in (
                l.state,
                l.in_set,
                (follows_some cells s l.state q h inside.0 inside.1).0
                    (go k l.state leaves.cell leaves.at l.slot
                    ∙ or_right (own leaves.cell l.state q) (entered (leave leaves.cell l.state) (drop (k + 1) cells) q)
                    (on ∙ subst (λ n. entered_first (drop n cells) q ≡ true) leaves.is there)),
              ))
        ]
      ],
      λ (p, bit, follows). elim (cases_eq p 0) [
        | inl start ↦ inr (inl (
          subst (HasBit from) start bit,
          (follows_first cells joints s q h joined).1
              (subst (λ n. Follows (whole_tree s) n q) start follows),
        ))
        | inr some ↦ (
            let most = followed_is_state (whole_tree s) p q follows in
            let (k, c, at, slot) = cell_of cells 0 p lined (omega arith) (omega arith) in
            let gone_is : gone cells p q ≡ true = (follows_some cells s p q h (omega arith) (omega arith)).1 follows in
            elim (or_cases (own c p q) (entered (leave c p) (drop (k + 1) cells) q) (sym (go k p c at slot) ∙ gone_is)) [
              | inl within ↦ inl (record { place = k; cell = c; at = at; within = record { state = p; in_set = bit; slot = slot; goes = within } })
              | inr left ↦ elim (cases_Bool (nat_le (c.before + c.least) p)) [
                | inl late ↦ (
                    let inside = slice_get_within cells k c at in
                    let few : length joints.each.items ≡ length cells = joined.many in
                    let e : Joint = get_or joints.each.items k a_joint in
                    let behind : slice_get joints.each.items k ≡ Some e = slice_get-get_or joints.each.items k a_joint (omega arith) in
                    let later = leb-true (c.before + c.least) p late in
                    let on = left_enters cells joints k p q c e joined at behind later in
                    inr (inr (
                      k,
                      e.enters,
                      record {
                        cell = c;
                        joint = e;
                        at = at;
                        behind = behind;
                        left = record { state = p; in_set = bit; slot = slot; late = later };
                        is = refl;
                      },
                      sym on ∙ left,
                    )))
                | inr early ↦ grind (arith, false≢true, cond-false, entered_past, passes_none)
              ]
            ])
      ],
    )

pub step_told : (cells list : List Cell) (joints : Joints) (s now : SequenceView) (from : List ℕ) (byte q : ℕ) → Spells cells s → s ≡ now → list ≡ cells
    → AreJoints cells joints → IsCellStep list joints from byte q ↔ IsStepOf (whole_tree now) from byte q
step_told cells list joints s now from byte q h same is joined =
    let class = class_is cells s now q h same in
    let behind = goes_behind cells joints s from q h joined in
    subst (λ (l : List Cell). IsCellStep l joints from byte q ↔ IsStepOf (whole_tree now) from byte q) (sym is) (
      λ step. grind arith,
      λ some. grind arith,
    )
