-- One cell of a step: what is known before it, and behind it.
use Rattle.sig_auto.proofs.Common.{◌≡◌, ◌≢◌, ◌⊎◌, ◌↔◌, ◌∙◌, ℕ, ◌+◌, ◌-◌, ◌<◌, ◌≤◌, inl, inr, Bool, true, List, drop, get_or, length, Some, ap, arith, refl}
use Rattle.sig_auto.proofs.Common.{subst, sym, slice_get, cases_eq, cases_lt, get_or_from_slice_get, slice_get-get_or, slice_get_within, HasBit, Cell, Joint}
use Rattle.sig_auto.proofs.Common.{Joints, slots_in, GoesWithin, IsAhead, IsCellStep, IsEntered, IsFirstOf, IsLeft, IsPassed, IsSomePassed, LeavesFor, InClass}
use Rattle.sig_auto.proofs.Common.{any, Lined, entered_first, AreJoints, IsJoint, class_in, spread}
use Rattle.sig_auto.proofs.BehindLemmas.{a_cell, lined_drop, met_here, passed, seek_above}
use Rattle.sig_auto.proofs.CellStepLemmas.{above_cell, cell_at, first_above, first_low, first_there, goes_inside, has_some, same_first, same_place, some_cell}
use Rattle.sig_auto.proofs.JoinLemmas.{drop_past}
use Rattle.sig_auto.proofs.LineLemmas.{class_at, lined_later}

-- what a pass over the cell at place k begins with, n slots before it, and what it makes of the set
pub record IsPass (cells : List Cell) (joints : Joints) (from old new : List ℕ) (byte k n : ℕ) (c : Cell) (e : Joint) (takes met left : Bool) : Type 0 where
  pub lined : Lined 0 cells
  pub joined : AreJoints cells joints
  pub at : slice_get cells k ≡ Some c
  pub joint : e ≡ get_or joints.each.items k e
  pub takes_is : (takes ≡ true) ↔ InClass c.class byte
  pub met_is : (met ≡ true) ↔ HasBit old (c.before + 1)
  pub left_is : (left ≡ true) ↔ IsLeft c from
  pub bits : (s : ℕ) → HasBit new s ↔ ((((HasBit old s ⊎ ((met ≡ true) × IsFirstOf cells e.beside s)) ⊎ ((left ≡ true) × IsFirstOf cells e.enters s))
      × ((s ≢ c.before + 1) ⊎ (takes ≡ true))) ⊎ ((takes ≡ true) × GoesWithin c from s))
  pub before : IsPassed cells joints from byte old k n

-- a joint leads to cells behind it
joint_above : (cells : List Cell) (joints : Joints) (k : ℕ) (c : Cell) (e : Joint) → AreJoints cells joints → slice_get cells k ≡ Some c
    → e ≡ get_or joints.each.items k e → (k + 1 ≤ e.enters) × (k + 1 ≤ e.beside)
joint_above cells joints k c e joined at is =
    let rest : List Cell = drop (k + 1) cells in
    let joint : IsJoint (length cells) c rest k e = subst (IsJoint (length cells) c rest k) (sym is) (joined.each k c rest e (cell_at cells k c at)) in
    (subst (λ n. k + 1 ≤ n) (sym joint.enters) (seek_above rest (k + 1) _), subst (λ n. k + 1 ≤ n) (sym joint.beside) (seek_above rest (k + 1) _))

joint_at : (joints : Joints) (k : ℕ) (e f : Joint) → e ≡ get_or joints.each.items k e → slice_get joints.each.items k ≡ Some f → f ≡ e
joint_at joints k e f is at = sym (get_or_from_slice_get joints.each.items k f e at) ∙ sym is

leaves_above : (cells : List Cell) (joints : Joints) (from : List ℕ) (m i : ℕ) → AreJoints cells joints → LeavesFor cells joints from m i → m + 1 ≤ i
leaves_above cells joints from m i joined l = grind (arith, get_or_from_slice_get, joint_above cells joints m l.cell l.joint joined l.at)

-- the first slot of the cell
first_is : (cells : List Cell) (k s : ℕ) (c : Cell) → slice_get cells k ≡ Some c → IsFirstOf cells k s → s ≡ c.before + 1
first_is cells k s c at f = grind arith

-- ---- a pass

module _ (cells : List Cell) (joints : Joints) (from old new : List ℕ) (byte k n : ℕ) (c : Cell) (e : Joint) (takes met left : Bool)
    (p : IsPass cells joints from old new byte k n c e takes met left) where
  begins_at : c.before ≡ n
  begins_at = grind (arith, cell_at cells k c p.at)

  -- a slot of the cell that the set has is the first one
  old_here : (q : ℕ) → n < q → q ≤ n + c.count → HasBit old q → q ≡ c.before + 1
  old_here q low high had =
      let start = begins_at in
      let (j, later, f) = p.before.marks q low had in
      grind (arith, first_above, first_is)

  -- of its slots the first alone is entered, and that where the set has it
  entered_here : (q : ℕ) → n < q → q ≤ n + c.count → IsEntered cells joints from q ↔ ((q ≡ c.before + 1) × HasBit old (c.before + 1))
  entered_here q low high =
      let start = begins_at in
      let inside = slice_get_within cells k c p.at in
      let c_is : get_or cells k c ≡ c = get_or_from_slice_get cells k c c p.at in
      let beyond = joint_above cells joints k c e p.joined p.at p.joint in
      let not_above : (i : ℕ) → k + 1 ≤ i → entered_first (drop i cells) q ≡ true → ⊥ =
      (λ i more go. let above = above_cell cells k i q c p.lined p.at more go in omega arith) in (
        λ is. elim ((p.before.ahead q low).0 is) [
          | inl (j, later, marked, go) ↦ elim (cases_lt k j) [
            | inl more ↦ absurd (not_above j (omega arith) go)
            | inr same ↦ (
                let j_is : j ≡ k = omega arith in
                let slot : marked.slot ≡ c.before + 1 = first_is cells k marked.slot c p.at (subst (λ i. IsFirstOf cells i marked.slot) j_is marked.is) in
                let bit : HasBit old (c.before + 1) = subst (HasBit old) slot marked.bit in
                let here : entered_first (drop k cells) q ≡ true = subst (λ i. entered_first (drop i cells) q ≡ true) j_is go in
                elim (cases_eq (c.before + 1) q) [
                  | inl first ↦ (sym first, bit)
                  | inr other ↦ (
                      let on = passed cells joints k q c e p.joined inside p.joint (λ is. other (ap (λ (d : Cell). d.before + 1) (sym c_is) ∙ is)) in
                      absurd (not_above e.beside beyond.1 (sym on ∙ here)))
                ])
          ]
          | inr (m, i, later, leaves, go) ↦ (
              let more = leaves_above cells joints from m i p.joined leaves in
              absurd (not_above i (omega arith) go))
        ],
        λ both. (p.before.ahead q low).1 (inl (
          k,
          omega arith,
          record { slot = c.before + 1; is = record { cell = c; at = p.at; first = refl }; bit = both.1 },
          met_here cells k q c inside (both.0 ∙ ap (λ (d : Cell). d.before + 1) (sym c_is)),
        )),
      )

  -- ---- behind the cell

  -- the slots before the cell stay as they are
  kept_before : (q : ℕ) → q ≤ n → HasBit new q ↔ HasBit old q
  kept_before q low =
      let start = begins_at in
      let beyond = joint_above cells joints k c e p.joined p.at p.joint in
      let not_first : (i : ℕ) → k + 1 ≤ i → IsFirstOf cells i q → ⊥ =
      (λ i more f. let above = first_above cells k i q c p.lined p.at more f in omega arith) in
      grind (arith, goes_inside, p.bits)

  -- those of the cell are done
  done_here : (q : ℕ) → n < q → q ≤ n + c.count → HasBit new q ↔ IsCellStep cells joints from byte q
  done_here q low high =
      let start = begins_at in
      let beyond = joint_above cells joints k c e p.joined p.at p.joint in
      let entered = entered_here q low high in
      let here = old_here q low high in
      let class : class_in cells q ≡ c.class =
      sym (ap (λ i. get_or (spread cells) i any) (let i : q - (0 + 1) ≡ q - 1 = omega arith in i))
      ∙ class_at cells (drop (k + 1) cells) 0 k q c p.lined (cell_at cells k c p.at) (omega arith) (omega arith) in
      let not_first : (i : ℕ) → k + 1 ≤ i → IsFirstOf cells i q → ⊥ =
      (λ i more f. let above = first_above cells k i q c p.lined p.at more f in omega arith) in
      let takes_q : (takes ≡ true) → InClass (class_in cells q) byte = (λ t. subst (λ x. InClass x byte) (sym class) (p.takes_is.0 t)) in
      let taken_q : InClass (class_in cells q) byte → takes ≡ true = (λ i. p.takes_is.1 (subst (λ x. InClass x byte) class i)) in (
        λ h. elim ((p.bits q).0 h) [
          | inl kept ↦ elim kept.0 [
            | inl more ↦ grind arith
            | inr entered_too ↦ absurd (not_first e.enters beyond.0 entered_too.1)
          ]
          | inr goes ↦ (takes_q goes.0, inl (record { place = k; cell = c; at = p.at; within = goes.1 }))
        ],
        λ step. elim step.1 [
          | inl goes ↦ (
              let inside = goes_inside goes.cell from q goes.within in
              let place : goes.place ≡ k = same_place cells goes.place k q goes.cell c p.lined goes.at p.at inside.0 inside.1 (omega arith) (omega arith) in
              let same : Some goes.cell ≡ Some c = sym goes.at ∙ ap (slice_get cells) place ∙ p.at in
              let is : goes.cell ≡ c = cc in
              (p.bits q).1 (inr (taken_q step.0, subst (λ (d : Cell). GoesWithin d from q) is goes.within)))
          | inr is ↦ grind (arith, p.bits)
        ],
      )

  -- the set has first slots alone behind the cell
  marks_behind : (q : ℕ) → n + c.count < q → HasBit new q → (j : ℕ) × (k + 1 ≤ j) × IsFirstOf cells j q
  marks_behind q low h =
      let some = has_some cells k c p.lined p.at in
      let beyond = joint_above cells joints k c e p.joined p.at p.joint in
      grind (arith, begins_at, some, beyond, first_is cells k q c p.at, goes_inside c from q, p.bits, p.before.marks)

  -- a first slot behind the cell is in the set where it was, or is entered now
  marked_behind : (j s : ℕ) → k + 1 ≤ j → IsFirstOf cells j s
      → HasBit new s ↔ (HasBit old s ⊎ (((met ≡ true) × (j ≡ e.beside)) ⊎ ((left ≡ true) × (j ≡ e.enters))))
  marked_behind j s more f =
      let some = has_some cells k c p.lined p.at in
      let low = first_above cells k j s c p.lined p.at more f in
      grind (arith, begins_at, some, low, same_first cells j e.beside s p.lined f, same_first cells j e.enters s p.lined f, goes_inside c from s, p.bits)

  -- what is entered behind the cell is entered from there on
  ahead_behind : (q : ℕ) → n + c.count < q → IsAhead cells joints from old k q ↔ IsAhead cells joints from new (k + 1) q
  ahead_behind q low =
      let start = begins_at in
      let some = has_some cells k c p.lined p.at in
      let inside = slice_get_within cells k c p.at in
      let beyond = joint_above cells joints k c e p.joined p.at p.joint in
      let c_is : get_or cells k c ≡ c = get_or_from_slice_get cells k c c p.at in
      let on : entered_first (drop k cells) q ≡ entered_first (drop e.beside cells) q =
      passed cells joints k q c e p.joined inside p.joint (λ is. (let first : c.before + 1 ≡ q = ap (λ (d : Cell). d.before + 1) (sym c_is) ∙ is in
      omega arith)) in
      let is_many : length joints.each.items ≡ length cells = p.joined.many in
      let behind : slice_get joints.each.items k ≡ Some e =
      slice_get-get_or joints.each.items k e (omega arith) ∙ ap (λ x. Some x) (sym p.joint) in
      let mark : (i : ℕ) → k + 1 ≤ i → entered_first (drop i cells) q ≡ true → (((met ≡ true) × (i ≡ e.beside)) ⊎ ((left ≡ true) × (i ≡ e.enters)))
      → IsAhead cells joints from new (k + 1) q =
      (λ i more go now.
      let f = first_there cells i c (some_cell cells i q go) in
      inl (
        i,
        more,
        record {
          slot = (get_or cells i c).before + 1;
          is = f;
          bit = (marked_behind i _ more f).1 (inr now);
        },
        go,
      )) in (
        λ h. elim h [
          | inl (j, later, marked, go) ↦ elim (cases_lt k j) [
            | inl more ↦ inl (
              j,
              omega arith,
              record {
                slot = marked.slot;
                is = marked.is;
                bit = (marked_behind j marked.slot (omega arith) marked.is).1 (inl marked.bit);
              },
              go,
            )
            | inr same ↦ (
                let j_is : j ≡ k = omega arith in
                let slot : marked.slot ≡ c.before + 1 = first_is cells k marked.slot c p.at (subst (λ i. IsFirstOf cells i marked.slot) j_is marked.is) in
                let bit : met ≡ true = p.met_is.1 (subst (HasBit old) slot marked.bit) in
                let here : entered_first (drop k cells) q ≡ true = subst (λ i. entered_first (drop i cells) q ≡ true) j_is go in
                mark e.beside beyond.1 (sym on ∙ here) (inl (bit, refl)))
          ]
          | inr (m, i, later, leaves, go) ↦ elim (cases_lt k m) [
            | inl more ↦ inr (m, i, omega arith, leaves, go)
            | inr same ↦ (
                let m_is : m ≡ k = omega arith in
                let l : LeavesFor cells joints from k i = subst (λ x. LeavesFor cells joints from x i) m_is leaves in
                let cell : Some l.cell ≡ Some c = sym l.at ∙ p.at in
                let l_is : l.cell ≡ c = cc in
                let joint = joint_at joints k e l.joint p.joint l.behind in
                let i_is : i ≡ e.enters = l.is ∙ ap (λ (x : Joint). x.enters) joint in
                let gone : left ≡ true = p.left_is.1 (subst (λ (d : Cell). IsLeft d from) l_is l.left) in
                mark i (subst (λ x. k + 1 ≤ x) (sym i_is) beyond.0) go (inr (gone, i_is)))
          ]
        ],
        λ h. elim h [
          | inl (j, later, marked, go) ↦ elim ((marked_behind j marked.slot later marked.is).0 marked.bit) [
            | inl had ↦ inl (j, omega arith, record { slot = marked.slot; is = marked.is; bit = had }, go)
            | inr now ↦ elim now [
              | inl beside ↦ inl (
                k,
                omega arith,
                record {
                  slot = c.before + 1;
                  is = record { cell = c; at = p.at; first = refl };
                  bit = p.met_is.0 beside.0;
                },
                on ∙ subst (λ i. entered_first (drop i cells) q ≡ true) beside.1 go,
              )
              | inr entered ↦ grind (arith, p.left_is)
            ]
          ]
          | inr (m, i, later, leaves, go) ↦ inr (m, i, omega arith, leaves, go)
        ],
      )

  pub passed_on : IsSomePassed cells joints from byte new (k + 1)
  passed_on =
      let start = begins_at in
      let later = lined_later cells (drop (k + 1) cells) 0 k c p.lined (cell_at cells k c p.at) in
      let sum = later.3 in (
        n + c.count,
        record {
          lined = subst (λ m. Lined (m + c.count) (drop (k + 1) cells)) start later.2;
          sum = omega arith;
          done = λ q most. elim (cases_lt n q) [
            | inl inside ↦ done_here q inside most
            | inr low ↦ (
                let kept = kept_before q low in
                let is = p.before.done q low in
                (λ h. is.0 (kept.0 h), λ step. kept.1 (is.1 step)))
          ];
          marks = λ q low h. marks_behind q low h;
          ahead = λ q low.
              let is = p.before.ahead q (omega arith) in
              let on = ahead_behind q low in
              (λ x. on.0 (is.0 x), λ x. is.1 (on.1 x));
        },
      )

pub pass_told : (cells : List Cell) (joints : Joints) (from old one two three new : List ℕ) (byte k : ℕ) (d : Cell) (e : Joint) (takes met left : Bool)
    → Lined 0 cells → AreJoints cells joints → k < length cells → e ≡ get_or joints.each.items k e
    → (takes ≡ true) ↔ InClass (get_or cells k d).class byte
    → (met ≡ true) ↔ HasBit old ((get_or cells k d).before + 1)
    → ((s : ℕ) → HasBit one s ↔ (HasBit old s ⊎ ((met ≡ true) × IsFirstOf cells e.beside s)))
    → (left ≡ true) ↔ IsLeft (get_or cells k d) from
    → ((s : ℕ) → HasBit two s ↔ (HasBit one s ⊎ ((left ≡ true) × IsFirstOf cells e.enters s)))
    → ((s : ℕ) → HasBit three s ↔ (HasBit two s × ((s ≢ (get_or cells k d).before + 1) ⊎ (takes ≡ true))))
    → ((s : ℕ) → HasBit new s ↔ (HasBit three s ⊎ ((takes ≡ true) × GoesWithin (get_or cells k d) from s)))
    → IsSomePassed cells joints from byte old k → IsSomePassed cells joints from byte new (k + 1)
pass_told cells joints from old one two three new byte k d e takes met left lined joined within joint takes_is met_is first left_is second third last before =
    passed_on cells joints from old new byte k before.0 (get_or cells k d) e takes met left (record {
      lined = lined;
      joined = joined;
      joint = joint;
      takes_is = takes_is;
      met_is = met_is;
      left_is = left_is;
      before = before.1;
      at = slice_get-get_or cells k d within;
      bits = λ s. grind (arith, first s, second s, third s, last s);
    })

-- ---- before the first cell, and behind the last

entered_some : (cells : List Cell) (i q : ℕ) → Lined 0 cells → entered_first (drop i cells) q ≡ true → 0 < q
entered_some cells i q lined go = grind (arith, lined_drop 0 i cells lined, first_low (drop i cells))

pub start_told : (cells : List Cell) (joints : Joints) (from zeros new : List ℕ) (byte : ℕ) (b : Bool) → Lined 0 cells → (b ≡ true) ↔ HasBit from 0
    → ((s : ℕ) → HasBit zeros s → ⊥) → ((s : ℕ) → HasBit new s ↔ (HasBit zeros s ⊎ ((b ≡ true) × IsFirstOf cells joints.start s)))
    → IsSomePassed cells joints from byte new 0
start_told cells joints from zeros new byte b lined bit_is none bits =
    let only : (s : ℕ) → HasBit new s → (b ≡ true) × IsFirstOf cells joints.start s = λ s h. grind (arith, bits s, none s) in
    let first = λ (i q : ℕ). entered_some cells i q lined in (
      0,
      record {
        lined = lined;
        sum = omega arith;
        done = λ q low. grind (arith, only q, goes_inside, first);
        marks = λ q low h. (joints.start, omega arith, (only q h).1);
        ahead = λ q low. (
          λ is. elim is [
            | inl begin ↦ (
                let f = first_there cells joints.start a_cell (some_cell cells joints.start q begin.1) in
                inl (
                  joints.start,
                  omega arith,
                  record {
                    slot = (get_or cells joints.start a_cell).before + 1;
                    is = f;
                    bit =
                        (bits _).1 (inr (bit_is.1 begin.0, f));
                  },
                  begin.1,
                ))
            | inr (k, i, leaves, go) ↦ inr (k, i, omega arith, leaves, go)
          ],
          λ at. elim at [
            | inl (j, later, marked, go) ↦ (
                let both = only marked.slot marked.bit in
                let j_is = same_first cells j joints.start marked.slot lined marked.is both.1 in
                inl (bit_is.0 both.0, rw j_is at go))
            | inr (m, i, later, leaves, go) ↦ inr (m, i, leaves, go)
          ],
        );
      },
    )

pub end_told : (cells : List Cell) (joints : Joints) (from set : List ℕ) (byte k : ℕ) → Lined 0 cells → length cells ≤ k
    → IsSomePassed cells joints from byte set k → (q : ℕ) → HasBit set q ↔ IsCellStep cells joints from byte q
end_told cells joints from set byte k lined past some q =
    let n : ℕ = some.0 in
    let p = some.1 in
    let nothing : slots_in (drop k cells) ≡ 0 = ap slots_in (drop_past cells k past) in
    let sum = p.sum in
    let out : (j : ℕ) (c : Cell) → k ≤ j → slice_get cells j ≡ Some c → ⊥ =
    (λ j c later at. let inside = slice_get_within cells j c at in omega arith) in
    elim (cases_lt n q) [
      | inr low ↦ p.done q low
      | inl high ↦ (
        λ h. (let (j, later, f) = p.marks q high h in absurd (out j f.cell later f.at)),
        λ step. elim step.1 [
          | inl goes ↦ (
              let inside = goes_inside goes.cell from q goes.within in
              let most = inside.1 in
              let whole = (lined_later cells (drop (goes.place + 1) cells) 0 goes.place goes.cell lined (cell_at cells goes.place goes.cell goes.at)).3 in
              absurd (omega arith))
          | inr is ↦ elim ((p.ahead q high).0 is) [
            | inl (j, later, marked, go) ↦ absurd (out j marked.is.cell later marked.is.at)
            | inr (m, i, later, leaves, go) ↦ absurd (out m leaves.cell later leaves.at)
          ]
        ],
      )
    ]
