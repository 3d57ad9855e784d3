-- One pass from the last cell to the first.
use Rattle.sig_auto.proofs.Common.{◌≡◌, ◌≢◌, ℕ, zero, suc, ◌+◌, ◌<◌, ◌≤◌, ◌==◌, ◌&&◌, Bool, false, List, [], ◌∷◌, drop, get_or, length, Some, refl, ap, ◌∙◌}
use Rattle.sig_auto.proofs.Common.{inl, inr, arith, get_or-set_other, get_or-set_same, set, length-set, and_left, cases_eq, cond-false, cond-true, eq-eqb}
use Rattle.sig_auto.proofs.Common.{ne_eqb, get_or_default, Cell, Joint, Bounded, is_joint, joint_past, seek, Joints, drop-cons, AreJoints, IsJoint, is_skipped}
use Rattle.sig_auto.proofs.Common.{land, onward}

-- the cells from place k on are joined
pub record Joining (cells : List Cell) (k : ℕ) (first : List ℕ) (lands : List Bool) (joints : List Joint) : Type 0 where
  pub within : k ≤ length cells
  pub first_len : length first ≡ length cells + 1
  pub lands_len : length lands ≡ length cells + 1
  pub joints_len : length joints ≡ length cells
  pub firsts : (j : ℕ) → j ≤ length cells → get_or first j 0 ≡ seek j (drop k cells) k
  pub landed : (j : ℕ) → j ≤ length cells → get_or lands j false ≡ is_joint (land (Some j) (drop k cells)) (length cells)
  pub done : (i : ℕ) (c : Cell) (rest : List Cell) (d : Joint) → k ≤ i → drop i cells ≡ c ∷ rest → IsJoint (length cells) c rest i (get_or joints i d)

pub drop_past : {A : Type 0} (xs : List A) (n : ℕ) → length xs ≤ n → drop n xs ≡ []
drop_past [] zero h = refl
drop_past [] (suc n) h = refl
drop_past (x ∷ xs) zero h = absurd (omega arith)
drop_past (x ∷ xs) (suc n) h = drop_past xs n (omega arith)

pub drop_some : {A : Type 0} (xs rest : List A) (n : ℕ) (x : A) → drop n xs ≡ x ∷ rest → n < length xs
drop_some [] rest zero x h = absurd (cc)
drop_some [] rest (suc n) x h = absurd (cc)
drop_some (y ∷ ys) rest zero x h = omega arith
drop_some (y ∷ ys) rest (suc n) x h = let less = drop_some ys rest n x h in omega arith

pub bounded_at : (n k : ℕ) (cells rest : List Cell) (c : Cell) → Bounded n cells → drop k cells ≡ c ∷ rest → (c.front ≤ n) × (c.behind ≤ n)
bounded_at n zero [] rest c h is = absurd (cc)
bounded_at n (suc k) [] rest c h is = absurd (cc)
bounded_at n zero (d ∷ cells) rest c h is = grind arith
bounded_at n (suc k) (d ∷ cells) rest c h is = bounded_at n k cells rest c h.2 is

pub onward_here : (c : Cell) → onward c (Some c.front) ≡ Some (joint_past c)
onward_here c = grind (arith, eq-eqb, cond-true, cond-false)

pub onward_other : (c : Cell) (j : ℕ) → (c.front ≡ j → ⊥) → onward c (Some j) ≡ Some j
onward_other c j other = cond-false (c.front == j && is_skipped c) (Some c.behind) (Some j) (and_left (c.front == j) (is_skipped c) (ne_eqb c.front j other))

past_bounded : (c : Cell) (n : ℕ) → c.front ≤ n → c.behind ≤ n → joint_past c ≤ n
past_bounded c n front behind = grind (arith, cond-true, cond-false)

pub joining_steps : (cells rest : List Cell) (k : ℕ) (c : Cell) (first new_first : List ℕ) (lands new_lands : List Bool) (joints new_joints : List Joint)
    (joint : Joint) →
    Bounded (length cells) cells → Joining cells (k + 1) first lands joints → drop k cells ≡ c ∷ drop (k + 1) cells →
    joint.enters ≡ get_or first c.behind 0 → joint.beside ≡ get_or first (joint_past c) 0 → joint.ends ≡ get_or lands c.behind false →
    new_joints ≡ set joints k joint → new_lands ≡ set lands c.front (get_or lands (joint_past c) false) → new_first ≡ set first c.front k →
    Joining cells k new_first new_lands new_joints
joining_steps cells rest k c first new_first lands new_lands joints new_joints joint all h here enters beside ends joints_are lands_are first_are =
    let within : k + 1 ≤ length cells = h.within in
    let bound = bounded_at (length cells) k cells (drop (k + 1) cells) c all here in
    let front : c.front ≤ length cells = bound.0 in
    let behind : c.behind ≤ length cells = bound.1 in
    let past : joint_past c ≤ length cells = past_bounded c (length cells) front behind in
    let first_len = h.first_len in
    let lands_len = h.lands_len in
    let joints_len = h.joints_len in
    record {
      within = omega arith;
      first_len = ap length first_are ∙ simp length-set first_len;
      lands_len = ap length lands_are ∙ simp length-set lands_len;
      joints_len = ap length joints_are ∙ simp length-set joints_len;
      firsts = λ j low. grind (arith, get_or-set_same, cond-true, eq-eqb, get_or-set_other, cond-false, ne_eqb, h.firsts);
      landed = λ j low. grind (arith, get_or-set_same, onward_here, get_or-set_other, onward_other, h.landed);
      done = λ i d later default low is.
          rw joints_are
          (elim (cases_eq i k) [
            | inl same ↦ grind (arith, get_or-set_same, h.firsts, h.landed)
            | inr other ↦
                let apart : i ≢ k = other in
                rw get_or-set_other (h.done i d later default (omega arith) is)
          ]);
    }

pub here_of : {A : Type 0} (xs : List A) (m : ℕ) (d : A) → m < length xs → drop m xs ≡ get_or xs m d ∷ drop (m + 1) xs
here_of xs m d h = drop-cons xs m d h ∙ ap (λ n. get_or xs m d ∷ drop n xs) (let e : suc m ≡ m + 1 = omega arith in e)

pub joining_at : (cells : List Cell) (n m : ℕ) (first new_first : List ℕ) (lands new_lands : List Bool) (joints new_joints : List Joint) (joint : Joint)
    (d : Cell) →
    Bounded (length cells) cells → Joining cells n first lands joints → n ≡ m + 1 →
    joint.enters ≡ get_or first (get_or cells m d).behind 0 → joint.beside ≡ get_or first (joint_past (get_or cells m d)) 0
    → joint.ends ≡ get_or lands (get_or cells m d).behind false →
    new_joints ≡ set joints m joint → new_lands ≡ set lands (get_or cells m d).front (get_or lands (joint_past (get_or cells m d)) false)
    → new_first ≡ set first (get_or cells m d).front m →
    Joining cells m new_first new_lands new_joints
joining_at cells n m first new_first lands new_lands joints new_joints joint d all h is enters beside ends joints_are lands_are first_are =
    grind (arith, joining_steps cells [] m (get_or cells m d) first new_first lands new_lands joints new_joints joint all, here_of cells m d)

pub joined : (cells : List Cell) (joints : Joints) (k : ℕ) (first : List ℕ) (lands : List Bool) → Joining cells k first lands joints.each.items → k ≤ 0
    → joints.start ≡ get_or first 0 joints.start → joints.nullable ≡ get_or lands 0 joints.nullable → AreJoints cells joints
joined cells joints k first lands h low start nullable =
    let is : k ≡ 0 = omega arith in
    let first_len = h.first_len in
    let lands_len = h.lands_len in
    record {
      many = h.joints_len;
      start = start ∙ get_or_default first 0 joints.start 0 (omega arith) ∙ h.firsts 0 (omega arith) ∙ ap (λ x. seek 0 (drop x cells) x) is;
      nullable = nullable ∙ get_or_default lands 0 joints.nullable false (omega arith) ∙ h.landed 0 (omega arith) ∙ ap
          (λ x. is_joint (land (Some 0) (drop x cells)) (length cells)) is;
      each = λ i c rest d at. h.done i c rest d (omega arith) at;
    }

pub joints_room : (cells : List Cell) (n m : ℕ) (first : List ℕ) (lands : List Bool) (joints : List Joint) (d : Cell) → Bounded (length cells) cells
    → Joining cells n first lands joints → n ≡ m + 1 → ((get_or cells m d).front < length first) × ((get_or cells m d).behind < length first)
joints_room cells n m first lands joints d all h is = grind (arith, bounded_at, here_of)
