-- Groups of bytes that a span of bytes splits.
use Rattle.std.proofs.Common.{◌≡◌, ◌≢◌, ◌↔◌, ◌∙◌, ◌⊎◌, ℕ, ◌+◌, ◌<◌, ◌≤◌, inl, inr, List, length, slice_index, get_or-set_other, get_or-set_same, set, replicate}
use Rattle.std.proofs.Common.{refl, sym, ap, subst, arith}
use Rattle.std.proofs.Math.ListN.{length-set}
use Rattle.std.proofs.lemmas.Bool.{cases_eq, cases_lt}
use Rattle.std.proofs.lemmas.List.{get_or-replicate, get_or_past, length-replicate}
use Rattle.sig_bits.specs.Groups.{AreLeads, InSpan, SameSide, Together}

-- what became of byte b: its lead on its lead's side, and otherwise the other lead of its group
pub record IsSplit (old split others : List ℕ) (first last b : ℕ) : Type 0 where
  pub same : SameSide first last b (slice_index old b) → slice_index split b ≡ slice_index old b
  pub other : (SameSide first last b (slice_index old b) → ⊥) → (slice_index split b ≡ slice_index others (slice_index old b))
      × (slice_index others (slice_index old b) ≢ 0) × (slice_index others (slice_index old b) ≤ b)

-- the other lead of a lead is a byte of its group below b, on the other side
abbrev pub IsOther : List ℕ → List ℕ → ℕ → ℕ → ℕ → ℕ → Type 0
IsOther old others first last b lead = slice_index others lead ≢ 0 → (slice_index others lead < b) × (slice_index old (slice_index others lead) ≡ lead)
    × (SameSide first last (slice_index others lead) lead → ⊥)

in_or_not : (first last b : ℕ) → InSpan first last b ⊎ (InSpan first last b → ⊥)
in_or_not first last b = elim (cases_lt b first) [
  | inl before ↦ inr (λ k. omega (arith, before, k.0))
  | inr from ↦ elim (cases_lt last b) [
    | inl past ↦ inr (λ k. omega (arith, past, k.1))
    | inr to ↦ inl (omega arith, omega arith)
  ]
]

same_or_not : (first last a b : ℕ) → SameSide first last a b ⊎ (SameSide first last a b → ⊥)
same_or_not first last a b = elim (in_or_not first last a) [
  | inl a_in ↦ elim (in_or_not first last b) [
    | inl b_in ↦ inl (λ _. b_in, λ _. a_in)
    | inr b_out ↦ inr (λ h. b_out (h.0 a_in))
  ]
  | inr a_out ↦ elim (in_or_not first last b) [
    | inl b_in ↦ inr (λ h. a_out (h.1 b_in))
    | inr b_out ↦ inl (λ k. absurd (a_out k), λ k. absurd (b_out k))
  ]
]

-- of three bytes two are on one side
same_by_others : (first last a b c : ℕ) → (SameSide first last a c → ⊥) → (SameSide first last b c → ⊥) → SameSide first last a b
same_by_others first last a b c one two = elim (in_or_not first last c) [
  | inl c_in ↦ (λ k. absurd (one (λ _. c_in, λ _. k)), λ k. absurd (two (λ _. c_in, λ _. k)))
  | inr c_out ↦
      let there : (x : ℕ) → (SameSide first last x c → ⊥) → InSpan first last x = λ x apart. elim (in_or_not first last x) [
        | inl x_in ↦ x_in
        | inr x_out ↦ absurd (apart (λ k. absurd (x_out k), λ k. absurd (c_out k)))
      ] in
      (λ _. there b two, λ _. there a one)
]

same_back : (first last a b : ℕ) → SameSide first last a b → SameSide first last b a
same_back first last a b h = (h.1, h.0)

same_further : (first last a b c : ℕ) → SameSide first last a b → SameSide first last b c → SameSide first last a c
same_further first last a b c h k = (λ x. k.0 (h.0 x), λ x. h.1 (k.1 x))

module _ (old split others : List ℕ) (first last : ℕ) (leads : AreLeads old) (done : (b : ℕ) → b < 256 → IsSplit old split others first last b)
    (found : (lead : ℕ) → lead < 256 → IsOther old others first last 256 lead) where
  lead_within : (b : ℕ) → b < 256 → slice_index old b < 256
  lead_within b low = omega (arith, leads.low b low)

  -- a byte of a group that has no byte on the other side than its lead, and one that is there
  apart : (a b : ℕ) → a < 256 → b < 256 → SameSide first last a (slice_index old a) → (SameSide first last b (slice_index old b) → ⊥)
      → slice_index split a ≡ slice_index split b → ⊥
  apart a b in_a in_b one two both =
      let of_first = (done a in_a).same one in
      let of_second = (done b in_b).other two in
      let lead : ℕ = slice_index old b in
      let other : ℕ = slice_index others lead in
      let is = found lead (lead_within b in_b) of_second.1 in
      let met : slice_index old a ≡ other = sym of_first ∙ both ∙ of_second.0 in
      let own : slice_index old other ≡ other = ap (slice_index old) (sym met) ∙ leads.own a in_a ∙ met in
      is.2 (subst (λ n. SameSide first last other n) (sym own ∙ is.1) (λ k. k, λ k. k))

  pub split_together : (a b : ℕ) → a < 256 → b < 256 → Together split a b ↔ (Together old a b × SameSide first last a b)
  split_together a b in_a in_b = elim (same_or_not first last a (slice_index old a)) [
    | inl one ↦ elim (same_or_not first last b (slice_index old b)) [
      | inl two ↦ (
        λ both. let same : slice_index old a ≡ slice_index old b = sym ((done a in_a).same one) ∙ both ∙ (done b in_b).same two in (
          same,
          same_further first last a (slice_index old a) b one (same_back first last b (slice_index old a)
              (subst (SameSide first last b) (sym same) two)),
        ),
        λ k. (done a in_a).same one ∙ k.0 ∙ sym ((done b in_b).same two),
      )
      | inr two ↦ (
        λ both. absurd (apart a b in_a in_b one two both),
        λ k. absurd (two (subst (SameSide first last b) k.0 (same_further first last b a (slice_index old a) (same_back first last a b k.1) one))),
      )
    ]
    | inr one ↦ elim (same_or_not first last b (slice_index old b)) [
      | inl two ↦ (
        λ both. absurd (apart b a in_b in_a two one (sym both)),
        λ k. absurd (one (subst (SameSide first last a) (sym k.0) (same_further first last a b (slice_index old b) k.1 two))),
      )
      | inr two ↦ (
        λ both.
            let of_first = (done a in_a).other one in
            let of_second = (done b in_b).other two in
            let other : slice_index others (slice_index old a) ≡ slice_index others (slice_index old b) = sym of_first.0 ∙ both ∙ of_second.0 in
            let of_a = found (slice_index old a) (lead_within a in_a) of_first.1 in
            let of_b = found (slice_index old b) (lead_within b in_b) of_second.1 in
            let same : slice_index old a ≡ slice_index old b = sym of_a.1 ∙ ap (slice_index old) other ∙ of_b.1 in
            (same, same_by_others first last a b (slice_index old b) (λ h. one (subst (SameSide first last a) (sym same) h)) two),
        λ k. ((done a in_a).other one).0 ∙ ap (slice_index others) k.0 ∙ sym ((done b in_b).other two).0,
      )
    ]
  ]

  pub split_leads : AreLeads split
  split_leads = record { low = low; own = own }
    where
      low : (b : ℕ) → b < 256 → slice_index split b ≤ b
      low b in_b = elim (same_or_not first last b (slice_index old b)) [
        | inl same ↦ omega (arith, (done b in_b).same same, leads.low b in_b)
        | inr other ↦ let k = (done b in_b).other other in omega (arith, k.0, k.2)
      ]

      own : (b : ℕ) → b < 256 → slice_index split (slice_index split b) ≡ slice_index split b
      own b in_b = elim (same_or_not first last b (slice_index old b)) [
        | inl same ↦
            let lead : ℕ = slice_index old b in
            let is : slice_index split b ≡ lead = (done b in_b).same same in
            let itself : slice_index old lead ≡ lead = leads.own b in_b in
            let side : SameSide first last lead (slice_index old lead) = subst (SameSide first last lead) (sym itself) (λ k. k, λ k. k) in
            ap (slice_index split) is ∙ (done lead (lead_within b in_b)).same side ∙ itself ∙ sym is
        | inr other ↦
            let k = (done b in_b).other other in
            let lead : ℕ = slice_index old b in
            let next : ℕ = slice_index others lead in
            let is = found lead (lead_within b in_b) k.1 in
            let side : SameSide first last next (slice_index old next) → ⊥ = λ h. is.2 (subst (SameSide first last next) is.1 h) in
            ap (slice_index split) k.0 ∙ ((done next is.0).other side).0 ∙ ap (slice_index others) is.1 ∙ sym k.0
      ]

-- ---- all bytes in one group

pub led_by_zero : (b : ℕ) → slice_index (replicate 256 0) b ≡ 0
led_by_zero b = elim (cases_lt b 256) [
  | inl inside ↦ get_or-replicate 256 b 0 0 inside
  | inr past ↦ get_or_past (replicate 256 0) b 0 past
]

pub zero_leads : AreLeads (replicate 256 0)
zero_leads = record { low = λ b low. omega (arith, led_by_zero b); own = λ b low. led_by_zero (slice_index (replicate 256 0) b) ∙ sym (led_by_zero b) }

-- ---- byte by byte

-- what became of the bytes below b
pub record SplitSoFar (old split others : List ℕ) (first last b : ℕ) : Type 0 where
  pub long : length split ≡ 256
  pub wide : length others ≡ 256
  pub done : (a : ℕ) → a < b → IsSplit old split others first last a
  pub later : (a : ℕ) → b ≤ a → slice_index split a ≡ slice_index old a
  pub found : (lead : ℕ) → IsOther old others first last b lead

pub none_split : (old : List ℕ) (first last : ℕ) → length old ≡ 256 → SplitSoFar old old (replicate 256 0) first last 0
none_split old first last long = record {
  long = long;
  wide = length-replicate {A = ℕ} 256 0;
  done = λ a low. absurd (omega arith);
  later =
      λ a low. refl;
  found = λ lead some. absurd (some (led_by_zero lead));
}

-- a byte on its lead's side
pub same_split : (old split others : List ℕ) (first last b : ℕ) → SplitSoFar old split others first last b → SameSide first last b (slice_index old b)
    → SplitSoFar old split others first last (b + 1)
same_split old split others first last b so side = record {
  long = so.long;
  wide = so.wide;
  done = λ a low. elim (cases_lt a b) [
    | inl before ↦ so.done a before
    | inr past ↦
        let here : a ≡ b = omega arith in
        subst (IsSplit old split others first last) (sym here) (record { same = λ _. so.later b (omega arith); other = λ no_side. absurd (no_side side) })
  ];
  later = λ a low. so.later a (omega arith);
  found = λ lead some. let k = so.found lead some in (omega (arith, k.0), k.1, k.2);
}

-- the other leads keep what they had, and have this byte for its lead
pub record HasOther (others new : List ℕ) (lead b : ℕ) : Type 0 where
  pub wide : length new ≡ 256
  pub kept : (g : ℕ) → slice_index others g ≢ 0 → slice_index new g ≡ slice_index others g
  pub fresh : (g : ℕ) → slice_index new g ≢ 0 → (slice_index new g ≡ slice_index others g) ⊎ ((g ≡ lead) × (slice_index new g ≡ b))
  pub some : slice_index new lead ≢ 0
  pub low : slice_index new lead ≤ b

pub had_other : (old split others : List ℕ) (first last b lead : ℕ) → SplitSoFar old split others first last b → slice_index others lead ≢ 0
    → HasOther others others lead b
had_other old split others first last b lead so some = record
    { wide = so.wide; kept = λ g _. refl; fresh = λ g _. inl refl; some = some; low = omega (arith, (so.found lead some).0) }

pub got_other : (others : List ℕ) (lead b : ℕ) → length others ≡ 256 → lead < 256 → slice_index others lead ≡ 0 → b ≢ 0
    → HasOther others (set others lead b) lead b
got_other others lead b wide low none some =
    let here : slice_index (set others lead b) lead ≡ b = get_or-set_same others lead b 0 (omega (arith, wide)) in
    record {
      wide = length-set others lead b ∙ wide;
      kept = λ g was. elim (cases_eq g lead) [
        | inl same ↦ absurd (was (ap (slice_index others) same ∙ none))
        | inr other ↦ get_or-set_other others lead g b 0 other
      ];
      fresh = λ g _. elim (cases_eq g lead) [
        | inl same ↦ inr (same, ap (slice_index (set others lead b)) same ∙ here)
        | inr other ↦ inl (get_or-set_other others lead g b 0 other)
      ];
      some = λ zero. some (sym here ∙ zero);
      low = omega (arith, here);
    }

-- a byte on the other side than its lead
pub other_split : (old split others new : List ℕ) (first last b : ℕ) → SplitSoFar old split others first last b → b < 256
    → (SameSide first last b (slice_index old b) → ⊥) → HasOther others new (slice_index old b) b
    → SplitSoFar old (set split b (slice_index new (slice_index old b))) new first last (b + 1)
other_split old split others new first last b so low no_side has = record {
  long = length-set split b to ∙ so.long;
  wide = has.wide;
  done = λ a low. elim (cases_lt a b) [
    | inl before ↦
        let k = so.done a before in
        let apart : slice_index (set split b to) a ≡ slice_index split a = get_or-set_other split b a to 0 (omega arith) in
        record {
          same = λ side. apart ∙ k.same side;
          other = λ no. let l = k.other no in let kept = has.kept (slice_index old a) l.1 in
              (apart ∙ l.0 ∙ sym kept, λ zero. l.1 (sym kept ∙ zero), omega (arith, kept, l.2));
        }
    | inr past ↦
        let here : a ≡ b = omega arith in
        subst (IsSplit old (set split b to) new first last) (sym here) (record {
          same = λ side. absurd (no_side side);
          other = λ _. (get_or-set_same split b to 0 within, has.some, has.low);
        })
  ];
  later = λ a low. get_or-set_other split b a to 0 (omega arith) ∙ so.later a (omega arith);
  found = λ lead some. elim (has.fresh lead some) [
    | inl same ↦
        let k = so.found lead (λ zero. some (same ∙ zero)) in
        (omega (arith, same, k.0), ap (slice_index old) same ∙ k.1, λ side. k.2 (subst (λ n. SameSide first last n lead) same side))
    | inr here ↦ (
      omega (arith, here.1),
      ap (slice_index old) here.1 ∙ sym here.0,
      λ side. no_side (subst (SameSide first last b) here.0 (subst (λ n. SameSide first last n lead) here.1 side)),
    )
  ];
}
  where
    to : ℕ
    to = slice_index new (slice_index old b)

    within : b < length split
    within = omega (arith, so.long)
