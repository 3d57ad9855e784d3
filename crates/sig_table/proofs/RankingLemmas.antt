-- The ways down once a pair is added.
use Rattle.std.proofs.Common.{◌≡◌, ◌⊎◌, ℕ, List, [], ◌∷◌, ◌++◌, Contains, Decides, subst, sym, ap, refl, inl, inr, arith}
use Rattle.std.proofs.lemmas.Bool.Decides.{Decides-and, Decides-eqb, Decides-or}
use Rattle.std.proofs.lemmas.List.Elements.{Contains-append_cases, Contains-append_left, Contains-append_right, Contains-push}
use Rattle.sig_table.specs.Ranking.{IsAbove, NoCycle, WayDown, is_above}

-- the one is the other or above it
abbrev pub IsUpTo : List (ℕ × ℕ) → ℕ → ℕ → Type 0
IsUpTo pairs h l = (h ≡ l) ⊎ IsAbove pairs h l

-- above by the pairs, or by way of the pair (a, b)
abbrev pub IsAboveBy : List (ℕ × ℕ) → ℕ → ℕ → ℕ → ℕ → Type 0
IsAboveBy pairs a b h l = IsAbove pairs h l ⊎ (IsUpTo pairs h a × IsUpTo pairs b l)

-- one pair more, wherever it stands
pub record Grows (pairs : List (ℕ × ℕ)) (a b : ℕ) (more : List (ℕ × ℕ)) : Type 0 where
  pub keeps : (p : ℕ × ℕ) → Contains pairs p → Contains more p
  pub has : Contains more (a, b)
  pub only : (p : ℕ × ℕ) → Contains more p → Contains pairs p ⊎ (p ≡ (a, b))

-- a way and a way on
join : (pairs : List (ℕ × ℕ)) (h : ℕ) (ms : List ℕ) (m : ℕ) (ns : List ℕ) (l : ℕ) → WayDown pairs h ms m → WayDown pairs m ns l
    → WayDown pairs h (ms ++ m ∷ ns) l
join pairs h [] m ns l first rest = (first, rest)
join pairs h (k ∷ ms) m ns l first rest = (first.0, join pairs k ms m ns l first.1 rest)

pub above-trans : (pairs : List (ℕ × ℕ)) (h m l : ℕ) → IsAbove pairs h m → IsAbove pairs m l → IsAbove pairs h l
above-trans pairs h m l first rest = (first.0 ++ m ∷ rest.0, join pairs h first.0 m rest.0 l first.1 rest.1)

-- a way stays where pairs are added
pub wider : (a b : List (ℕ × ℕ)) → ((p : ℕ × ℕ) → Contains a p → Contains b p) → (h : ℕ) (ms : List ℕ) (l : ℕ) → WayDown a h ms l → WayDown b h ms l
wider a b all h [] l way = all (h, l) way
wider a b all h (m ∷ ms) l way = (all (h, m) way.0, wider a b all m ms l way.1)

module _ (pairs : List (ℕ × ℕ)) (a b : ℕ) (more : List (ℕ × ℕ)) (g : Grows pairs a b more) where
  keeps_above : (h l : ℕ) → IsAbove pairs h l → IsAbove more h l
  keeps_above h l way = (way.0, wider pairs more g.keeps h way.0 l way.1)

  -- a way by one pair more passes it or does not
  by_way : (h : ℕ) (ms : List ℕ) (l : ℕ) → WayDown more h ms l → IsAboveBy pairs a b h l
  by_way h [] l way = elim (g.only (h, l) way) [
    | inl old ↦ inl ([], old)
    | inr new ↦ inr (inl (ap (λ p. p.0) new), inl (sym (ap (λ p. p.1) new)))
  ]
  by_way h (m ∷ ms) l way = elim (g.only (h, m) way.0) [
    | inl old ↦ elim (by_way m ms l way.1) [
      | inl rest ↦ inl (m ∷ rest.0, (old, rest.1))
      | inr both ↦ inr (inr (elim both.0 [ inl same ↦ ([], subst (λ x. Contains pairs (h, x)) same old) | inr rest ↦ (m ∷ rest.0, (old, rest.1)) ]), both.1)
    ]
    | inr new ↦ inr (
      inl (ap (λ p. p.0) new),
      elim (by_way m ms l way.1) [
        | inl rest ↦ inr (subst (λ x. IsAbove pairs x l) (ap (λ p. p.1) new) rest)
        | inr both ↦ both.1
      ],
    )
  ]

  pub above-by : (h l : ℕ) → IsAbove more h l → IsAboveBy pairs a b h l
  above-by h l way = by_way h way.0 l way.1

  -- from above a to b
  to_b : (h : ℕ) → IsUpTo pairs h a → IsAbove more h b
  to_b h up = elim up [
    | inl same ↦ ([], subst (λ x. Contains more (x, b)) (sym same) g.has)
    | inr way ↦ above-trans more h a b (keeps_above h a way) ([], g.has)
  ]

  pub by-above : (h l : ℕ) → IsAboveBy pairs a b h l → IsAbove more h l
  by-above h l by = elim by [
    | inl way ↦ keeps_above h l way
    | inr both ↦ elim both.1 [
      | inl same ↦ subst (λ x. IsAbove more h x) same (to_b h both.0)
      | inr way ↦ above-trans more h b l (to_b h both.0) (keeps_above b l way)
    ]
  ]

  -- a pair that does not lead back makes no cycle
  pub no_cycle-more : NoCycle pairs → (IsUpTo pairs b a → ⊥) → NoCycle more
  no_cycle-more none back f way = elim (above-by f f way) [
    | inl old ↦ none f old
    | inr both ↦ back (elim both.0 [
      | inl first ↦ elim both.1 [
        | inl last ↦ inl (subst (λ x. b ≡ x) first last)
        | inr rest ↦ inr (subst (λ x. IsAbove pairs b x) first rest)
      ]
      | inr first ↦ elim both.1 [
        | inl last ↦ inr (subst (λ x. IsAbove pairs x a) (sym last) first)
        | inr rest ↦ inr (above-trans pairs b f a rest first)
      ]
    ])
  ]

-- no pair lists nothing
none-listed : (p : ℕ × ℕ) → Contains [] p → ⊥
none-listed p c = absurd (let none = c.1 in omega arith)

pub no_cycle-none : NoCycle []
no_cycle-none f way = elim way.0 as (λ ms. WayDown [] f ms f → ⊥) [ [] ↦ none-listed (f, f) | m ∷ ms ↦ λ w. none-listed (f, m) w.0 ] way.1

pub no_way : (h : ℕ) (ms : List ℕ) (l : ℕ) → WayDown [] h ms l → ⊥
no_way h [] l way = none-listed (h, l) way
no_way h (m ∷ ms) l way = none-listed (h, m) way.0

-- a pair in front
pub grows-front : (pairs : List (ℕ × ℕ)) (p : ℕ × ℕ) → Grows pairs p.0 p.1 (p ∷ pairs)
grows-front pairs p = record {
  keeps = λ q c. Contains-append_right (p ∷ []) pairs q c;
  has = (0, omega arith, refl);
  only = λ q c. elim (Contains-append_cases (p ∷ []) pairs q c) [ inl first ↦ inr (only_one p q first) | inr rest ↦ inl rest ];
}
  where
    only_one : (p q : ℕ × ℕ) → Contains (p ∷ []) q → q ≡ p
    only_one p q c = let first : c.0 ≡ 0 = (let lt = c.1 in omega arith) in sym (rw first at c.2)

-- a pair behind the others
pub grows-push : (pairs : List (ℕ × ℕ)) (p : ℕ × ℕ) → Grows pairs p.0 p.1 (pairs ++ p ∷ [])
grows-push pairs p = record {
  keeps = λ q c. Contains-append_left pairs (p ∷ []) q c;
  has = Contains-push pairs p;
  only = λ q c. elim (Contains-append_cases pairs (p ∷ []) q c) [ inl rest ↦ inl rest | inr last ↦ inr (only_one p q last) ];
}
  where
    only_one : (p q : ℕ × ℕ) → Contains (p ∷ []) q → q ≡ p
    only_one p q c = let first : c.0 ≡ 0 = (let lt = c.1 in omega arith) in sym (rw first at c.2)

-- the test answers whether there is a way
pub is_above-Decides : (pairs : List (ℕ × ℕ)) (h l : ℕ) → Decides (is_above pairs h l) (IsAbove pairs h l)
unfolding is_above
is_above-Decides [] h l = (λ e. absurd (cc e), λ way. absurd (no_way h way.0 l way.1))
is_above-Decides (p ∷ pairs) h l =
    let by = Decides-or _ _ (is_above-Decides pairs h l)
    (Decides-and _ _ (Decides-or _ _ (Decides-eqb h p.0) (is_above-Decides pairs h p.0)) (Decides-or _ _ (Decides-eqb p.1 l) (is_above-Decides pairs p.1 l))) in
    let g = grows-front pairs p in
    (λ e. by-above pairs p.0 p.1 (p ∷ pairs) g h l (by.0 e), λ way. by.1 (above-by pairs p.0 p.1 (p ∷ pairs) g h l way))
