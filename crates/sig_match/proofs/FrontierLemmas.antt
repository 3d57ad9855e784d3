-- How a frontier grows, interval after interval.
use Rattle.std.proofs.Common.{◌≡◌, ◌⊎◌, ℕ, ◌+◌, ◌≤◌, ◌<◌, List, [], ◌∷◌, ◌++◌, length, get_or, take, drop, ap, ◌∙◌, subst, sym, inl, inr, arith}
use Rattle.std.proofs.lemmas.Bool.{cases_lt}
use Rattle.std.proofs.lemmas.List.{take_more, take_all, take-append-drop}
use Rattle.sig_match.specs.declared.whole.frontier.Interval.{Interval}
use Rattle.sig_match.specs.Frontiers.{IsWithin, IsIn, HasExactly, Gains, Meets}

-- an offset of a longer frontier is in its front or in its back
pub IsIn-append : (xs ys : List Interval) (o : ℕ) → IsIn (xs ++ ys) o → IsIn xs o ⊎ IsIn ys o
IsIn-append [] ys o h = inr h
IsIn-append (x ∷ xs) ys o h =
    elim h [
      | inl first ↦ inl (inl first)
      | inr rest ↦ elim (IsIn-append xs ys o rest) [ inl front ↦ inl (inr front) | inr back ↦ inr back ]
    ]

-- an offset of the front
pub IsIn-append_left : (xs ys : List Interval) (o : ℕ) → IsIn xs o → IsIn (xs ++ ys) o
IsIn-append_left [] ys o h = absurd h
IsIn-append_left (x ∷ xs) ys o h = elim h [ inl first ↦ inl first | inr rest ↦ inr (IsIn-append_left xs ys o rest) ]

-- an offset of the back
pub IsIn-append_right : (xs ys : List Interval) (o : ℕ) → IsIn ys o → IsIn (xs ++ ys) o
IsIn-append_right [] ys o h = h
IsIn-append_right (x ∷ xs) ys o h = inr (IsIn-append_right xs ys o h)

-- an offset of a frontier and one more interval
pub IsIn-push : (xs : List Interval) (x : Interval) (o : ℕ) → IsIn (xs ++ x ∷ []) o → IsIn xs o ⊎ IsWithin x o
IsIn-push xs x o h =
    elim (IsIn-append xs (x ∷ []) o h) [
      | inl front ↦ inl front
      | inr back ↦ elim back [ inl last ↦ inr last | inr none ↦ absurd none ]
    ]

-- an offset of the interval added
pub IsIn-push_last : (xs : List Interval) (x : Interval) (o : ℕ) → IsWithin x o → IsIn (xs ++ x ∷ []) o
IsIn-push_last xs x o h = IsIn-append_right xs (x ∷ []) o (inl h)

-- an interval is added behind the others
pub Gains-push : (xs : List Interval) (x : Interval) → Gains (IsWithin x) xs (xs ++ x ∷ [])
Gains-push xs x = record {
  sound = λ o h. IsIn-push xs x o h;
  kept = λ o h. IsIn-append_left xs (x ∷ []) o h;
  gained = λ o h. IsIn-push_last xs x o h;
}

-- an interval that overlaps or touches the last one is joined with it
pub Gains-join : (xs : List Interval) (last next joined : Interval) → last.from ≤ next.from → next.from ≤ last.to + 1 → joined.from ≡ last.from
    → last.to ≤ joined.to → next.to ≤ joined.to → ((o : ℕ) → o ≤ joined.to → (o ≤ last.to) ⊎ (o ≤ next.to))
    → Gains (IsWithin next) (xs ++ last ∷ []) (xs ++ joined ∷ [])
Gains-join xs last next joined before touches from to_last to_next to = record {
  sound = λ o h.
      elim (IsIn-push xs joined o h) [
        | inl front ↦ inl (IsIn-append_left xs (last ∷ []) o front)
        | inr within ↦ (
            let below : o ≤ joined.to = within.1 in
            let above : last.from ≤ o = let b = within.0 in omega arith in
            let in_last : o ≤ last.to → IsIn (xs ++ last ∷ []) o = λ l. IsIn-push_last xs last o (above, l) in
            elim (cases_lt last.to o) [
              | inl past ↦
                  elim (to o below) [ inl l ↦ inl (in_last l) | inr n ↦ inr (omega arith, n) ]
              | inr l ↦ inl (in_last l)
            ]
            )
      ];
  kept = λ o h.
      elim (IsIn-push xs last o h) [
        | inl front ↦ IsIn-append_left xs (joined ∷ []) o front
        | inr within ↦ (let a = within.0 in let b = within.1 in IsIn-push_last xs joined o (omega arith, omega arith))
      ];
  gained = λ o within. let a = within.0 in let b = within.1 in IsIn-push_last xs joined o (omega arith, omega arith);
}

-- one gain after another, and what both gain together
pub Gains-more : (P Q R : ℕ → Type 0) (a b c : List Interval) → ((o : ℕ) → P o → R o) → ((o : ℕ) → Q o → R o) → ((o : ℕ) → R o → P o ⊎ Q o) → Gains P a b
    → Gains Q b c → Gains R a c
Gains-more P Q R a b c first second both ab bc = record {
  sound = λ o h.
      elim (bc.sound o h) [
        | inl in_b ↦ elim (ab.sound o in_b) [ inl in_a ↦ inl in_a | inr p ↦ inr (first o p) ]
        | inr q ↦ inr (second o q)
      ];
  kept = λ o h. bc.kept o (ab.kept o h);
  gained = λ o r. elim (both o r) [ inl p ↦ bc.kept o (ab.gained o p) | inr q ↦ bc.gained o q ];
}

-- the same gain in other words
pub Gains-same : (P Q : ℕ → Type 0) (a b : List Interval) → ((o : ℕ) → P o → Q o) → ((o : ℕ) → Q o → P o) → Gains P a b → Gains Q a b
Gains-same P Q a b to from ab = record {
  sound = λ o h. elim (ab.sound o h) [ inl in_a ↦ inl in_a | inr p ↦ inr (to o p) ];
  kept = λ o h. ab.kept o h;
  gained = λ o q. ab.gained o (from o q);
}

-- what an empty frontier gains is all that it has
pub HasExactly-from_Gains : (P : ℕ → Type 0) (b : List Interval) → Gains P [] b → HasExactly P b
HasExactly-from_Gains P b gains = record {
  sound = λ o h. elim (gains.sound o h) [ inl none ↦ absurd none | inr p ↦ p ];
  complete = λ o p. gains.gained o p;
}

-- the default of reads past the end of a frontier, which no read here is
abbrev pub nowhere : Interval
nowhere = record { from = 0; to = 0 }

-- a frontier and its next interval
pub take-next : (xs : List Interval) (i : ℕ) (x : Interval) → i < length xs → x ≡ get_or xs i nowhere → take (i + 1) xs ≡ take i xs ++ x ∷ []
take-next xs i x at is = take_more xs i nowhere at ∙ ap (λ y. take i xs ++ y ∷ []) (sym is)

-- what two frontiers merged have: their front parts
abbrev pub Merged : List Interval → List Interval → ℕ → ℕ → List Interval → Type 0
Merged a b i j both = HasExactly (λ o. IsIn (take i a) o ⊎ IsIn (take j b) o) both

-- an interval of the first is merged
pub Merged-left : (a b : List Interval) (i j : ℕ) (both new : List Interval) (x : Interval) → i < length a → x ≡ get_or a i nowhere → Merged a b i j both
    → Gains (IsWithin x) both new → Merged a b (i + 1) j new
Merged-left a b i j both new x at is merged gains =
    let P : List Interval → Type 0 = λ l. HasExactly (λ o. IsIn l o ⊎ IsIn (take j b) o) new in
    subst P (sym (take-next a i x at is)) (record {
      sound = λ o h.
          elim (gains.sound o h) [
            | inl old ↦ elim (merged.sound o old) [ inl in_a ↦ inl (IsIn-append_left (take i a) (x ∷ []) o in_a) | inr in_b ↦ inr in_b ]
            | inr within ↦ inl (IsIn-push_last (take i a) x o within)
          ];
      complete = λ o h.
          elim h [
            | inl left ↦
                elim (IsIn-push (take i a) x o left) [
                  | inl in_a ↦ gains.kept o (merged.complete o (inl in_a))
                  | inr within ↦ gains.gained o within
                ]
            | inr in_b ↦ gains.kept o (merged.complete o (inr in_b))
          ];
    })

-- the two the other way round
pub Merged-swap : (a b : List Interval) (i j : ℕ) (both : List Interval) → Merged a b i j both → Merged b a j i both
Merged-swap a b i j both merged = record {
  sound = λ o h. elim (merged.sound o h) [ inl in_a ↦ inr in_a | inr in_b ↦ inl in_b ];
  complete = λ o h. merged.complete o (elim h [ inl in_b ↦ inr in_b | inr in_a ↦ inl in_a ]);
}

-- all of both is merged
pub Merged-all : (a b : List Interval) (i j : ℕ) (both : List Interval) → length a ≤ i → length b ≤ j → Merged a b i j both
    → HasExactly (λ o. IsIn a o ⊎ IsIn b o) both
Merged-all a b i j both all_a all_b merged =
    let P : List Interval → List Interval → Type 0 = λ l r. HasExactly (λ o. IsIn l o ⊎ IsIn r o) both in
    let a_whole : take i a ≡ a = take_all i a all_a in
    let b_whole : take j b ≡ b = take_all j b all_b in
    subst (λ (l : List Interval). P l b) a_whole (subst (λ (r : List Interval). P (take i a) r) b_whole merged)

-- an offset of the interval at an index of a frontier
pub IsIn-at : (xs : List Interval) (i : ℕ) (x : Interval) (o : ℕ) → i < length xs → x ≡ get_or xs i nowhere → IsWithin x o → IsIn xs o
IsIn-at xs i x o at is within =
    let P : List Interval → Type 0 = λ l. IsIn l o in
    subst P (take-append-drop (i + 1) xs)
    (IsIn-append_left (take (i + 1) xs) (drop (i + 1) xs) o (subst P (sym (take-next xs i x at is)) (IsIn-push_last (take i xs) x o within)))

-- an interval that has none of the offsets adds none
pub Meets-none_more : (P : ℕ → Type 0) (xs : List Interval) (i : ℕ) (x : Interval) → i < length xs → x ≡ get_or xs i nowhere
    → ((o : ℕ) → IsWithin x o → P o → ⊥) → (Meets P (take i xs) → ⊥) → Meets P (take (i + 1) xs) → ⊥
Meets-none_more P xs i x at is none before h =
    let Q : List Interval → Type 0 = λ l. IsIn l h.offset in
    elim (IsIn-push (take i xs) x h.offset (subst Q (take-next xs i x at is) h.is_in)) [
      | inl front ↦ before (record { offset = h.offset; is_in = front; is_offset = h.is_offset })
      | inr within ↦ none h.offset within h.is_offset
    ]

-- the same offsets in other words
pub Meets-same : (P Q : ℕ → Type 0) (xs : List Interval) → ((o : ℕ) → P o → Q o) → Meets P xs → Meets Q xs
Meets-same P Q xs to h = record { offset = h.offset; is_in = h.is_in; is_offset = to h.offset h.is_offset }
