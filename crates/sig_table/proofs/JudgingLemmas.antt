-- Records judged in turn: the laws of the fold, said once.
use Rattle.std.proofs.Common.{◌≡◌, ◌⊎◌, ℕ, suc, ◌+◌, List, [], ◌∷◌, ◌++◌, length, append-nil, append_assoc, add-zero, sym, ap, subst, refl, ◌∙◌, arith, inl}
use Rattle.std.proofs.Common.{inr, Result, Ok, Err, Option, Some, None}
use Rattle.sig_table.specs.declared.error.TableError.{TableError}
use Rattle.sig_table.specs.Judging.{FirstOf, WriteAll, judged, unless}

module _ {S : Type 0} (judge : ℕ → S → List (List ℕ) → Result S TableError) (n : ℕ) (done : S) (fields : List (List ℕ)) (later : List (List (List ℕ))) where
  pub judged-more : (more : S) → judge n done fields ≡ Ok more → judged judge n done (fields ∷ later) ≡ judged judge (n + 1) more later
  unfolding judged
  judged-more more h = rw h refl

  pub judged-fault : (e : TableError) → judge n done fields ≡ Err e → judged judge n done (fields ∷ later) ≡ Err e
  unfolding judged
  judged-fault e h = rw h refl

pub judged-end : {S : Type 0} (judge : ℕ → S → List (List ℕ) → Result S TableError) (n : ℕ) (done : S) → judged judge n done [] ≡ Ok done
unfolding judged
judged-end judge n done = refl

-- a fault ends the rows, whatever comes behind
pub unless-err : {A B : Type 0} (fault : Option TableError) (x : A) (rest : Result B TableError) (e : TableError) → unless fault (Ok x) ≡ Err e
    → unless fault rest ≡ Err e
unless-err None x rest e h = absurd (cc h)
unless-err (Some f) x rest e h = cc h

-- a fault that comes first is one alone
pub FirstOf-one : (IsThere : Type 0) (fault : TableError) (IsLater : TableError → Type 0) (a b : TableError) → (IsLater a → IsLater b → a ≡ b)
    → FirstOf IsThere fault IsLater a → FirstOf IsThere fault IsLater b → a ≡ b
FirstOf-one IsThere fault IsLater a b one x y = elim x [
  | inl there ↦ elim y [ inl also ↦ there.1 ∙ sym also.1 | inr later ↦ absurd (later.0 there.0) ]
  | inr later ↦ elim y [ inl there ↦ absurd (later.0 there.0) | inr also ↦ one later.1 also.1 ]
]

pub answered : {A : Type 0} (r : Result A TableError) → ((x : A) × (r ≡ Ok x)) ⊎ ((e : TableError) × (r ≡ Err e))
answered (Ok x) = inl (x, refl)
answered (Err e) = inr (e, refl)

pub there_or_not : {A : Type 0} (o : Option A) → (o ≡ None) ⊎ ((x : A) × (o ≡ Some x))
there_or_not None = inl refl
there_or_not (Some x) = inr (x, refl)

-- what a turn gives, said of the rows so far: one row more that is as rows should be, or a fault
pub record Turns {R S : Type 0} (judge : ℕ → S → List (List ℕ) → Result S TableError) (of : List R → S) (Are : List R → Type 0)
    (Writes : ℕ → List (List ℕ) → R → Type 0)
    (HasFault : List R → ℕ → List (List ℕ) → TableError → Type 0) : Type 0 where
  pub front : (done : List R) (row : R) → Are (done ++ row ∷ []) → Are done
  pub more : (done : List R) (n : ℕ) (fields : List (List ℕ)) (s : S) → Are done → judge n (of done) fields ≡ Ok s → (row : R) × Writes n fields row
      × Are (done ++ row ∷ []) × (s ≡ of (done ++ row ∷ []))
  pub taken : (done : List R) (n : ℕ) (fields : List (List ℕ)) (row : R) → Writes n fields row → Are (done ++ row ∷ [])
      → judge n (of done) fields ≡ Ok (of (done ++ row ∷ []))
  pub faulty : (done : List R) (n : ℕ) (fields : List (List ℕ)) (e : TableError) → Are done → judge n (of done) fields ≡ Err e → HasFault done n fields e
  pub refused : (done : List R) (n : ℕ) (fields : List (List ℕ)) (e : TableError) → Are done → HasFault done n fields e → judge n (of done) fields ≡ Err e

module _ {R S : Type 0} (judge : ℕ → S → List (List ℕ) → Result S TableError) (of : List R → S) (Are : List R → Type 0)
    (Writes : ℕ → List (List ℕ) → R → Type 0)
    (HasFault : List R → ℕ → List (List ℕ) → TableError → Type 0) (turns : Turns judge of Are Writes HasFault) where
  -- behind these rows, the records write more, and what they give is that of all
  pub record Continues (done : List R) (n : ℕ) (records : List (List (List ℕ))) (s : S) : Type 0 where
    pub rows : List R
    pub write : WriteAll Writes n records rows
    pub are : Are (done ++ rows)
    pub is : s ≡ of (done ++ rows)

  pub continues : (records : List (List (List ℕ))) (done : List R) (n : ℕ) (s : S) → Are done → judged judge n (of done) records ≡ Ok s
      → Continues done n records s
  unfolding judged
  continues [] done n s are h = record { rows = []; write = refl; are = rw (append-nil done) are; is = rw (append-nil done) (cc h) }
  continues (fields ∷ later) done n s are h = elim (answered (judge n (of done) fields)) [
    | inl t ↦
        let (row, writes, fine, is) = turns.more done n fields t.0 are t.1 in
        let rest = continues later (done ++ row ∷ []) (n + 1) s fine (rw (t.1, is) at h) in
        let whole = append_assoc done (row ∷ []) rest.rows in
        record { rows = row ∷ rest.rows; write = (writes, rest.write); are = subst Are whole rest.are; is = rest.is ∙ ap of whole }
    | inr e ↦ absurd (cc (rw e.1 at h))
  ]

  front-all : (later done : List R) → Are (done ++ later) → Are done
  front-all [] done are = rw append-nil at are
  front-all (row ∷ later) done are = turns.front done row (front-all later (done ++ row ∷ []) (subst Are (sym (append_assoc done (row ∷ []) later)) are))

  -- and the other way
  pub continued : (records : List (List (List ℕ))) (done rows : List R) (n : ℕ) → WriteAll Writes n records rows → Are (done ++ rows)
      → judged judge n (of done) records ≡ Ok (of (done ++ rows))
  unfolding judged
  continued [] done rows n write are = rw (write, append-nil done) refl
  continued (fields ∷ later) done [] n write are = absurd write
  continued (fields ∷ later) done (row ∷ rows) n write are =
      let whole = append_assoc done (row ∷ []) rows in
      let all = subst Are (sym whole) are in
      rw (turns.taken done n fields row write.0 (front-all rows (done ++ row ∷ []) all))
      (continued later (done ++ row ∷ []) rows (n + 1) write.1 all ∙ ap (λ l. Ok (of l)) whole)

  -- behind these rows, some record has the fault, and those before it write rows
  pub record Stops (done : List R) (n : ℕ) (records : List (List (List ℕ))) (fault : TableError) : Type 0 where
    pub earlier : List (List (List ℕ))
    pub fields : List (List ℕ)
    pub later : List (List (List ℕ))
    pub cut : records ≡ earlier ++ fields ∷ later
    pub rows : List R
    pub write : WriteAll Writes n earlier rows
    pub are : Are (done ++ rows)
    pub has : HasFault (done ++ rows) (n + length earlier) fields fault

  -- the first of the records
  stops_here : (done : List R) (n : ℕ) (fields : List (List ℕ)) (later : List (List (List ℕ))) (fault : TableError) → Are done → HasFault done n fields fault
      → Stops done n (fields ∷ later) fault
  stops_here done n fields later fault are is = record {
    earlier = [];
    fields = fields;
    later = later;
    cut = refl;
    rows = [];
    write = refl;
    are = rw (append-nil done) are;
    has = rw (append-nil done, add-zero) is;
  }

  pub stops : (records : List (List (List ℕ))) (done : List R) (n : ℕ) (fault : TableError) → Are done → judged judge n (of done) records ≡ Err fault
      → Stops done n records fault
  unfolding judged
  stops [] done n fault are h = absurd (cc h)
  stops (fields ∷ later) done n fault are h = elim (answered (judge n (of done) fields)) [
    | inl t ↦
        let (row, writes, fine, is) = turns.more done n fields t.0 are t.1 in
        let rest = stops later (done ++ row ∷ []) (n + 1) fault fine (rw (t.1, is) at h) in
        let at : (n + 1) + length rest.earlier ≡ n + suc (length rest.earlier) = omega arith in
        let whole = append_assoc done (row ∷ []) rest.rows in
        record {
          earlier = fields ∷ rest.earlier;
          fields = rest.fields;
          later = rest.later;
          cut = ap (λ l. fields ∷ l) rest.cut;
          rows = row ∷ rest.rows;
          write = (writes, rest.write);
          are = subst Are whole rest.are;
          has = subst (λ k. HasFault (done ++ row ∷ rest.rows) k rest.fields fault) at
              (subst (λ l. HasFault l ((n + 1) + length rest.earlier) rest.fields fault) whole rest.has);
        }
    | inr e ↦ let is : e.0 ≡ fault = cc (rw e.1 at h) in stops_here done n fields later fault are
        (subst (HasFault done n fields) is (turns.faulty done n fields e.0 are e.1))
  ]

  -- and the other way
  pub stopped : (earlier : List (List (List ℕ))) (done rows : List R) (n : ℕ) (fields : List (List ℕ)) (later : List (List (List ℕ))) (fault : TableError)
      → WriteAll Writes n earlier rows → Are (done ++ rows)
      → HasFault (done ++ rows) (n + length earlier) fields fault → judged judge n (of done) (earlier ++ fields ∷ later) ≡ Err fault
  unfolding judged
  stopped [] done rows n fields later fault write are has =
      let none : rows ≡ [] = write in
      let here : HasFault done n fields fault = rw (none, append-nil done, add-zero) at has in
      rw (turns.refused done n fields fault (rw (none, append-nil done) at are) here) refl
  stopped (first ∷ earlier) done [] n fields later fault write are has = absurd write
  stopped (first ∷ earlier) done (row ∷ rows) n fields later fault write are has =
      let whole = append_assoc done (row ∷ []) rows in
      let all = subst Are (sym whole) are in
      let at : n + suc (length earlier) ≡ (n + 1) + length earlier = omega arith in
      let here = subst (λ l. HasFault l ((n + 1) + length earlier) fields fault) (sym whole) (subst (λ k. HasFault (done ++ row ∷ rows) k fields fault) at has)
      in
      rw (turns.taken done n first row write.0 (front-all rows (done ++ row ∷ []) all))
      (stopped earlier (done ++ row ∷ []) rows (n + 1) fields later fault write.1 all here)
