-- The fold that goes on behind faults, and the one that ends at the first.
use Rattle.std.proofs.Common.{◌≡◌, ℕ, suc, ◌+◌, List, [], ◌∷◌, ◌++◌, length, append-nil, append_assoc, add-zero, sym, ap, subst, refl, ◌∙◌, arith, inl, inr}
use Rattle.std.proofs.Common.{Result, Ok, Err, Option}
use Rattle.sig_table.specs.declared.error.TableError.{TableError}
use Rattle.sig_table.specs.Judging.{◌>>=◌, judged, passed}
use Rattle.sig_table.proofs.Exports.{answered}
use Rattle.sig_lint.specs.FaultViews.{FaultView}
use Rattle.sig_lint.specs.Faults.{done_by, faults_from, told}

-- there is no fault where there is a value, and else the first is the refusal
abbrev pub Agrees : {A : Type 0} → List FaultView → Result A TableError → Type 0
Agrees {A} [] r = (x : A) × (r ≡ Ok x)
Agrees (fault ∷ later) r = r ≡ Err fault.error

module _ {S : Type 0} (tell : List (List ℕ) → TableError → FaultView) (judge : ℕ → S → List (List ℕ) → Result S TableError) where
  pub faults_from-end : (n : ℕ) (done : S) → faults_from tell judge n done [] ≡ []
  unfolding faults_from
  faults_from-end n done = refl

  pub faults_from-more : (n : ℕ) (done : S) (fields : List (List ℕ)) (later : List (List (List ℕ)))
      → faults_from tell judge n done (fields ∷ later) ≡ told tell fields (passed done (judge n done fields)).1 ++ faults_from tell judge (n + 1)
      (passed done (judge n done fields)).0 later
  unfolding faults_from
  faults_from-more n done fields later = refl

  pub agrees : ((fields : List (List ℕ)) (e : TableError) → (tell fields e).error ≡ e) → (records : List (List (List ℕ))) (n : ℕ) (done : S)
      → Agrees (faults_from tell judge n done records) (judged judge n done records)
  unfolding faults_from judged
  agrees same [] n done = (done, refl)
  agrees same (fields ∷ later) n done = elim (answered (judge n done fields)) [
    | inl x ↦ rw x.1 (agrees same later (n + 1) x.0)
    | inr e ↦ rw e.1 (ap (λ x. Err x) (sym (same fields e.0)))
  ]

  -- one record more
  pub faults-more : (all front : List FaultView) (n : ℕ) (done taken : S) (fault : Option TableError) (fields : List (List ℕ)) (later : List (List (List ℕ)))
      → all ≡ front ++ faults_from tell judge n done (fields ∷ later)
      → (let both : S × Option TableError = (taken, fault) in both ≡ passed done (judge n done fields))
      → all ≡ (front ++ told tell fields fault) ++ faults_from tell judge (n + 1) taken later
  faults-more all front n done taken fault fields later is took =
      let goes : faults_from tell judge n done (fields ∷ later) ≡ told tell fields fault ++ faults_from tell judge (n + 1) taken later =
      faults_from-more n done fields later ∙ sym (ap (λ (p : S × Option TableError). told tell fields p.1 ++ faults_from tell judge (n + 1) p.0 later) took) in
      is ∙ ap (λ l. front ++ l) goes ∙ sym (append_assoc front (told tell fields fault) (faults_from tell judge (n + 1) taken later))

  pub faults-end : (all front : List FaultView) (n : ℕ) (done : S) → all ≡ front ++ faults_from tell judge n done [] → front ≡ all
  faults-end all front n done is = sym (is ∙ ap (λ l. front ++ l) (faults_from-end n done) ∙ append-nil front)

  -- records behind others
  pub faults_from-append : (earlier : List (List (List ℕ))) (n : ℕ) (t : S) (fields : List (List ℕ)) (later : List (List (List ℕ)))
      → let here = passed (done_by judge n t earlier) (judge (n + length earlier) (done_by judge n t earlier) fields)
      in faults_from tell judge n t (earlier ++ fields ∷ later) ≡ faults_from tell judge n t earlier
      ++ (told tell fields here.1 ++ faults_from tell judge (n + length earlier + 1) here.0 later)
  unfolding faults_from done_by
  faults_from-append [] n t fields later = rw add-zero refl
  faults_from-append (first ∷ earlier) n t fields later =
      let next = (passed t (judge n t first)).0 in
      let at : (n + 1) + length earlier ≡ n + suc (length earlier) = omega arith in
      let rest = subst (λ k. let here = passed (done_by judge (n + 1) next earlier) (judge k (done_by judge (n + 1) next earlier) fields)
      in faults_from tell judge (n + 1) next (earlier ++ fields ∷ later) ≡ faults_from tell judge (n + 1) next earlier
      ++ (told tell fields here.1 ++ faults_from tell judge (k + 1) here.0 later)) at
      (faults_from-append earlier (n + 1) next fields later) in
      ap (λ l. told tell first (passed t (judge n t first)).1 ++ l) rest ∙ sym (append_assoc (told tell first (passed t (judge n t first)).1) _ _)

-- a value has no fault, and a refusal a first one
pub Agrees-ok : {A : Type 0} (l : List FaultView) (r : Result A TableError) (x : A) → Agrees l r → r ≡ Ok x → l ≡ []
Agrees-ok [] r x h is = refl
Agrees-ok (fault ∷ later) r x h is = absurd (cc (h, is))

pub Agrees-err : {A B : Type 0} (l more : List FaultView) (r : Result A TableError) (s : Result B TableError) (e : TableError) → Agrees l r → r ≡ Err e
    → s ≡ Err e → Agrees (l ++ more) s
Agrees-err [] more r s e h is same = absurd (cc (h.1, is))
Agrees-err (fault ∷ later) more r s e h is same = let told_one : fault.error ≡ e = cc (h, is) in rw told_one same

pub Agrees-map : {A B : Type 0} (l : List FaultView) (r : Result A TableError) (g : A → B) → Agrees l r → Agrees l (r >>= (λ x. Ok (g x)))
Agrees-map [] r g h = (g h.0, rw h.1 refl)
Agrees-map (fault ∷ later) r g h = rw h refl
