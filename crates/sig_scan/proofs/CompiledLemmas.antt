-- A table that is compiled sequence by sequence: the courses of the signatures that are to be hit.
use Rattle.sig_scan.proofs.Common.{◌≡◌, ◌∙◌, ℕ, ◌+◌, ◌≤◌, ◌<◌, inl, inr, All, Bool, List, [], ◌∷◌, ◌++◌, Some, ap, arith, false, true, get_or, length, subst}
use Rattle.sig_scan.proofs.Common.{sym, All-nil, get_or_from_slice_get, slice_get-get_or, slice_get_within, slice_get, IsBoundedCourse, course_if, IsProgramOf}
use Rattle.sig_scan.proofs.Common.{IsWholeProgramOf, ProgramView, AreBounded, CourseView, StageView, course_of, SequenceView, SignatureView, TableView, ◌⊎◌}
use Rattle.sig_scan.proofs.Common.{length-append, refl, get_or-append_seam, cases_lt, get_or_append_left, All-push, Hits, Stands, AreCoursesOf, AreNeeded}
use Rattle.sig_scan.proofs.Common.{HasSequence}
use Rattle.sig_scan.proofs.CutLemmas.{stages-bounded, tail-bounded}
use Rattle.sig_scan.proofs.FilterLemmas.{push_cases}
use Rattle.sig_scan.proofs.ScanLemmas.{one_value}

-- no word of a course is without bound
pub course_if-bounded : (b : Bool) (s : SequenceView) → IsBoundedCourse (course_if b s)
course_if-bounded true s = record { stages = stages-bounded s.position s.items; tail = tail-bounded s.position s.items }
course_if-bounded false s = record { stages = All-nil (λ (t : StageView). AreBounded t.items); tail = tt }

-- the sequences of the signatures before `index`, and the first `to` of that one, with their courses
pub record AreAdded (table : TableView) (may_hit : List Bool) (index to : ℕ) (owners : List ℕ) (courses : List CourseView) : Type 0 where
  pub sequences : List SequenceView
  pub count : length sequences ≡ length owners
  pub within : All (λ g. g < length table.signatures) owners
  pub needed : AreNeeded table owners sequences
  pub has : (g j : ℕ) (h : SignatureView) (s : SequenceView) → (g < index) ⊎ ((g ≡ index) × (j < to)) → slice_get table.signatures g ≡ Some h
      → slice_get h.sequences j ≡ Some s → HasSequence owners sequences g s
  pub are : AreCoursesOf may_hit owners sequences courses

pub AreAdded-none : (table : TableView) (may_hit : List Bool) → AreAdded table may_hit 0 0 [] []
AreAdded-none table may_hit = record {
  sequences = [];
  count = refl;
  within = All-nil (λ g. g < length table.signatures);
  needed = λ i g s h owner. absurd (let low = slice_get_within [] i g owner in omega arith);
  has = λ g j h s low. elim low [ inl before ↦ absurd (omega arith) | inr both ↦ (let none = both.1 in absurd (omega arith)) ];
  are = λ i g s c owner. absurd (let low = slice_get_within [] i g owner in omega arith);
}

-- what was at a place still is where the list has one more
pushed : {X : Type 0} (xs : List X) (x y : X) (i : ℕ) → slice_get xs i ≡ Some y → slice_get (xs ++ x ∷ []) i ≡ Some y
pushed {X} xs x y i at =
    let low = slice_get_within xs i y at in
    let len = length-append xs (x ∷ []) in
    slice_get-get_or (xs ++ x ∷ []) i y (omega arith)
    ∙ ap (λ (z : X). Some z) (get_or_append_left xs (x ∷ []) y i low ∙ get_or_from_slice_get xs i y y at)

pushed_last : {X : Type 0} (xs : List X) (x : X) (n : ℕ) → n ≡ length xs → slice_get (xs ++ x ∷ []) n ≡ Some x
pushed_last {X} xs x n is =
    let len = length-append xs (x ∷ []) in
    slice_get-get_or (xs ++ x ∷ []) n x (omega arith)
    ∙ ap (λ (z : X). Some z) (ap (λ k. get_or (xs ++ x ∷ []) k x) is ∙ get_or-append_seam xs x [] x)

-- one sequence more
pub AreAdded-push : (table : TableView) (may_hit : List Bool) (index to : ℕ) (owners : List ℕ) (courses : List CourseView) (g : SignatureView)
    (x : SequenceView) → length courses ≡ length owners → slice_get table.signatures index ≡ Some g → slice_get g.sequences to ≡ Some x
    → AreAdded table may_hit index to owners courses
    → AreAdded table may_hit index (to + 1) (owners ++ index ∷ []) (courses ++ course_if (get_or may_hit index false) x ∷ [])
AreAdded-push table may_hit index to owners courses g x same_len signature at added =
    let sequences = added.sequences in
    let count = added.count in
    let len = length-append owners (index ∷ []) in
    let len_s = length-append sequences (x ∷ []) in
    let flag : Bool = get_or may_hit index false in
    let more : (n : ℕ) (s : SequenceView) → HasSequence owners sequences n s → HasSequence (owners ++ index ∷ []) (sequences ++ x ∷ []) n s = λ n s was.
    record { place = was.place; owner = pushed owners index n was.place was.owner; sequence = pushed sequences x s was.place was.sequence } in
    record {
      sequences = sequences ++ x ∷ [];
      count = omega arith;
      within = All-push (λ n. n < length table.signatures) owners index added.within (slice_get_within table.signatures index g signature);
      needed = λ i n s h owner sequence signature_n file hits.
          elim (push_cases sequences x s i sequence) [
            | inl old ↦ elim (push_cases owners index n i owner) [
              | inl was ↦ added.needed i n s h was.1 old.1 signature_n file hits
              | inr now ↦ (let low = old.0 in let end = now.0 in absurd (omega arith))
            ]
            | inr new ↦ elim (push_cases owners index n i owner) [
              | inl was ↦ (let low = was.0 in let end = new.0 in absurd (omega arith))
              | inr now ↦ (
                  let same : g ≡ h = one_value (slice_get table.signatures n) g h (subst (λ m. slice_get table.signatures m ≡ Some g) now.1 signature)
                  signature_n in
                  let value = get_or_from_slice_get g.sequences to x x at in
                  subst (λ (v : SequenceView). Stands v file) (value ∙ new.1)
                  (subst (λ (v : SignatureView). Hits v file) (sym same) hits to x (slice_get_within g.sequences to x at)))
            ]
          ];
      has = λ n j h s low signature_n sequence.
          elim (cases_lt n index) [
            | inl before ↦ more n s (added.has n j h s (inl before) signature_n sequence)
            | inr behind ↦ (
                let both : (n ≡ index) × (j < to + 1) = elim low [ inl before ↦ absurd (omega arith) | inr here ↦ here ] in
                let n_is = both.0 in
                let most = both.1 in
                elim (cases_lt j to) [
                  | inl early ↦ more n s (added.has n j h s (inr (n_is, early)) signature_n sequence)
                  | inr late ↦ (
                      let j_is : j ≡ to = omega arith in
                      let same : h ≡ g = one_value (slice_get table.signatures index) h g (subst (λ m. slice_get table.signatures m ≡ Some h) n_is signature_n)
                      signature in
                      let there = subst (λ m. slice_get g.sequences m ≡ Some s) j_is
                      (subst (λ (v : SignatureView). slice_get v.sequences j ≡ Some s) same sequence) in
                      let s_is : x ≡ s = one_value (slice_get g.sequences to) x s at there in
                      record {
                        place = length owners;
                        owner = pushed_last owners index (length owners) refl ∙ ap (λ m. Some m) (sym n_is);
                        sequence = pushed_last sequences x (length owners) (sym count) ∙ ap (λ (v : SequenceView). Some v) s_is;
                      })
                ])
          ];
      are = λ i n s c owner may sequence course.
          elim (push_cases courses (course_if flag x) c i course) [
            | inl old ↦ elim (push_cases owners index n i owner) [
              | inl was ↦ elim (push_cases sequences x s i sequence) [
                | inl one ↦ added.are i n s c was.1 may one.1 old.1
                | inr two ↦ (let low = old.0 in let end = two.0 in absurd (omega arith))
              ]
              | inr now ↦ (let low = old.0 in let end = now.0 in absurd (omega arith))
            ]
            | inr new ↦ elim (push_cases owners index n i owner) [
              | inl was ↦ (let low = was.0 in let end = new.0 in absurd (omega arith))
              | inr now ↦ elim (push_cases sequences x s i sequence) [
                | inl one ↦ (let low = one.0 in let end = new.0 in absurd (omega arith))
                | inr two ↦ (
                    let yes : flag ≡ true = get_or_from_slice_get may_hit index true false (subst (λ m. slice_get may_hit m ≡ Some true) (sym now.1) may) in
                    sym new.1 ∙ ap (λ d. course_if d x) yes ∙ ap course_of two.1)
              ]
            ]
          ];
    }

-- all of a signature
pub AreAdded-next : (table : TableView) (may_hit : List Bool) (index to : ℕ) (owners : List ℕ) (courses : List CourseView) (g : SignatureView)
    → slice_get table.signatures index ≡ Some g → length g.sequences ≤ to → AreAdded table may_hit index to owners courses
    → AreAdded table may_hit (index + 1) 0 owners courses
AreAdded-next table may_hit index to owners courses g signature all added = record {
  sequences = added.sequences;
  count = added.count;
  within = added.within;
  needed = added.needed;
  has = λ n j h s low signature_n sequence.
      let most : n < index + 1 = elim low [ inl before ↦ before | inr both ↦ (let none = both.1 in absurd (omega arith)) ] in
      elim (cases_lt n index) [
        | inl before ↦ added.has n j h s (inl before) signature_n sequence
        | inr behind ↦ (
            let n_is : n ≡ index = omega arith in
            let same : h ≡ g = one_value (slice_get table.signatures index) h g (subst (λ m. slice_get table.signatures m ≡ Some h) n_is signature_n) signature
            in
            let inside = slice_get_within h.sequences j s sequence in
            let len = ap (λ (v : SignatureView). length v.sequences) same in
            added.has n j h s (inr (n_is, omega arith)) signature_n sequence)
      ];
  are = added.are;
}

-- all of a table
pub IsProgramOf-added : (table : TableView) (may_hit : List Bool) (index : ℕ) (program : ProgramView) → length table.signatures ≤ index
    → AreAdded table may_hit index 0 program.owners program.courses → IsProgramOf table may_hit program
IsProgramOf-added table may_hit index program all added = record {
  sequences = added.sequences;
  are = record {
    count = added.count;
    within = added.within;
    needed = added.needed;
    whole = λ g j h s signature sequence.
        let low = slice_get_within table.signatures g h signature in
        added.has g j h s (inl (omega arith)) signature sequence;
  };
  courses = added.are;
}

-- a program of all signatures is one of any
pub IsWholeProgramOf-all : (table : TableView) (all : List Bool) (program : ProgramView) → length all ≡ length table.signatures → All (λ b. b ≡ true) all
    → IsProgramOf table all program → IsWholeProgramOf table program
IsWholeProgramOf-all table all program count each is = record {
  any = λ may_hit. record {
    sequences = is.sequences;
    are = is.are;
    courses = λ i g s c owner may sequence course.
        let low = get_or_from_slice_get program.owners i g 0 owner in
        let below : g < length table.signatures = subst (λ n. n < length table.signatures) low (is.are.within i 0 (slice_get_within program.owners i g owner))
        in
        let within : g < length all = omega arith in
        is.courses i g s c owner (slice_get-get_or all g true within ∙ ap (λ (b : Bool). Some b) (each g true within)) sequence course;
  };
}
