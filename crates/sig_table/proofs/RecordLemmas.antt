-- A reader gives the records of a text one after the other.
use Rattle.std.proofs.Common.{◌≡◌, ◌⊎◌, ℕ, zero, suc, ◌+◌, ◌≤◌, Bool, true, false, List, [], ◌∷◌, length, Option, Some, None, sym, ap, ◌∙◌, refl, add-one}
use Rattle.std.proofs.Common.{arith, inl, inr, Result, Ok, Err}
use Rattle.std.proofs.lemmas.Bool.{cases_Bool, false≢true}
use Rattle.std.specs.Bool.{MatchBool}
use Rattle.std.specs.Borrow.{Bor}
use Rattle.csv.proofs.ReadFacts.{rows-end, rows-more}
use Rattle.csv.specs.Machine.{Read, next_record, step, is_end, fields_after, field_after, ends_at_end}
use Rattle.csv.specs.Reading.{AreRecords, ExplainsRead, Reached, ReadRecord, ReadsNext, default_config, has_failed, is_bom, is_flexible, pending_of, Ready}
use Rattle.csv.specs.Reading.{reader_state, reader_trim, records_from, stops_reader, strip_bom, took_first}
use Rattle.csv.specs.declared.error.Error.{Error}
use Rattle.csv.specs.declared.error.ErrorKind.{ErrorKind}
use Rattle.csv.specs.declared.error.ErrorKind.TheVariants as kind
use Rattle.csv.specs.declared.parser.Config.{Config}
use Rattle.csv.specs.declared.parser.State.{State}
use Rattle.csv.specs.declared.parser.State.TheVariants as st
use Rattle.csv.specs.declared.reader.Reader.{Reader}
use Rattle.csv.specs.declared.reader.Trim.TheVariants as trim
use Rattle.sig_table.specs.Loading.{records_of}
use Rattle.sig_table.specs.Records.{IsReader, IsReading, records_in, records_left, text_left}

-- a record takes a byte at least, where there is one
shorter : (cfg : Config) (s : State) (fields : List (List ℕ)) (field : List ℕ) (c : ℕ) (rest : List ℕ) (p : Read)
    → next_record cfg s fields field (c ∷ rest) ≡ Some p → length p.2 ≤ length rest
unfolding next_record
shorter cfg s fields field c [] p h = elim (cases_Bool (is_end (step cfg s c).1)) [
  | inl t ↦ let e = rw t at h in let same : [] ≡ p.2 = cc e in omega (arith, ap length same)
  | inr f ↦ elim (cases_Bool (ends_at_end (step cfg s c).0)) [
    | inl t ↦ let e = rw (f, t) at h in let same : [] ≡ p.2 = cc e in omega (arith, ap length same)
    | inr n ↦ absurd (cc (rw (f, n) at h))
  ]
]
shorter cfg s fields field c (d ∷ rest) p h = elim (cases_Bool (is_end (step cfg s c).1)) [
  | inl t ↦ let e = rw t at h in let same : d ∷ rest ≡ p.2 = cc e in omega (arith, ap length same)
  | inr f ↦ let less = shorter cfg (step cfg s c).0 (fields_after (step cfg s c).1 fields field) (field_after (step cfg s c).1 c field) d rest p (rw f at h) in
      omega arith
]

-- at the end of the text there is no record at the start of one
pub none_left : (cfg : Config) → next_record cfg st.StartRecord [] [] [] ≡ None
unfolding next_record
none_left cfg = refl

-- at the end of the text there is at most one more record
one_more : (cfg : Config) (s : State) (p : Read) → next_record cfg s [] [] [] ≡ Some p → (p.1 ≡ st.StartRecord) × (p.2 ≡ [])
unfolding next_record
one_more cfg s p h = elim (cases_Bool (ends_at_end s)) [
  | inl t ↦ let e = rw t at h in (cc e, cc e)
  | inr f ↦ absurd (cc (rw f at h))
]

ended : (cfg : Config) (n : ℕ) → records_from cfg n st.StartRecord [] ≡ []
unfolding records_from
ended cfg zero = refl
ended cfg (suc n) = rw (none_left cfg) refl

found_or_not : {A : Type 0} (o : Option A) → (o ≡ None) ⊎ ((x : A) × (o ≡ Some x))
found_or_not None = inl refl
found_or_not (Some x) = inr (x, refl)

-- so many turns as bytes are left, and one, find all records
enough : (cfg : Config) (n m : ℕ) (s : State) (xs : List ℕ) → length xs ≤ n → length xs ≤ m → records_from cfg (suc n) s xs ≡ records_from cfg (suc m) s xs
unfolding records_from
enough cfg n m s [] h k = elim (found_or_not (next_record cfg s [] [] [])) [
  | inl none ↦ rw none refl
  | inr p ↦ let end = one_more cfg s p.0 p.1 in rw (p.1, end.0, end.1, ended cfg n, ended cfg m) refl
]
enough cfg zero m s (c ∷ xs) h k = absurd (omega arith)
enough cfg (suc n) zero s (c ∷ xs) h k = absurd (omega arith)
enough cfg (suc n) (suc m) s (c ∷ xs) h k = elim (found_or_not (next_record cfg s [] [] (c ∷ xs))) [
  | inl none ↦ rw none refl
  | inr p ↦
      let less = shorter cfg s [] [] c xs p.0 p.1 in
      rw p.1 (ap (λ l. p.0.0 ∷ l) (enough cfg n m p.0.1 p.0.2 (omega arith) (omega arith)))
]

-- the records behind the first
behind : (s : State) (xs : List ℕ) (p : Read) → next_record default_config s [] [] xs ≡ Some p
    → records_from default_config (length xs) p.1 p.2 ≡ records_from default_config (suc (length p.2)) p.1 p.2
unfolding records_from
behind s [] p found = let end = one_more default_config s p found in rw (end.0, end.1, none_left default_config) refl
behind s (c ∷ xs) p found = enough default_config (length xs) (length p.2) p.1 p.2 (shorter default_config s [] [] c xs p found) (omega arith)

first_record : (s : State) (xs : List ℕ) (p : Read) → next_record default_config s [] [] xs ≡ Some p → records_in s (Some xs) ≡ p.0 ∷ records_in p.1 (Some p.2)
unfolding records_from
first_record s xs p found = rw (add-one (length xs), add-one (length p.2), found) (ap (λ l. p.0 ∷ l) (behind s xs p found))

no_record : (s : State) (xs : List ℕ) → next_record default_config s [] [] xs ≡ None → records_in s (Some xs) ≡ []
unfolding records_from
no_record s xs none = rw (add-one (length xs), none) refl

-- records that follow on one another to the end are all
reached-all : (s : State) (xs : List ℕ) (rows : List (List (List ℕ))) (s2 : State) (ys : List ℕ) → Reached default_config s xs rows s2 ys
    → next_record default_config s2 [] [] ys ≡ None → records_in s (Some xs) ≡ rows
unfolding Reached
reached-all s xs [] s2 ys (at, left) none = rw (at, left) (no_record s2 ys none)
reached-all s xs (row ∷ rows) s2 ys (p, found, same, r) none =
    first_record s xs p found ∙ ap (λ l. p.0 ∷ l) (reached-all p.1 p.2 rows s2 ys r none) ∙ ap (λ x. x ∷ rows) (sym same)

pub records_of-from : (text : List ℕ) (rows : List (List (List ℕ))) → AreRecords default_config st.StartRecord (strip_bom text) rows → rows ≡ records_of text
unfolding records_of
records_of-from text rows (s2, ys, reached, none) = sym (reached-all st.StartRecord (strip_bom text) rows s2 ys reached none)

abbrev pub known : Bor (List ℕ) → Option (List ℕ)
known text = Some text.now

first_of : (s s2 : State) (xs rest : List ℕ) (fields : List (List ℕ)) → Reached default_config s xs (fields ∷ []) s2 rest
    → records_in s (Some xs) ≡ fields ∷ records_in s2 (Some rest)
unfolding Reached
first_of s s2 xs rest fields (p, found, same, at) = rw (← at.0, ← at.1, same) (first_record s xs p found)

-- a read that gives a record takes it off
pub records_left-read : (a b : Reader (Bor (List ℕ))) (fields : List (List ℕ)) → IsReading a → ReadRecord known a b true fields
    → records_left a ≡ fields ∷ records_left b
unfolding records_left Reached
records_left-read a b fields is r =
    let m = rows-more known a b fields default_config a.state is.text is.text [] is.dialect is.left (refl, refl) r in
    rw (is.left, m.1) (first_of a.state b.state is.text m.0 fields m.2)

-- and one that gives none had none
pub records_left-end : (a b : Reader (Bor (List ℕ))) (fields : List (List ℕ)) → IsReading a → ReadRecord known a b false fields → records_left a ≡ []
unfolding records_left
records_left-end a b fields is r = rw is.left (no_record a.state is.text (rows-end known a b fields default_config is.text is.dialect is.left r))

-- a reader that failed has none
pub records_left-failed : (a : Reader (Bor (List ℕ))) → has_failed a ≡ true → records_left a ≡ []
unfolding records_left
records_left-failed a failed = rw failed refl

-- what it has left is known
known_after : (cfg : Config) (s s2 : State) (before after : Option (List ℕ)) (found : Bool) (fields : List (List ℕ)) (text : List ℕ) → before ≡ Some text
    → ReadsNext cfg s before after found fields s2 → (z : List ℕ) × (after ≡ Some z)
known_after cfg s s2 before None found fields text is_text reads = absurd (rw is_text at reads)
known_after cfg s s2 before (Some z) found fields text is_text reads = (z, refl)

text_after : (a b : Reader (Bor (List ℕ))) (found : Bool) (fields : List (List ℕ)) → IsReading a → ReadRecord known a b found fields → (z : List ℕ)
    × (text_left b ≡ Some z)
text_after a b found fields is r = let z = known_after a.config a.state b.state (text_left a) (pending_of (known b.rdr) b) found fields is.text is.left r.0 in
    (z.0, rw r.1 z.1)

-- a reader of records of any length reads on after each
pub reads_on : (a b : Reader (Bor (List ℕ))) (found : Bool) (fields : List (List ℕ)) → IsReading a → ReadRecord known a b found fields → took_first b ≡ true
    → is_flexible b ≡ is_flexible a → has_failed b ≡ has_failed a → IsReading b
reads_on a b found fields is r first flexible failed = record {
  dialect = r.2 ∙ is.dialect;
  untrimmed = r.3 ∙ is.untrimmed;
  flexible = flexible ∙ is.flexible;
  ready = inl first;
  text = (text_after a b found fields is r).0;
  left = (text_after a b found fields is r).1;
}

-- its errors stop it: no length is a fault, and no bytes are
pub stopped : (a b : Reader (Bor (List ℕ))) (why : ErrorKind) → IsReading a → ExplainsRead known a b false why → stops_reader why ≡ true
stopped a b (kind.Io e) is h = refl
stopped a b kind.OutOfMemory is h = refl
stopped a b (kind.UnequalLengths pos expected len) is h = absurd (false≢true (sym h.0 ∙ is.flexible))
stopped a b (kind.Utf8 pos err) is h = absurd (false≢true h.0)
stopped a b (kind.Serialize text) is h = absurd h
stopped a b (kind.Deserialize pos err) is h = absurd h

-- at the start of a text the reader has all its records
pub records_left-new : (reader : Reader (Bor (List ℕ))) (text : List ℕ) → reader_state reader ≡ st.StartRecord → text_left reader ≡ Some (strip_bom text)
    → records_left reader ≡ records_of text
unfolding records_left records_of
records_left-new reader text start left = rw (start, left) refl

-- so many turns find no more records
few_turns : (cfg : Config) (n : ℕ) (s : State) (xs : List ℕ) → length (records_from cfg n s xs) ≤ n
unfolding records_from
few_turns cfg zero s xs = omega arith
few_turns cfg (suc n) s xs = elim (found_or_not (next_record cfg s [] [] xs)) [
  | inl none ↦ rw none (omega arith)
  | inr p ↦ let more = few_turns cfg n p.0.1 p.0.2 in rw p.1 (omega arith)
]

bom_stripped : (text : List ℕ) → length (strip_bom text) ≤ length text
unfolding strip_bom
bom_stripped [] = omega arith
bom_stripped (a ∷ []) = omega arith
bom_stripped (a ∷ b ∷ []) = omega arith
bom_stripped (a ∷ b ∷ c ∷ rest) = elim (cases_Bool (is_bom a b c)) [
  | inl t ↦ rw t (omega arith)
  | inr f ↦ rw f (omega arith)
]

-- a text has no more records than bytes, and one
pub records_of-few : (text : List ℕ) → length (records_of text) ≤ length text + 1
unfolding records_of
records_of-few text =
    let turns = few_turns default_config (length (strip_bom text) + 1) st.StartRecord (strip_bom text) in
    let stripped = bom_stripped text in
    omega arith

module _ (a b : Reader (Bor (List ℕ))) (is : IsReader a) where
  pub left-read : (found : Bool) (fields : List (List ℕ)) → (reader_trim a ≡ trim.None → Ready a → ReadRecord known a b found fields)
      → (has_failed a ≡ true → ◌≡◌ {A = Result Bool Error} (Ok found) (Ok false))
      → MatchBool found (records_left a ≡ fields ∷ records_left b) (records_left a ≡ [])
  left-read true fields reads failed = elim is [
    | inl f ↦ absurd (cc (failed f))
    | inr r ↦ records_left-read a b fields r (reads r.untrimmed r.ready)
  ]
  left-read false fields reads failed = elim is [
    | inl f ↦ records_left-failed a f
    | inr r ↦ records_left-end a b fields r (reads r.untrimmed r.ready)
  ]

  pub reader-read : (found : Bool) (fields : List (List ℕ)) → (reader_trim a ≡ trim.None → Ready a → ReadRecord known a b found fields)
      → (reader_trim a ≡ trim.None → took_first b ≡ true)
      → is_flexible b ≡ is_flexible a → has_failed b ≡ has_failed a → IsReader b
  reader-read found fields reads first flexible failed = elim is [
    | inl f ↦ inl (failed ∙ f)
    | inr r ↦ inr (reads_on a b found fields r (reads r.untrimmed r.ready) (first r.untrimmed) flexible failed)
  ]

  pub reader-stopped : (why : ErrorKind) (e : Error) → (has_failed a ≡ true → ◌≡◌ {A = Result Bool Error} (Err e) (Ok false))
      → (Ready a → ExplainsRead known a b false why) → stops_reader why ≡ true
  reader-stopped why e failed explains = elim is [
    | inl f ↦ absurd (cc (failed f))
    | inr r ↦ stopped a b why r (explains r.ready)
  ]
