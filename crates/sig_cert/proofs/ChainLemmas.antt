-- Steps that are judged one after another: the tables of a pair, and the pairs.
use Rattle.std.proofs.Common.{◌≡◌, ◌⊎◌, ℕ, suc, ◌+◌, ◌-◌, ◌*◌, ◌<◌, ◌≤◌, ◌==◌, Bool, true, false, if◌then◌else◌, List, [], ◌∷◌, ◌++◌, length, map, refl, sym}
use Rattle.std.proofs.Common.{ap, ◌∙◌, subst, arith, inl, inr, length-append, Ok, Err}
use Rattle.std.specs.Prelude.{All, flat_map}
use Rattle.std.specs.List.{range_with_len}
use Rattle.std.proofs.Math.Nat.{suc-mul, mul-le-mul}
use Rattle.std.proofs.lemmas.List.{length-map}
use Rattle.std.proofs.lemmas.List.Elements.{All-cons}
use Rattle.sig_cert.specs.declared.error.CheckError.{CheckError}
use Rattle.sig_cert.specs.declared.error.CheckError.TheVariants.{OutOfMemory}
use Rattle.sig_cert.specs.declared.site.Site.{Site}
use Rattle.sig_cert.specs.Chains.{Chained, signatures_left, signatures_with}
use Rattle.sig_cert.specs.Layouts.{Version}
use Rattle.sig_cert.specs.Pairs.{format_pairs, pairs_with, signatures_of}
use Rattle.sig_cert.specs.Verdicts.{Outcome, PairJudged, PairsJudged, TableJudged, TablesJudged}
use Rattle.sig_cert.proofs.PairLemmas.{length-format_pairs}
use Rattle.sig_table.specs.declared.ids.SigId.{SigId}
use Rattle.sig_table.specs.Places.{places_of}
use Rattle.sig_table.specs.Views.{SignatureView, TableView}

-- there are no more signatures of a format than signatures
few_of : (format at : ℕ) (signatures : List SignatureView) → length (places_of format at signatures) ≤ length signatures
few_of format at [] = omega arith
few_of format at (s ∷ later) = by (s.format == format) (few_of format (at + 1) later)
  where
    by : (b : Bool) → length (places_of format (at + 1) later) ≤ length later
        → length (if b then record { 0 = at } ∷ places_of format (at + 1) later else places_of format (at + 1) later) ≤ suc (length later)
    by true h = omega (arith, h)
    by false h = omega (arith, h)

-- the signatures of a format are those of the table
known_of : (format at : ℕ) (signatures : List SignatureView) → All (λ s. s.0 < at + length signatures) (places_of format at signatures)
known_of format at [] = λ k d below. absurd (omega arith)
known_of format at (s ∷ later) = by (s.format == format) (λ k d below. let h = known_of format (at + 1) later k d below in omega (arith, h))
  where
    by : (b : Bool) → All (λ t. t.0 < at + suc (length later)) (places_of format (at + 1) later)
        → All (λ t. t.0 < at + suc (length later)) (if b then record { 0 = at } ∷ places_of format (at + 1) later else places_of format (at + 1) later)
    by true rest = All-cons (λ t. t.0 < at + suc (length later)) (record { 0 = at }) (places_of format (at + 1) later) (omega arith) rest
    by false rest = rest

pub signatures_known : (table : TableView) (format : ℕ) → All (λ s. s.0 < length table.signatures) (places_of format 0 table.signatures)
signatures_known table format = λ k d below. let h = known_of format 0 table.signatures k d below in omega (arith, h)

-- how many pairs of signatures are left
length-signatures_left : (table : TableView) (format : ℕ) (these : List SigId)
    → length (signatures_left table format these) ≡ length these * length (signatures_of table format)
length-signatures_left table format [] = sym zero_times
  where
    zero_times : 0 * length (signatures_of table format) ≡ 0
    zero_times = omega arith
length-signatures_left table format (s ∷ these) =
    length-append (map (λ t. (s.0, t)) (signatures_of table format)) (signatures_left table format these)
    ∙ (let first = length-map {B = ℕ × ℕ} (signatures_of table format) (λ t. (s.0, t)) in
    let later = length-signatures_left table format these in
    let all = suc-mul (length these) (length (signatures_of table format)) in omega (arith, first, later, all))

-- there are at most sixteen million pairs of signatures of two formats
pub few_pairs : (table : TableView) (a b : ℕ) → length table.signatures ≤ 4000 → length (signatures_left table b (places_of a 0 table.signatures)) ≤ 16000000
few_pairs table a b few =
    let firsts = few_of a 0 table.signatures in
    let seconds = few_of b 0 table.signatures in
    let same = length-map (places_of b 0 table.signatures) (λ s. s.0) in
    let p : length (places_of a 0 table.signatures) ≤ 4000 = omega (arith, firsts) in
    let q : length (signatures_of table b) ≤ 4000 = omega (arith, seconds, same) in
    let product = mul-le-mul p q in
    let long = length-signatures_left table b (places_of a 0 table.signatures) in omega (arith, product, long)

-- the pairs left while a signature's are judged
pub signatures_left-cons : (table : TableView) (b : ℕ) (these later others : List SigId) (s : SigId) → these ≡ s ∷ later
    → others ≡ places_of b 0 table.signatures → signatures_left table b these ≡ signatures_with s.0 others ++ signatures_left table b later
signatures_left-cons table b these later others s is all = ap (signatures_left table b) is ∙ ap (λ xs. signatures_with s.0 xs ++ signatures_left table b later)
    (sym all)

pub signatures_with-none : (s : ℕ) (others : List SigId) (later : List (ℕ × ℕ)) → others ≡ [] → signatures_with s others ++ later ≡ later
signatures_with-none s others later none = ap (λ xs. signatures_with s xs ++ later) none

pub signatures_with-cons : (s : ℕ) (others rest : List SigId) (later : List (ℕ × ℕ)) (t : SigId) → others ≡ t ∷ rest
    → signatures_with s others ++ later ≡ (s, t.0) ∷ (signatures_with s rest ++ later)
signatures_with-cons s others rest later t is = ap (λ xs. signatures_with s xs ++ later) is

-- a step on: a table was judged
pub tables_go_on : (version : Version) (table : TableView) (pair n : ℕ) (at : Site) (first : ℕ × ℕ) (all later : List (ℕ × ℕ)) (left rest bytes : List ℕ)
    (Whole : List ℕ → Outcome → Type 0) → all ≡ first ∷ later → at.pair ≡ pair → at.table ≡ n → TableJudged version table first at left (Ok rest)
    → Chained (TablesJudged version table pair n all) left Whole bytes → Chained (TablesJudged version table pair (n + 1) later) rest Whole bytes
tables_go_on version table pair n at first all later left rest bytes Whole is p t judged chain = λ outcome after.
    chain outcome (subst (λ xs. TablesJudged version table pair n xs left outcome) (sym is)
    (inr (rest, subst (λ site. TableJudged version table first site left (Ok rest)) (site at pair n p t) judged, after)))
  where
    site : (at : Site) (pair n : ℕ) → at.pair ≡ pair → at.table ≡ n → at ≡ record { pair = pair; table = n }
    site at pair n p t = λ i. record { pair = p i; table = t i }

-- a table's fault is that of the whole
pub tables_stop : (version : Version) (table : TableView) (pair n : ℕ) (at : Site) (first : ℕ × ℕ) (all later : List (ℕ × ℕ)) (left bytes : List ℕ)
    (fault : CheckError) (Whole : List ℕ → Outcome → Type 0) → all ≡ first ∷ later → at.pair ≡ pair → at.table ≡ n → (fault ≡ OutOfMemory)
    ⊎ TableJudged version table first at left (Err fault) → Chained (TablesJudged version table pair n all) left Whole bytes → (fault ≡ OutOfMemory)
    ⊎ Whole bytes (Err fault)
tables_stop version table pair n at first all later left bytes fault Whole is p t (inl memory) chain = inl memory
tables_stop version table pair n at first all later left bytes fault Whole is p t (inr judged) chain =
    inr (chain (Err fault) (subst (λ xs. TablesJudged version table pair n xs left (Err fault)) (sym is)
    (inl (fault, subst (λ site. TableJudged version table first site left (Err fault)) (site at pair n p t) judged, refl))))
  where
    site : (at : Site) (pair n : ℕ) → at.pair ≡ pair → at.table ≡ n → at ≡ record { pair = pair; table = n }
    site at pair n p t = λ i. record { pair = p i; table = t i }

-- the pairs left, with those of the next first format
pub pairs_left-cons : (n i : ℕ) → i < n → flat_map (pairs_with n) (range_with_len i (n - i)) ≡ map (λ j. (i, j)) (range_with_len (i + 1) (n - (i + 1)))
    ++ flat_map (pairs_with n) (range_with_len (i + 1) (n - (i + 1)))
pairs_left-cons n i below =
    let is : n - i ≡ suc (n - (i + 1)) = omega arith in ap (λ k. flat_map (pairs_with n) (range_with_len i k)) is

pub pairs_with-none : (n i j : ℕ) (later : List (ℕ × ℕ)) → n ≤ j → map (λ j. (i, j)) (range_with_len j (n - j)) ++ later ≡ later
pairs_with-none n i j later past =
    let is : n - j ≡ 0 = omega arith in ap (λ k. map (λ j. (i, j)) (range_with_len j k) ++ later) is

pub pairs_with-cons : (n i j : ℕ) (later : List (ℕ × ℕ)) → j < n
    → map (λ j. (i, j)) (range_with_len j (n - j)) ++ later ≡ (i, j) ∷ (map (λ j. (i, j)) (range_with_len (j + 1) (n - (j + 1))) ++ later)
pairs_with-cons n i j later below =
    let is : n - j ≡ suc (n - (j + 1)) = omega arith in ap (λ k. map (λ j. (i, j)) (range_with_len j k) ++ later) is

-- there are at most a million pairs of formats
pub few_format_pairs : (n : ℕ) → n ≤ 1000 → length (format_pairs n) ≤ 1000000
few_format_pairs n few =
    let less : n - 1 ≤ 1000 = omega arith in
    let product = mul-le-mul few less in
    let long = length-format_pairs n in omega (arith, product, long)

-- the same of pairs
pub pairs_go_on : (version : Version) (table : TableView) (n : ℕ) (first : ℕ × ℕ) (all later : List (ℕ × ℕ)) (left rest bytes : List ℕ)
    (Whole : List ℕ → Outcome → Type 0) → all ≡ first ∷ later → PairJudged version table n first left (Ok rest)
    → Chained (PairsJudged version table n all) left Whole bytes → Chained (PairsJudged version table (n + 1) later) rest Whole bytes
pairs_go_on version table n first all later left rest bytes Whole is judged chain = λ outcome after.
    chain outcome (subst (λ xs. PairsJudged version table n xs left outcome) (sym is) (inr (rest, judged, after)))

pub pairs_stop : (version : Version) (table : TableView) (n : ℕ) (first : ℕ × ℕ) (all later : List (ℕ × ℕ)) (left bytes : List ℕ) (fault : CheckError)
    (Whole : List ℕ → Outcome → Type 0) → all ≡ first ∷ later → (fault ≡ OutOfMemory) ⊎ PairJudged version table n first left (Err fault)
    → Chained (PairsJudged version table n all) left Whole bytes → (fault ≡ OutOfMemory) ⊎ Whole bytes (Err fault)
pairs_stop version table n first all later left bytes fault Whole is (inl memory) chain = inl memory
pairs_stop version table n first all later left bytes fault Whole is (inr judged) chain =
    inr (chain (Err fault) (subst (λ xs. PairsJudged version table n xs left (Err fault)) (sym is) (inl (fault, judged, refl))))

-- a list with a first element has some
pub some_ahead : (all later : List SigId) (first : SigId) → all ≡ first ∷ later → 0 < length all
some_ahead all later first is = let long : length all ≡ length (first ∷ later) = ap length is in omega arith

-- and so have the numbers of its elements
pub some_numbers : (all : List SigId) → 0 < length all → 0 < length (map (λ s. s.0) all)
some_numbers [] some = some
some_numbers (first ∷ later) some = omega arith
