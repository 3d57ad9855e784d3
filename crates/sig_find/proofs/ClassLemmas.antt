-- How inclusions of signatures tell how two formats lie to each other.
use Rattle.std.proofs.Common.{◌≡◌, ◌⊎◌, ℕ, ◌+◌, ◌<◌, List, [], ◌∷◌, ◌++◌, All, Contains, MatchOption, None, Option, Some, false, get_or, inl, inr, is_some}
use Rattle.std.proofs.Common.{length, map, sym, ap, ◌∙◌, subst, arith, length-append}
use Rattle.std.proofs.lemmas.Bool.{cases_eq, true≢false}
use Rattle.std.proofs.lemmas.List.{get_or-map, length-map}
use Rattle.std.proofs.lemmas.List.Elements.{All-append, All-contains, All-map, All-weaker, Contains-append_left, Contains-append_right}
use Rattle.std.proofs.lemmas.Option.{slice_get_within}
use Rattle.sig_cert.specs.Pairs.{signatures_of}
use Rattle.sig_cert.proofs.Exports.{first_is_there, first_or_later, is_signature_of, later_is_there, none_is_there}
use Rattle.sig_core.specs.declared.results.Hit.{Hit}
use Rattle.sig_core.specs.Hits.{HitsAt, HitsOf, IsFirstHit, Left, formats_of}
use Rattle.sig_product.specs.Products.{IsBlocker}
use Rattle.sig_find.proofs.PlaceLemmas.{get_pushed}
use Rattle.sig_table.specs.declared.ids.SigId.{SigId}
use Rattle.sig_table.specs.Places.{places_of}
use Rattle.sig_table.specs.Views.{TableView}
use Rattle.sig_find.specs.Classes.{AreTakers, HitsFormat, IsClass, IsContained, IsContainment, IsHeld, StandsAlone, class_by, mirror_of}
use Rattle.sig_find.specs.declared.class.Containment.{Containment}
use Rattle.sig_find.specs.declared.class.Containment.TheVariants as containment
use Rattle.sig_find.specs.declared.class.PairClass.{PairClass}
use Rattle.sig_find.specs.declared.class.PairClass.TheVariants as class
use Rattle.sig_find.specs.Finding.{IsOfFormat, LeavesPair}
use Rattle.sig_find.specs.Inclusions.{IsCounterexample, IsIncluded, NoneHits}
use Rattle.sig_find.specs.Leaving.{LeavesFormat}
use Rattle.sig_find.specs.Lives.{AreLives, AreLivesBelow, IsDead, IsLifeOf, ShowsAlive}
use Rattle.sig_find.specs.declared.life.SignatureLife.{SignatureLife}
use Rattle.sig_find.proofs.LeavingLemmas.{hit_of, hits_at, hits_of_at, leaves_formats, leaves_pair}
use Rattle.sig_find.proofs.LifeLemmas.{leaves_twice}
use Rattle.sig_find.proofs.PairLaws.{left_by}
use Rattle.sig_find.proofs.RoundLemmas.{blockers_known}
use Rattle.sig_find.proofs.WrittenLemmas.{signatures_are_of}

-- ---- whether a file that leaves a format hits another is seen from its hit formats

there_or_not : (numbers : List ℕ) (n : ℕ) → Contains numbers n ⊎ ¬ Contains numbers n
there_or_not [] n = inr (none_is_there n)
there_or_not (m ∷ numbers) n = elim (cases_eq m n) [
  | inl same ↦ inl (first_is_there m numbers n same)
  | inr other ↦ elim (there_or_not numbers n) [
    | inl later ↦ inl (later_is_there m numbers n later)
    | inr none ↦ inr (λ there. elim (first_or_later m numbers n there) [ inl same ↦ other same | inr later ↦ none later ])
  ]
]

hits_or_none : (table : TableView) (file : List ℕ) (b : ℕ) (left : List Hit) → Left table file left → HitsFormat table b file ⊎ ¬ HitsFormat table b file
hits_or_none table file b left is = elim (there_or_not (formats_of is.hits) b) [
  | inl there ↦
      let found = hit_of b is.hits there in
      let hit : Hit = found.0 in
      let first : IsFirstHit table file hit = All-contains (IsFirstHit table file) is.hits hit is.all_hits.each found.1 in
      inl (hit.signature.0, subst (λ f. HitsAt table file f hit.signature.0) found.2 first.hits)
  | inr none ↦ inr (λ hits. none (is.all_hits.none_missing b hits.0 hits.1))
]

-- ---- one signature of the format a, and those that may take its files

-- no signature of a format hits a file that does not hit the format
none_of_format : (table : TableView) (b : ℕ) (file : List ℕ) → ¬ HitsFormat table b file → NoneHits table (signatures_of table b) file
none_of_format table b file none =
    All-map (λ index. ¬ HitsOf table index file) (λ (s : SigId). s.0) (places_of b 0 table.signatures)
    (All-weaker (λ (s : SigId). IsOfFormat table b s.0) (λ (s : SigId). ¬ HitsOf table s.0 file) (λ s of hits. none (s.0, hits_at table file b s.0 of hits))
    (places_of b 0 table.signatures) (signatures_are_of table b))

-- nor does one that outranks the format of a file that leaves it
none_outranks : (table : TableView) (a s : ℕ) (blockers file : List ℕ) → IsOfFormat table a s → All (IsBlocker table s s) blockers → HitsOf table s file
    → LeavesFormat table file a → NoneHits table blockers file
none_outranks table a s blockers file of each hits leaves =
    let pair : LeavesPair table s s file = leaves_pair table file a a s s of of hits hits (leaves_twice table file a leaves) in
    All-weaker (IsBlocker table s s) (λ index. ¬ HitsOf table index file) pair.unblocked blockers each

pub included_is_held : (table : TableView) (a b s : ℕ) (others takers : List ℕ) → IsOfFormat table a s → others ≡ signatures_of table b
    → AreTakers table s others takers → IsIncluded table s takers → IsHeld table a b s
included_is_held table a b s others takers of are_others are included file bytes at leaves =
    elim (hits_or_none table file b leaves.left leaves.is_left) [
      | inl hits ↦ hits
      | inr none ↦
          let hits : HitsOf table s file = hits_of_at table file a s at in
          let none_of_b : NoneHits table others file = subst (λ l. NoneHits table l file) (sym are_others) (none_of_format table b file none) in
          absurd (included file bytes hits (subst (λ l. NoneHits table l file) (sym are.joined)
          (All-append (λ index. ¬ HitsOf table index file) others are.blockers none_of_b
          (none_outranks table a s are.blockers file of are.are_all.each hits leaves))))
    ]

pub dead_is_held : (table : TableView) (a b s : ℕ) → IsDead table a s → IsHeld table a b s
dead_is_held table a b s dead file bytes at leaves = absurd (dead file bytes (hits_of_at table file a s at) leaves)

-- a file that hits none of the signatures of a format does not hit it
none_hits_format : (table : TableView) (b : ℕ) (file : List ℕ) → NoneHits table (signatures_of table b) file → ¬ HitsFormat table b file
none_hits_format table b file none hits =
    let at : HitsAt table file b hits.0 = hits.1 in
    All-contains (λ index. ¬ HitsOf table index file) (signatures_of table b) hits.0 none (is_signature_of table b hits.0 at.signature at.at at.of_format)
    (hits_of_at table file b hits.0 at)

pub counterexample_stands_alone : (table : TableView) (a b s budget : ℕ) (others takers file : List ℕ) (left : List Hit) → Left table file left
    → IsOfFormat table a s → others ≡ signatures_of table b → AreTakers table s others takers → IsCounterexample table s takers budget file
    → StandsAlone table a b
counterexample_stands_alone table a b s budget others takers file left is of are_others are counter =
    let none : (index : ℕ) → Contains takers index → ¬ HitsOf table index file =
    λ index there. All-contains (λ i. ¬ HitsOf table i file) takers index counter.none_hits there in
    let pair : LeavesPair table s s file = record {
      first = counter.hits;
      second = counter.hits;
      unblocked = λ index blocks. none index (subst (λ l. Contains l index) (sym are.joined)
          (Contains-append_right others are.blockers index (are.are_all.none_missing index blocks)));
    } in
    let both = leaves_formats table file a a s s left is of of pair in
    record {
      file = file;
      is_file = counter.is_file;
      leaves = record { left = both.left; is_left = both.is_left; is_in = both.first };
      not_hit = λ hits.
          let at : HitsAt table file b hits.0 = hits.1 in
          none hits.0 (subst (λ l. Contains l hits.0) (sym are.joined) (Contains-append_left others are.blockers hits.0
          (subst (λ l. Contains l hits.0) (sym are_others) (is_signature_of table b hits.0 at.signature at.at at.of_format))))
          (hits_of_at table file b hits.0 at);
    }

-- a file that is known of a signature of a
pub known_file_stands_alone : (table : TableView) (a b s budget : ℕ) (others file : List ℕ) → others ≡ signatures_of table b → ShowsAlive table a s budget file
    → NoneHits table others file → StandsAlone table a b
known_file_stands_alone table a b s budget others file are_others alive none = record {
  file = file;
  is_file = alive.is_file;
  leaves = alive.leaves;
  not_hit = none_hits_format table b file (subst (λ l. NoneHits table l file) are_others none);
}

-- ---- all signatures of the format a

pub all_held : (table : TableView) (a b budget : ℕ) (lives : List SignatureLife) → AreLives table budget a lives
    → All (λ l. IsHeld table a b l.signature.0) lives → IsContained table a b
all_held table a b budget lives are held file bytes leaves =
    let by = left_by table file a leaves.left leaves.is_left leaves.is_in in
    let there : Contains (signatures_of table a) by.index = is_signature_of table a by.index by.hits.signature by.hits.at by.hits.of_format in
    let of_lives : All (λ (s : SigId). IsHeld table a b s.0) (map (λ (l : SignatureLife). l.signature) lives) =
    All-map (λ (s : SigId). IsHeld table a b s.0) (λ (l : SignatureLife). l.signature) lives held in
    let each : All (IsHeld table a b) (signatures_of table a) = All-map (IsHeld table a b) (λ (s : SigId). s.0) (places_of a 0 table.signatures)
    (subst (All (λ (s : SigId). IsHeld table a b s.0)) are.all of_lives) in
    All-contains (IsHeld table a b) (signatures_of table a) by.index each there file bytes by.hits leaves

-- each of the signatures is of the format
lives_are_of : (table : TableView) (a budget : ℕ) (lives : List SignatureLife) → AreLives table budget a lives
    → All (λ (s : SigId). IsOfFormat table a s.0) (map (λ (l : SignatureLife). l.signature) lives)
lives_are_of table a budget lives are = subst (All (λ (s : SigId). IsOfFormat table a s.0)) (sym are.all) (signatures_are_of table a)

-- the signature of each of them is of the format, and what is found of it is right
pub life_at : (table : TableView) (a budget : ℕ) (lives : List SignatureLife) (k : ℕ) (own : SignatureLife) → AreLives table budget a lives → k < length lives
    → own ≡ get_or lives k own → IsOfFormat table a own.signature.0 × IsLifeOf table budget a own.signature.0 own.life
life_at table a budget lives k own are within is =
    let of_life : SignatureLife → Type 0 = λ l. IsLifeOf table budget a l.signature.0 l.life in
    let of_format : SigId → Type 0 = λ s. IsOfFormat table a s.0 in
    let long = length-map lives (λ (l : SignatureLife). l.signature) in
    let named : of_format (get_or (map (λ (l : SignatureLife). l.signature) lives) k own.signature) =
    lives_are_of table a budget lives are k own.signature (omega (arith, long)) in
    let same : get_or (map (λ (l : SignatureLife). l.signature) lives) k own.signature ≡ own.signature =
    get_or-map (λ (l : SignatureLife). l.signature) lives k own own.signature within ∙ ap (λ (l : SignatureLife). l.signature) (sym is) in
    (subst of_format same named, subst of_life (sym is) (are.each k own within))

-- the signatures of a format are signatures of the table
pub places_within : (table : TableView) (b : ℕ) (others : List SigId) → others ≡ places_of b 0 table.signatures
    → All (λ index. index < length table.signatures) (map (λ s. s.0) others)
places_within table b others are =
    All-map (λ index. index < length table.signatures) (λ (s : SigId). s.0) others
    (subst (All (λ (s : SigId). s.0 < length table.signatures)) (sym are)
    (All-weaker (λ (s : SigId). IsOfFormat table b s.0) (λ (s : SigId). s.0 < length table.signatures) (λ s of. slice_get_within table.signatures s.0 of.0 of.1)
    (places_of b 0 table.signatures) (signatures_are_of table b)))

pub places_are_signatures : (table : TableView) (b : ℕ) (others : List SigId) → others ≡ places_of b 0 table.signatures
    → map (λ s. s.0) others ≡ signatures_of table b
places_are_signatures table b others are = ap (map (λ (s : SigId). s.0)) are

-- the others and those that outrank are signatures of the table
pub takers_within : (table : TableView) (s : ℕ) (others takers : List ℕ) → AreTakers table s others takers
    → All (λ index. index < length table.signatures) others → All (λ index. index < length table.signatures) takers
takers_within table s others takers are within =
    subst (All (λ index. index < length table.signatures)) (sym are.joined)
    (All-append (λ index. index < length table.signatures) others are.blockers within (blockers_known table s s are.blockers are.are_all.each))

-- where nothing is found, what is told of nothing holds
pub none_found : {A : Type 0} (P : Type 0) (Q : A → Type 0) (found : Option A) → is_some found ≡ false → MatchOption found P Q → P
none_found P Q None none told = told
none_found P Q (Some x) none told = absurd (true≢false none)

-- ---- both directions

pub class_tells : (table : TableView) (budget a b : ℕ) (there back : Containment) → IsContainment table budget a b there → IsContainment table budget b a back
    → IsClass table budget (a, b) (class_by there back)
class_tells table budget a b containment.Contained containment.Contained there back = (there, back)
class_tells table budget a b containment.Contained containment.Alone there back = (there, back)
class_tells table budget a b containment.Contained containment.Open there back = inr back
class_tells table budget a b containment.Alone containment.Contained there back = (there, back)
class_tells table budget a b containment.Alone containment.Alone there back = (there, back)
class_tells table budget a b containment.Alone containment.Open there back = inr back
class_tells table budget a b containment.Open back_found there back = inl there

pub mirrored_class : (table : TableView) (budget a b : ℕ) (found : PairClass) → IsClass table budget (a, b) found
    → IsClass table budget (b, a) (mirror_of found)
mirrored_class table budget a b class.Over is = (is.1, is.0)
mirrored_class table budget a b class.Under is = (is.1, is.0)
mirrored_class table budget a b class.Same is = (is.1, is.0)
mirrored_class table budget a b class.Apart is = (is.1, is.0)
mirrored_class table budget a b class.Open is = elim is [ inl there ↦ inr there | inr back ↦ inl back ]

-- ---- the lives of a table

pub one_more_format : (table : TableView) (budget count : ℕ) (lives : List (List SignatureLife)) (own : List SignatureLife)
    → AreLivesBelow table budget count lives → AreLives table budget count own → AreLivesBelow table budget (count + 1) (lives ++ own ∷ [])
one_more_format table budget count lives own are is = record {
  every = length-append lives (own ∷ []) ∙ ap (λ n. n + 1) are.every;
  each = λ format found at. elim (get_pushed lives own format found at) [
    | inl before ↦ are.each format found before
    | inr last ↦ subst (AreLives table budget format) last.1 (subst (λ f. AreLives table budget f own) (sym (last.0 ∙ are.every)) is)
  ];
}
