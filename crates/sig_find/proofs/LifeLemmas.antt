-- The product of a signature with itself tells whether some file that it hits leaves its format.
use Rattle.std.proofs.Common.{◌≡◌, ◌⊎◌, ℕ, ◌<◌, ◌||◌, Bool, true, false, List, [], ◌∷◌, All, if◌then◌else◌, inl, inr, length, map, refl, sym, subst}
use Rattle.std.specs.List.{list_any}
use Rattle.std.proofs.lemmas.Bool.{true≢false}
use Rattle.std.proofs.lemmas.Option.{slice_get_within}
use Rattle.std.proofs.lemmas.List.Elements.{All-cons, All-contains, All-head, All-nil, All-tail}
use Rattle.sig_cert.specs.Pairs.{signatures_of}
use Rattle.sig_cert.proofs.Exports.{is_signature_of}
use Rattle.sig_core.specs.declared.results.Hit.{Hit}
use Rattle.sig_core.specs.Hits.{Left}
use Rattle.sig_table.specs.Tables.{IsTable}
use Rattle.sig_table.specs.Views.{TableView}
use Rattle.sig_find.specs.Finding.{IsOfFormat, IsPairWitness, LeavesFormats}
use Rattle.sig_find.specs.FormatPairs.{IsClosedProduct}
use Rattle.sig_find.specs.Leaving.{DecidesFormat, IsNeverLeft, IsSometimesLeft, LeavesFormat}
use Rattle.sig_find.specs.Lives.{AreAllDead, AreLives, IsDead, IsLifeOf, ShowsAlive, fate_of, format_fate, is_alive, is_unknown}
use Rattle.sig_find.specs.declared.life.Fate.TheVariants as fate
use Rattle.sig_find.specs.declared.life.Life.{Life}
use Rattle.sig_find.specs.declared.life.Life.TheVariants as life
use Rattle.sig_find.specs.declared.life.SignatureLife.{SignatureLife}
use Rattle.sig_table.specs.declared.ids.SigId.{SigId}
use Rattle.sig_find.proofs.LeavingLemmas.{hits_of_at, leaves_formats, leaves_pair}
use Rattle.sig_find.proofs.PairLaws.{closed_leaves_none, left_by}
use Rattle.sig_find.proofs.WrittenLemmas.{signatures_are_of}

-- a file that leaves a format leaves it and itself
pub leaves_twice : (table : TableView) (file : List ℕ) (format : ℕ) → LeavesFormat table file format → LeavesFormats table file format format
leaves_twice table file format leaves = record { left = leaves.left; is_left = leaves.is_left; first = leaves.is_in; second = leaves.is_in }

pub closed_is_dead : (table : TableView) (format s : ℕ) → IsTable table → IsOfFormat table format s → IsClosedProduct table (s, s) → IsDead table format s
closed_is_dead table format s is of closed file bytes hits leaves =
    closed_leaves_none table format format s s file is of of closed bytes
    (leaves_pair table file format format s s of of hits hits (leaves_twice table file format leaves))

pub witness_shows_alive : (table : TableView) (format s budget : ℕ) (file : List ℕ) (left : List Hit) → Left table file left → IsOfFormat table format s
    → IsPairWitness table s s budget file → ShowsAlive table format s budget file
witness_shows_alive table format s budget file left is of witness =
    let both = leaves_formats table file format format s s left is of of witness.leaves in
    record {
      is_file = witness.is_file;
      hits = witness.leaves.first;
      leaves = record { left = both.left; is_left = both.is_left; is_in = both.first };
      shortest = λ other bytes hits leaves. witness.shortest other bytes
          (leaves_pair table other format format s s of of hits hits (leaves_twice table other format leaves));
      few = witness.few;
    }

pub dead_signatures_leave_none : (table : TableView) (format : ℕ) → AreAllDead table format → IsNeverLeft table format
dead_signatures_leave_none table format dead file bytes leaves =
    let by = left_by table file format leaves.left leaves.is_left leaves.is_in in
    let there = is_signature_of table format by.index by.hits.signature by.hits.at by.hits.of_format in
    All-contains (IsDead table format) (signatures_of table format) by.index dead there file bytes (hits_of_at table file format by.index by.hits) leaves

-- ---- a format

found_alive : (table : TableView) (budget format s : ℕ) (found : Life) → IsLifeOf table budget format s found → is_alive (fate_of found) ≡ true
    → IsSometimesLeft table format
found_alive table budget format s (life.Alive file) shows alive = record { file = file.items; is_file = shows.is_file; leaves = shows.leaves }
found_alive table budget format s life.Dead dead alive = absurd (true≢false (sym alive))
found_alive table budget format s life.Unknown too_much alive = absurd (true≢false (sym alive))

found_dead : (table : TableView) (budget format s : ℕ) (found : Life) → IsLifeOf table budget format s found → is_alive (fate_of found) ≡ false
    → is_unknown (fate_of found) ≡ false → IsDead table format s
found_dead table budget format s (life.Alive file) shows alive unknown = absurd (true≢false alive)
found_dead table budget format s life.Dead dead alive unknown = dead
found_dead table budget format s life.Unknown too_much alive unknown = absurd (true≢false unknown)

-- the first of a list is so, or a later one is
or_cases : (b c : Bool) → (b || c) ≡ true → (b ≡ true) ⊎ (c ≡ true)
or_cases true c is = inl refl
or_cases false c is = inr is

none_first : (b c : Bool) → (b || c) ≡ false → (b ≡ false) × (c ≡ false)
none_first true c is = absurd (true≢false is)
none_first false c is = (refl, is)

some_alive : (table : TableView) (budget format : ℕ) (lives : List SignatureLife) → All (λ l. IsLifeOf table budget format l.signature.0 l.life) lives
    → list_any (λ l. is_alive (fate_of l.life)) lives ≡ true → IsSometimesLeft table format
some_alive table budget format [] each alive = absurd (true≢false (sym alive))
some_alive table budget format (l ∷ lives) each alive =
    let of : SignatureLife → Type 0 = λ l. IsLifeOf table budget format l.signature.0 l.life in
    elim (or_cases (is_alive (fate_of l.life)) (list_any (λ (l : SignatureLife). is_alive (fate_of l.life)) lives) alive) [
      | inl first ↦ found_alive table budget format l.signature.0 l.life (All-head of l lives each) first
      | inr later ↦ some_alive table budget format lives (All-tail of l lives each) later
    ]

none_alive : (table : TableView) (budget format : ℕ) (lives : List SignatureLife) → All (λ l. IsLifeOf table budget format l.signature.0 l.life) lives
    → list_any (λ l. is_alive (fate_of l.life)) lives ≡ false → list_any (λ l. is_unknown (fate_of l.life)) lives ≡ false
    → All (IsDead table format) (map (λ (s : SigId). s.0) (map (λ (l : SignatureLife). l.signature) lives))
none_alive table budget format [] each alive unknown = All-nil (IsDead table format)
none_alive table budget format (l ∷ lives) each alive unknown =
    let of : SignatureLife → Type 0 = λ l. IsLifeOf table budget format l.signature.0 l.life in
    let not_alive = none_first (is_alive (fate_of l.life)) (list_any (λ (l : SignatureLife). is_alive (fate_of l.life)) lives) alive in
    let not_unknown = none_first (is_unknown (fate_of l.life)) (list_any (λ (l : SignatureLife). is_unknown (fate_of l.life)) lives) unknown in
    All-cons (IsDead table format) l.signature.0 (map (λ (s : SigId). s.0) (map (λ (l : SignatureLife). l.signature) lives))
    (found_dead table budget format l.signature.0 l.life (All-head of l lives each) not_alive.0 not_unknown.0)
    (none_alive table budget format lives (All-tail of l lives each) not_alive.1 not_unknown.1)

-- by what is found of a format, some file leaves it, or none does
fate_decides : (table : TableView) (budget format : ℕ) (lives : List SignatureLife) (alive unknown : Bool) → AreLives table budget format lives
    → list_any (λ l. is_alive (fate_of l.life)) lives ≡ alive → list_any (λ l. is_unknown (fate_of l.life)) lives ≡ unknown
    → DecidesFormat table format (if alive then fate.Alive else if unknown then fate.Unknown else fate.Dead)
fate_decides table budget format lives true unknown are is_alive is_unknown = some_alive table budget format lives are.each is_alive
fate_decides table budget format lives false true are is_alive is_unknown = tt
fate_decides table budget format lives false false are is_alive is_unknown =
    dead_signatures_leave_none table format
    (subst (λ signatures. All (IsDead table format) (map (λ (s : SigId). s.0) signatures)) are.all
    (none_alive table budget format lives are.each is_alive is_unknown))

pub format_fate_decides : (table : TableView) (budget format : ℕ) (lives : List SignatureLife) → AreLives table budget format lives
    → DecidesFormat table format (format_fate lives)
format_fate_decides table budget format lives are = fate_decides table budget format lives _ _ are refl refl

-- each of the signatures is one of the table
all_within : (table : TableView) (format : ℕ) (lives : List SignatureLife)
    → All (λ s. IsOfFormat table format s.0) (map (λ (l : SignatureLife). l.signature) lives) → All (λ l. l.signature.0 < length table.signatures) lives
all_within table format [] are = All-nil (λ (l : SignatureLife). l.signature.0 < length table.signatures)
all_within table format (l ∷ lives) are =
    let of : SigId → Type 0 = λ s. IsOfFormat table format s.0 in
    let one = All-head of l.signature (map (λ (l : SignatureLife). l.signature) lives) are in
    All-cons (λ (l : SignatureLife). l.signature.0 < length table.signatures) l lives (slice_get_within table.signatures l.signature.0 one.0 one.1)
    (all_within table format lives (All-tail of l.signature (map (λ (l : SignatureLife). l.signature) lives) are))

pub within : (table : TableView) (budget format : ℕ) (lives : List SignatureLife) → AreLives table budget format lives
    → All (λ l. l.signature.0 < length table.signatures) lives
within table budget format lives are = all_within table format lives
    (subst (All (λ s. IsOfFormat table format s.0)) (sym are.all) (signatures_are_of table format))
