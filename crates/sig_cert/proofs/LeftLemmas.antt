-- Two formats that are left for a file: signatures of both hit it, and no format that is hit outranks one of them.
use Rattle.std.proofs.Common.{◌≡◌, ℕ, ◌<◌, ◌≤◌, ◌&&◌, ◌||◌, Bool, true, false, not, List, [], ◌∷◌, All, AllPairs, Contains, get_or, length, nat_eq, inl, inr}
use Rattle.std.proofs.Common.{refl, sym, ap, ◌∙◌, subst, arith}
use Rattle.std.specs.List.{list_any}
use Rattle.std.proofs.lemmas.Bool.{false≢true}
use Rattle.std.proofs.lemmas.Bool.Decides.{Decides-and, Decides-eqb}
use Rattle.std.proofs.lemmas.List.{get_or-map, length-map}
use Rattle.std.proofs.lemmas.List.Elements.{All-filter, filter_passes}
use Rattle.std.proofs.lemmas.List.Folds.{list_any-from_Any}
use Rattle.std.proofs.lemmas.List.Kept.{AllPairs-filter, AllPairs-from_increasing}
use Rattle.sig_core.specs.declared.results.Hit.{Hit}
use Rattle.sig_core.specs.Hits.{HitFormats, HitsAt, IsFirstHit, Left, formats_of}
use Rattle.sig_table.specs.Views.{TableView}
use Rattle.sig_cert.proofs.MemberLemmas.{first_or_later, none_is_there}

-- no format that is hit outranks this one
abbrev pub NoneOutranks : TableView → List ℕ → ℕ → Type 0
NoneOutranks table file format = (higher place : ℕ) → HitsAt table file higher place → ¬ Contains table.priorities (higher, format)

pub record TwoLeft (table : TableView) (file : List ℕ) : Type 0 where
  pub first : ℕ
  pub second : ℕ
  pub in_order : first < second
  pub first_place : ℕ
  pub first_hits : HitsAt table file first first_place
  pub first_stays : NoneOutranks table file first
  pub second_place : ℕ
  pub second_hits : HitsAt table file second second_place
  pub second_stays : NoneOutranks table file second

-- ---- what is kept

-- whether the first format outranks the second by a listed pair
abbrev is_listed : TableView → ℕ → ℕ → Bool
is_listed table higher lower = list_any (λ pair. nat_eq pair.0 higher && nat_eq pair.1 lower) table.priorities

-- a listed pair is found
listed_is_found : (table : TableView) (higher lower : ℕ) → Contains table.priorities (higher, lower) → is_listed table higher lower ≡ true
listed_is_found table higher lower w =
    let both : ℕ × ℕ = (higher, lower) in
    list_any-from_Any (λ pair. nat_eq pair.0 higher && nat_eq pair.1 lower) table.priorities
    (w.0, both, w.1, w.2, (Decides-and (nat_eq higher higher) (nat_eq lower lower) (Decides-eqb higher higher) (Decides-eqb lower lower)).1 (refl, refl))

or_right : (a b : Bool) → b ≡ true → (a || b) ≡ true
or_right true b h = refl
or_right false b h = h

found_later : (table : TableView) (h : Hit) (hits : List Hit) (lower : ℕ) → list_any (λ other. is_listed table other.format.0 lower) hits ≡ true
    → list_any (λ other. is_listed table other.format.0 lower) (h ∷ hits) ≡ true
found_later table h hits lower is = or_right (is_listed table h.format.0 lower) (list_any (λ other. is_listed table other.format.0 lower) hits) is

-- so is a hit that outranks
found_above : (table : TableView) (hits : List Hit) (higher lower : ℕ) → Contains (formats_of hits) higher → is_listed table higher lower ≡ true
    → list_any (λ other. is_listed table other.format.0 lower) hits ≡ true
found_above table [] higher lower c is = absurd (none_is_there higher c)
found_above table (h ∷ hits) higher lower c is = elim (first_or_later h.format.0 (formats_of hits) higher c) [
  | inl same ↦ rw (subst (λ format. is_listed table format lower ≡ true) (sym same) is) refl
  | inr later ↦ found_later table h hits lower (found_above table hits higher lower later is)
]

-- whether this hit is kept
abbrev is_kept : TableView → List Hit → Hit → Bool
is_kept table hits hit = not (list_any (λ other. is_listed table other.format.0 hit.format.0) hits)

kept_stays : (table : TableView) (file : List ℕ) (hits : List Hit) (hit : Hit) → HitFormats table file hits → is_kept table hits hit ≡ true
    → NoneOutranks table file hit.format.0
kept_stays table file hits hit all kept higher place there listed =
    let above : list_any (λ other. is_listed table other.format.0 hit.format.0) hits ≡ true =
    found_above table hits higher hit.format.0 (all.none_missing higher place there) (listed_is_found table higher hit.format.0 listed) in
    false≢true (sym (ap not above) ∙ kept)

-- the formats of hits rise
hits_rise : (hits : List Hit) → AllPairs (λ a b. a < b) (formats_of hits) → AllPairs (λ (a b : Hit). a.format.0 < b.format.0) hits
hits_rise hits rise i j d before within =
    let format : Hit → ℕ = λ h. h.format.0 in
    let one : get_or (formats_of hits) i 0 ≡ format (get_or hits i d) = get_or-map format hits i d 0 (omega arith) in
    let other : get_or (formats_of hits) j 0 ≡ format (get_or hits j d) = get_or-map format hits j d 0 within in
    let order : get_or (formats_of hits) i 0 < get_or (formats_of hits) j 0 = rise i j 0 before (omega (arith, length-map hits format)) in
    omega arith

pub two_of : (table : TableView) (file : List ℕ) (left : List Hit) → Left table file left → 2 ≤ length left → TwoLeft table file
two_of table file [] is two = absurd (omega arith)
two_of table file (a ∷ []) is two = absurd (omega arith)
two_of table file (a ∷ (b ∷ more)) is two =
    let rise = AllPairs-filter (λ (x y : Hit). x.format.0 < y.format.0) (is_kept table is.hits) is.hits
    (hits_rise is.hits (AllPairs-from_increasing (formats_of is.hits) is.all_hits.in_order)) in
    let each : All (IsFirstHit table file) (a ∷ (b ∷ more)) = subst (All (IsFirstHit table file)) (sym is.kept)
    (All-filter (is_kept table is.hits) (IsFirstHit table file) is.hits is.all_hits.each) in
    let kept : All (λ hit. is_kept table is.hits hit ≡ true) (a ∷ (b ∷ more)) =
    subst (All (λ hit. is_kept table is.hits hit ≡ true)) (sym is.kept) (filter_passes (is_kept table is.hits) is.hits) in
    let order : AllPairs (λ (x y : Hit). x.format.0 < y.format.0) (a ∷ (b ∷ more)) =
    subst (AllPairs (λ (x y : Hit). x.format.0 < y.format.0)) (sym is.kept) rise in
    record {
      first = a.format.0;
      second = b.format.0;
      in_order = order 0 1 a (omega arith) (omega arith);
      first_place = a.signature.0;
      first_hits = (each 0 a (omega arith)).hits;
      first_stays = kept_stays table file is.hits a is.all_hits (kept 0 a (omega arith));
      second_place = b.signature.0;
      second_hits = (each 1 a (omega arith)).hits;
      second_stays = kept_stays table file is.hits b is.all_hits (kept 1 a (omega arith));
    }
