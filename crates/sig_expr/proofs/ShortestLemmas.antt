-- Canonical texts spell their expressions, and none is longer than another spelling.
use Rattle.std.proofs.Common.{◌≡◌, inl, inr, ℕ, ◌≤◌, Bool, true, false, cond, List, [], ◌∷◌, ◌++◌, length, decimal, Option, Some, None, Ok, refl, rules, arith}
use Rattle.std.proofs.Common.{nat_eq, length-append}
use Rattle.std.proofs.lemmas.Bool.Decides.{nat_tests}
use Rattle.hex.specs.Hex.{encode_upper, encode_with}
use Rattle.sig_expr.specs.declared.item.Item.{Item}
use Rattle.sig_expr.specs.declared.item.Item.TheVariants as item
use Rattle.sig_expr.specs.declared.item.Atom.{Atom}
use Rattle.sig_expr.specs.declared.item.Atom.TheVariants as atom
use Rattle.sig_expr.specs.Canon.{count_text, from_text, between_text, gap_text, range_text, not_text, atom_text, alternative_text, alternatives_text, item_text}
use Rattle.sig_expr.specs.Canon.{canon}
use Rattle.sig_expr.specs.Spelling.{NumberText, PairText, WordText, GapText, RangeText, NotText, AtomText, AlternativeText, AlternativesText, ListText}
use Rattle.sig_expr.specs.Spelling.{ItemText, Spells}
use Rattle.sig_expr.specs.Profile.{GapSound, IsEnd, RangeSound, AtomSound, AtomsSound, AlternativesSound, ItemSound, ItemsSound, InProfile, IsExpression}
use Rattle.sig_expr.specs.Texts.{expr_of}
use Rattle.sig_expr.proofs.PairLemmas.{pair_small, pair_spells, word_spells}
use Rattle.sig_expr.proofs.ProfileLemmas.{read_text}
use Rattle.sig_expr.proofs.UniqueLemmas.{spells_one}

pair_shortest : (b : ℕ) (t : List ℕ) → PairText b t → PairText b (encode_upper (b ∷ [])) × (length (encode_upper (b ∷ [])) ≤ length t)
unfolding encode_with
pair_shortest b t h = (pair_spells b (pair_small b t h), rw h.text (omega arith))

word_shortest : (a t : List ℕ) → WordText a t → WordText a (encode_upper a) × (length (encode_upper a) ≤ length t)
unfolding encode_with
word_shortest [] t h = (refl, omega arith)
word_shortest (b ∷ a) t h =
    let first = pair_shortest b h.0 h.3 in
    let rest = word_shortest a h.1 h.4 in
    ((encode_upper (b ∷ []), encode_upper a, refl, first.0, rest.0), rw h.2 (simp length-append (omega (arith, first.1, rest.1))))

gap_if : (least : ℕ) (max : Option ℕ) (t : List ℕ) (b : Bool) (x y : List ℕ) → (b ≡ true → GapText least max x × (length x ≤ length t))
    → (b ≡ false → GapText least max y × (length y ≤ length t)) → GapText least max (cond b x y) × (length (cond b x y) ≤ length t)
gap_if least max t true x y f g = f refl
gap_if least max t false x y f g = g refl

is_zero : (n k : ℕ) → nat_eq n k ≡ true → n ≡ k
is_zero n k e = search rules

gap_shortest : (least : ℕ) (max : Option ℕ) (t : List ℕ) → GapText least max t → GapText least max (gap_text least max)
    × (length (gap_text least max) ≤ length t)
unfolding count_text from_text between_text
gap_shortest least None t (inl h) = gap_if least None t (nat_eq least 0) _ _ (λ e. (inl (refl, h.1), rw h.0 (omega arith)))
    (λ e. let same = h.1 in absurd (grind (arith, nat_tests, e, same)))
gap_shortest least None t (inr h) =
    gap_if least None t (nat_eq least 0) _ _ (λ e. (inl (refl, is_zero least 0 e), rw h.1 (omega arith)))
    (λ e. (inr (decimal least, refl, record { digits = refl; few = h.2.few }), rw (h.1, h.2.digits) (omega arith)))
gap_shortest least (Some max) t (inl h) =
    gap_if least (Some max) t (nat_eq least max) _ _ (λ e. (
      inl (decimal max, refl, record { digits = refl; few = h.2.few }, h.3),
      rw (h.1, h.2.digits) (omega arith),
    ))
    (λ e. let same = h.3 in absurd (grind (arith, nat_tests, e, same)))
gap_shortest least (Some max) t (inr h) =
    gap_if least (Some max) t (nat_eq least max) _ _ (λ e. (
      inl (decimal max, refl, record { digits = refl; few = h.4.few }, is_zero least max e),
      rw (h.2, h.3.digits, h.4.digits) (omega (
        arith,
        length-append (decimal max) (125 ∷ []),
        length-append (decimal least) (45 ∷ (decimal max ++ (125 ∷ []))),
      )),
    ))
    (λ e. (
      inr (decimal least, decimal max, refl, record { digits = refl; few = h.3.few }, record { digits = refl; few = h.4.few }),
      rw (h.2, h.3.digits, h.4.digits) (omega arith),
    ))

range_shortest : (o a b t : List ℕ) → RangeText o a b t → RangeText o a b (range_text o a b) × (length (range_text o a b) ≤ length t)
unfolding range_text
range_shortest o a b t h =
    let first = word_shortest a h.first h.is_first in
    let second = word_shortest b h.second h.is_second in (
      record {
        first = encode_upper a;
        second = encode_upper b;
        text = refl;
        is_first = first.0;
        is_second = second.0;
        some_first = h.some_first;
        some_second =
            h.some_second;
      },
      rw h.text (simp length-append (omega (arith, first.1, second.1))),
    )

not_shortest : (a t : List ℕ) → NotText a t → NotText a (not_text a) × (length (not_text a) ≤ length t)
unfolding not_text
not_shortest a t h =
    let end = word_shortest a h.end h.is_end in
    (record { end = encode_upper a; text = refl; is_end = end.0; some = h.some }, rw h.text (simp length-append (omega (arith, end.1))))

atom_shortest : (p : Atom) (t : List ℕ) → AtomText p t → AtomText p (atom_text p) × (length (atom_text p) ≤ length t)
atom_shortest (atom.Byte b) t h = pair_shortest b t h
atom_shortest (atom.Range a b) t h = range_shortest (91 ∷ []) a b t h
atom_shortest (atom.Not a) t h = not_shortest a t h
atom_shortest (atom.NotRange a b) t h = range_shortest (91 ∷ 33 ∷ []) a b t h

alternative_shortest : (ps : List Atom) (t : List ℕ) → AlternativeText ps t → AlternativeText ps (alternative_text ps)
    × (length (alternative_text ps) ≤ length t)
unfolding alternative_text
alternative_shortest [] t h = (refl, omega arith)
alternative_shortest (p ∷ ps) t h =
    let first = atom_shortest p h.0 h.3 in
    let rest = alternative_shortest ps h.1 h.4 in
    ((atom_text p, alternative_text ps, refl, first.0, rest.0), rw h.2 (simp length-append (omega (arith, first.1, rest.1))))

alternatives_shortest : (s : List ℕ) (as' : List (List Atom)) (t : List ℕ) → AlternativesText s as' t → AlternativesText s as' (alternatives_text s as')
    × (length (alternatives_text s as') ≤ length t)
unfolding alternatives_text
alternatives_shortest s [] t h = (refl, omega arith)
alternatives_shortest s (a ∷ as') t h =
    let first = alternative_shortest a h.0 h.4 in
    let rest = alternatives_shortest (124 ∷ []) as' h.1 h.5 in
    ((alternative_text a, alternatives_text (124 ∷ []) as', refl, h.3, first.0, rest.0), rw h.2 (simp length-append (omega (arith, first.1, rest.1))))

list_shortest : (as' : List (List Atom)) (t : List ℕ) → ListText as' t → ListText as' (alternatives_text (40 ∷ []) as' ++ 41 ∷ [])
    × (length (alternatives_text (40 ∷ []) as' ++ 41 ∷ []) ≤ length t)
list_shortest as' t h =
    let inside = alternatives_shortest (40 ∷ []) as' h.inside h.is_inside in (
      record { inside = alternatives_text (40 ∷ []) as'; text = refl; is_inside = inside.0; two = h.two },
      rw h.text (simp length-append (omega (arith, inside.1))),
    )

item_shortest : (i : Item) (t : List ℕ) → ItemText i t → ItemText i (item_text i) × (length (item_text i) ≤ length t)
item_shortest (item.Byte b) t h = pair_shortest b t h
item_shortest item.Any t h = (refl, rw h (omega arith))
item_shortest (item.Gap least max) t h = gap_shortest least max t h
item_shortest (item.Alt as') t h = list_shortest as' t h
item_shortest (item.Range a b) t h = range_shortest (91 ∷ []) a b t h
item_shortest (item.Not a) t h = not_shortest a t h
item_shortest (item.NotRange a b) t h = range_shortest (91 ∷ 33 ∷ []) a b t h

-- the canonical text spells the items, and is no longer than another text that does
pub canon_shortest : (e : List Item) (t : List ℕ) → Spells e t → Spells e (canon e) × (length (canon e) ≤ length t)
unfolding canon
canon_shortest [] t h = (refl, omega arith)
canon_shortest (i ∷ e) t h =
    let first = item_shortest i h.0 h.3 in
    let rest = canon_shortest e h.1 h.4 in
    ((item_text i, canon e, refl, first.0, rest.0), rw h.2 (simp length-append (omega (arith, first.1, rest.1))))

-- an expression's canonical text spells it

gap_by : (least : ℕ) (max : Option ℕ) (b : Bool) (x y : List ℕ) → (b ≡ true → GapText least max x) → (b ≡ false → GapText least max y)
    → GapText least max (cond b x y)
gap_by least max true x y f g = f refl
gap_by least max false x y f g = g refl

number_spells : (n : ℕ) → n ≤ 65535 → NumberText n (decimal n)
number_spells n h = record { digits = refl; few = omega arith }

gap_spells : (least : ℕ) (max : Option ℕ) → GapSound least max → GapText least max (gap_text least max)
unfolding count_text from_text between_text
gap_spells least None h = gap_by least None (nat_eq least 0) _ _ (λ e. inl (refl, is_zero least 0 e)) (λ e. inr (decimal least, refl, number_spells least h))
gap_spells least (Some max) h =
    gap_by least (Some max) (nat_eq least max) _ _ (λ e. inl (decimal max, refl, number_spells max h.1, is_zero least max e))
    (λ e. inr (decimal least, decimal max, refl, number_spells least (omega (arith, h.0, h.1)), number_spells max h.1))

range_spells : (o a b : List ℕ) → RangeSound a b → RangeText o a b (range_text o a b)
unfolding range_text
range_spells o a b h = record {
  first = encode_upper a;
  second = encode_upper b;
  text = refl;
  is_first = word_spells a h.first.bytes;
  is_second = word_spells b h.second.bytes;
  some_first = h.first.some;
  some_second = h.second.some;
}

not_spells : (a : List ℕ) → IsEnd a → NotText a (not_text a)
unfolding not_text
not_spells a h = record { end = encode_upper a; text = refl; is_end = word_spells a h.bytes; some = h.some }

atom_spells : (p : Atom) → AtomSound p → AtomText p (atom_text p)
atom_spells (atom.Byte b) h = pair_spells b h
atom_spells (atom.Range a b) h = range_spells (91 ∷ []) a b h
atom_spells (atom.Not a) h = not_spells a h
atom_spells (atom.NotRange a b) h = range_spells (91 ∷ 33 ∷ []) a b h.0

alternative_spells : (ps : List Atom) → AtomsSound ps → AlternativeText ps (alternative_text ps)
unfolding alternative_text
alternative_spells [] h = refl
alternative_spells (p ∷ ps) h = (atom_text p, alternative_text ps, refl, atom_spells p h.0, alternative_spells ps h.1)

alternatives_spell : (s : List ℕ) (as' : List (List Atom)) → AlternativesSound as' → AlternativesText s as' (alternatives_text s as')
unfolding alternatives_text
alternatives_spell s [] h = refl
alternatives_spell s (a ∷ as') h = (
  alternative_text a,
  alternatives_text (124 ∷ []) as',
  refl,
  h.2,
  alternative_spells a h.0,
  alternatives_spell (124 ∷ []) as' h.1,
)

item_spells : (i : Item) → ItemSound i → ItemText i (item_text i)
item_spells (item.Byte b) h = pair_spells b h
item_spells item.Any h = refl
item_spells (item.Gap least max) h = gap_spells least max h
item_spells (item.Alt as') h = record { inside = alternatives_text (40 ∷ []) as'; text = refl; is_inside = alternatives_spell (40 ∷ []) as' h.0; two = h.1 }
item_spells (item.Range a b) h = range_spells (91 ∷ []) a b h
item_spells (item.Not a) h = not_spells a h
item_spells (item.NotRange a b) h = range_spells (91 ∷ 33 ∷ []) a b h.0

-- the canonical text of items with no fault spells them
pub canon_spells : (e : List Item) → ItemsSound e → Spells e (canon e)
unfolding canon
canon_spells [] h = refl
canon_spells (i ∷ e) h = (item_text i, canon e, refl, item_spells i h.0, canon_spells e h.1)

-- the canonical text of an expression is in the profile, and is read as the expression
pub canon_in_profile : (e : List Item) → IsExpression e → InProfile (canon e)
canon_in_profile e h = record { items = e; some = h.some; short = h.short; spells = canon_spells e h.sound; sound = h.sound }

pub expression_read : (e : List Item) → IsExpression e → expr_of (canon e) ≡ Ok e
expression_read e h = read_text e (canon e) (canon_in_profile e h) (canon_spells e h.sound)

-- what a text of the profile spells is an expression
pub is_expression : (e : List Item) (t : List ℕ) → InProfile t → Spells e t → IsExpression e
is_expression e t p h =
    let same = spells_one e p.items t h p.spells in
    let short = canon_shortest e t h in
    record { some = rw same p.some; sound = rw same p.sound; short = omega (arith, short.1, p.short) }

-- canonical texts of different expressions differ
pub canon_differs : (e e' : List Item) → IsExpression e → IsExpression e' → canon e ≡ canon e' → e ≡ e'
canon_differs e e' h h' same = spells_one e e' (canon e) (canon_spells e h.sound) (rw same (canon_spells e' h'.sound))
