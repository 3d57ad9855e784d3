-- Where required literals stand: behind the beginning of each word, and so far from each other offset.
use Rattle.sig_scan.proofs.Common.{◌≡◌, ◌⊎◌, ℕ, zero, suc, ◌+◌, ◌-◌, ◌≤◌, ◌<◌, true, eqb, eq-eqb, List, [], ◌∷◌, ◌++◌, length, get_or, take, drop, min, ap, ap₂}
use Rattle.sig_scan.proofs.Common.{◌∙◌, sym, subst, refl, arith, length-append, inl, inr, Option, Some, None, slice_range, set, cases_lt, or_left, or_right}
use Rattle.sig_scan.proofs.Common.{append-nil, get_or-drop, get_or-take, take-append-drop, take-take, take_at, take_more, FindsNeedle, IsFirst, Nowhere}
use Rattle.sig_scan.proofs.Common.{OccursAt, Passes, is_byte2, Item, Lang, Word, HasLength, AreFixed, BeginsWith, Fits, IsEitherOf, IsLiteralOf, LiteralView}
use Rattle.sig_scan.proofs.Common.{StandsAt, byte_of, Lies, IsFirstOf, not}
use Rattle.memchr.proofs.lemmas.MatchLemmas.{OccursAt-from_part}
use Rattle.sig_scan.proofs.LiesLemmas.{Lies-split, length-slice_range}

-- a text with one of the two bytes at each place
abbrev IsTextOf : List ℕ → List ℕ → List ℕ → Type 0
IsTextOf text other run =
    (length run ≡ length text) × ((k : ℕ) → k < length text → (get_or run k 0 ≡ get_or text k 0) ⊎ (get_or run k 0 ≡ get_or other k 0))

fits-more : (a b x : ℕ) (text other run : List ℕ) → (x ≡ a) ⊎ (x ≡ b) → IsTextOf text other run → (k : ℕ) → k < length (a ∷ text)
    → (get_or (x ∷ run) k 0 ≡ get_or (a ∷ text) k 0) ⊎ (get_or (x ∷ run) k 0 ≡ get_or (b ∷ other) k 0)
fits-more a b x text other run first is zero low = first
fits-more a b x text other run first is (suc k) low = is.1 k (omega arith)

-- each word of items that begin with a run begins with one of its texts
run_front : (text other : List ℕ) (items : List Item) (w : List ℕ) → BeginsWith items text other → Lang items w
    → (run v : List ℕ) × (w ≡ run ++ v) × IsTextOf text other run
run_front [] other items w begins is = ([], w, refl, (refl, λ k low. absurd (omega arith)))
run_front (a ∷ text) [] items w begins is = absurd begins
run_front (a ∷ text) (b ∷ other) [] w begins is = absurd begins
run_front (a ∷ text) (b ∷ other) (i ∷ items) w begins (u, v, cut, word, later) =
    let first : (x : ℕ) × (u ≡ x ∷ []) × ((x ≡ a) ⊎ (x ≡ b)) = elim (begins.0 u word) [ inl is ↦ (a, is, inl refl) | inr is ↦ (b, is, inr refl) ] in
    let x : ℕ = first.0 in
    let rest = run_front text other items v begins.1 later in
    let run : List ℕ = rest.0 in
    let len = rest.3.0 in (
      x ∷ run,
      rest.1,
      cut ∙ ap₂ (λ (a c : List ℕ). a ++ c) first.1 rest.2,
      (omega arith, fits-more a b x text other run first.2 rest.3),
    )

-- the bytes of an item more
begins_more : (items : List Item) (text other : List ℕ) (k a b : ℕ) (x : Item) → k < length items → k < length text → k < length other
    → x ≡ get_or items k x → IsEitherOf x a b → BeginsWith items (take k text) (take k other)
    → BeginsWith items (take (suc k) (set text k a)) (take (suc k) (set other k b))
begins_more [] text other k a b x in_items in_text in_other is either begins = absurd (omega arith)
begins_more (i ∷ items) [] other k a b x in_items in_text in_other is either begins = absurd (omega arith)
begins_more (i ∷ items) (t ∷ text) [] k a b x in_items in_text in_other is either begins = absurd (omega arith)
begins_more (i ∷ items) (t ∷ text) (u ∷ other) zero a b x in_items in_text in_other is either begins =
    (subst (λ (y : Item). IsEitherOf y a b) is either, tt)
begins_more (i ∷ items) (t ∷ text) (u ∷ other) (suc k) a b x in_items in_text in_other is either begins =
    (begins.0, begins_more items text other k a b x (omega arith) (omega arith) (omega arith) is either begins.1)

pub BeginsWith-more : (items : List Item) (text other : List ℕ) (k a b : ℕ) (x : Item) → k < length items → k < length text → k < length other
    → x ≡ get_or items k x → IsEitherOf x a b → BeginsWith items (take k text) (take k other)
    → BeginsWith items (take (k + 1) (set text k a)) (take (k + 1) (set other k b))
BeginsWith-more items text other k a b x in_items in_text in_other is either begins =
    let next : suc k ≡ k + 1 = omega arith in
    subst (λ n. BeginsWith items (take n (set text k a)) (take n (set other k b))) next
    (begins_more items text other k a b x in_items in_text in_other is either begins)

-- no items have no bytes
pub AreFixed-none : (items : List Item) → AreFixed (take 0 items) 0
AreFixed-none items = record {
  long = λ file start end l.
      let order = l.in_order in
      let len = length-slice_range file start end order l.within in
      let none = ap length l.is_word in
      omega arith;
}

-- an item more
pub AreFixed-next : (items : List Item) (i at next : ℕ) (x : Item) → i < length items → x ≡ get_or items i x → at ≤ next
    → HasLength (Word x) (next - at) → AreFixed (take i items) at → AreFixed (take (i + 1) items) next
AreFixed-next items i at next x within is order long fixed = record {
  long = λ file start end l.
      let taken : take (i + 1) items ≡ take i items ++ x ∷ [] = take_more items i x within ∙ ap (λ (y : Item). take i items ++ y ∷ []) (sym is) in
      let cut = Lies-split (take i items) (x ∷ []) file start end (subst (λ (xs : List Item). Lies xs file start end) taken l) in
      let m : ℕ = cut.0 in
      let here = fixed.long file start m cut.1 in
      let last = cut.2 in
      let upright = last.in_order in
      let len = length-slice_range file m end upright last.within in
      let word = last.is_word in
      let one : length (slice_range file m end) ≡ length word.0 = ap length (word.2 ∙ ap (λ (v : List ℕ). word.0 ++ v) word.4 ∙ append-nil word.0) in
      let size = long word.0 word.3 in
      omega arith;
}

-- bytes behind items of one length stand behind the beginning of each word
pub IsLiteralOf-behind : (items : List Item) (i at : ℕ) (literal : LiteralView) → literal.at ≡ at → AreFixed (take i items) at
    → BeginsWith (drop i items) literal.text literal.other → IsLiteralOf items literal
IsLiteralOf-behind items i at literal at_is fixed begins =
    record {
      stands = λ file start end l.
          let cut = Lies-split (take i items) (drop i items) file start end
          (subst (λ (xs : List Item). Lies xs file start end) (sym (take-append-drop i items)) l) in
          let m : ℕ = cut.0 in
          let place = fixed.long file start m cut.1 in
          let here : m ≡ start + literal.at = omega arith in
          let rest = cut.2 in
          let order = rest.in_order in
          let within = rest.within in
          let front = run_front literal.text literal.other (drop i items) (slice_range file m end) begins rest.is_word in
          let run : List ℕ = front.0 in
          let len = length-slice_range file m end order within in
          let size = ap length front.2 ∙ length-append run front.1 in
          let few : length run ≤ end - m = omega arith in
          let same : take (length run) (drop m file) ≡ run =
          sym (take-take (length run) (end - m) (drop m file) few) ∙ ap (take (length run)) front.2 ∙ take_at run front.1 (length run) refl in
          let occurs = OccursAt-from_part file run m (omega arith) same in
          let count = front.3.0 in
          subst (StandsAt literal file) here (record {
            within = omega arith;
            fits = λ k low. subst (Fits literal k) (sym (occurs.reads k (omega arith))) (front.3.1 k low);
          });
    }

-- the bytes of a part of a file
get_or-slice_range : (file : List ℕ) (a e k : ℕ) → k < e - a → get_or (slice_range file a e) k 0 ≡ get_or file (a + k) 0
get_or-slice_range file a e k h = get_or-take (e - a) (drop a file) k 0 h ∙ get_or-drop a file k 0

-- what occurs in a part of a file occurs in the file
OccursAt-in_file : (file run : List ℕ) (a e n : ℕ) → a ≤ e → e ≤ length file → OccursAt (slice_range file a e) run n → OccursAt file run (a + n)
OccursAt-in_file file run a e n order within occurs =
    let len : length (slice_range file a e) ≡ e - a = length-slice_range file a e order within in
    let fits = occurs.fits in
    record {
      fits = omega arith;
      reads = λ j below.
          let there : (a + n) + j ≡ a + (n + j) = omega arith in
          ap (λ k. get_or file k 0) there ∙ sym (get_or-slice_range file a e (n + j) (omega arith)) ∙ occurs.reads j below;
    }

-- the converse
OccursAt-in_part : (file run : List ℕ) (a e k : ℕ) → a ≤ k → k + length run ≤ e → e ≤ length file → OccursAt file run k
    → OccursAt (slice_range file a e) run (k - a)
OccursAt-in_part file run a e k low high within occurs =
    let len : length (slice_range file a e) ≡ e - a = length-slice_range file a e (omega arith) within in
    record {
      fits = omega arith;
      reads = λ j below.
          let there : a + ((k - a) + j) ≡ k + j = omega arith in
          get_or-slice_range file a e ((k - a) + j) (omega arith) ∙ ap (λ i. get_or file i 0) there ∙ occurs.reads j below;
    }

-- nothing found in a part of a file, whose end cuts off no occurrence, is nowhere before
pub IsFirst-none : (file run : List ℕ) (a e to : ℕ) → a ≤ e → e ≤ length file
    → ((k : ℕ) → k ≤ to → k + length run ≤ length file → k + length run ≤ e) → FindsNeedle (slice_range file a e) run 0 None
    → IsFirst (OccursAt file run) a (to + 1) None
IsFirst-none file run a e to order within room none = λ k low high occurs.
    let fits = occurs.fits in
    let here : k + length run ≤ e = room k (omega arith) fits in
    let len : length (slice_range file a e) ≡ e - a = length-slice_range file a e order within in
    none (k - a) (omega arith) (omega arith) (OccursAt-in_part file run a e k low here within occurs)

-- the first that is found there is the first
pub IsFirst-some : (file run : List ℕ) (a e to n : ℕ) → a ≤ e → e ≤ length file → e ≤ to + length run
    → ((k : ℕ) → k ≤ to → k + length run ≤ length file → k + length run ≤ e) → FindsNeedle (slice_range file a e) run 0 (Some n)
    → IsFirst (OccursAt file run) a (to + 1) (Some (a + n))
IsFirst-some file run a e to n order within end room found =
    let len : length (slice_range file a e) ≡ e - a = length-slice_range file a e order within in
    let fits = found.1.fits in (
      record {
        low = omega arith;
        high = omega arith;
        before = λ k low high occurs. (
            let in_file = occurs.fits in
            let here : k + length run ≤ e = room k (omega arith) in_file in
            found.0.before (k - a) (omega arith) (omega arith) (OccursAt-in_part file run a e k low here within occurs)
            );
      },
      OccursAt-in_file file run a e n order within found.1,
    )

-- the same of two facts, of which each says the other
pub IsFirst-same : (P Q : ℕ → Type 0) (i j : ℕ) (r : Option ℕ) → ((k : ℕ) → P k → Q k) → ((k : ℕ) → Q k → P k) → IsFirst P i j r → IsFirst Q i j r
IsFirst-same P Q i j None on back none = λ k low high q. none k low high (back k q)
IsFirst-same P Q i j (Some k) on back found = (
  record { low = found.0.low; high = found.0.high; before = λ x low high q. found.0.before x low high (back x q) },
  on k found.1,
)

-- a literal of whole bytes
pub StandsAt-occurs : (literal : LiteralView) (bytes : List ℕ) (k : ℕ) → literal.text ≡ literal.other → OccursAt bytes literal.text k
    → StandsAt literal bytes k
StandsAt-occurs literal bytes k whole occurs = record { within = occurs.fits; fits = λ j low. inl (occurs.reads j low) }

pub OccursAt-stands : (literal : LiteralView) (bytes : List ℕ) (k : ℕ) → literal.text ≡ literal.other → StandsAt literal bytes k
    → OccursAt bytes literal.text k
OccursAt-stands literal bytes k whole stands = record {
  fits = stands.within;
  reads = λ j low. elim (stands.fits j low) [ inl is ↦ is | inr is ↦ is ∙ ap (λ (l : List ℕ). get_or l j 0) (sym whole) ];
}

-- and one that is not has bytes
pub not_whole : (text other : List ℕ) → length other ≡ length text → ¬ (text ≡ other) → 0 < length text
not_whole [] [] len differ = absurd (differ refl)
not_whole [] (b ∷ other) len differ = absurd (omega arith)
not_whole (a ∷ text) other len differ = omega arith

-- where a literal stands, a search for the bytes of one of its places meets them
StandsAt-passes : (literal : LiteralView) (bytes : List ℕ) (k a b end p x : ℕ) → k < length literal.text → a ≡ byte_of literal k 0 → b ≡ byte_of literal k 1
    → p ≤ x → x + k < end → StandsAt literal bytes x → Passes (is_byte2 a b) (slice_range bytes (p + k) end) (x - p)
StandsAt-passes literal bytes k a b end p x inside a_is b_is order within stands =
    let there : p + k + (x - p) ≡ x + k = omega arith in
    let value : get_or (slice_range bytes (p + k) end) (x - p) 0 ≡ get_or bytes (x + k) 0 =
    get_or-slice_range bytes (p + k) end (x - p) (omega arith) ∙ ap (λ n. get_or bytes n 0) there in
    let byte : ℕ = get_or bytes (x + k) 0 in
    subst (λ v. is_byte2 a b v ≡ true) (sym value)
    (elim (stands.fits k inside) [
      | inl is ↦ or_left (eqb byte a) (eqb byte b) (eq-eqb byte a (is ∙ sym a_is))
      | inr is ↦ or_right (eqb byte a) (eqb byte b) (eq-eqb byte b (is ∙ sym b_is))
    ])

-- so it stands nowhere before what is found
pub Nowhere-passed : (literal : LiteralView) (bytes : List ℕ) (k a b end from p n : ℕ) → k < length literal.text → a ≡ byte_of literal k 0
    → b ≡ byte_of literal k 1 → Nowhere (Passes (is_byte2 a b) (slice_range bytes (p + k) end)) 0 n → p + n + k ≤ end
    → Nowhere (StandsAt literal bytes) from p → Nowhere (StandsAt literal bytes) from (p + n)
Nowhere-passed literal bytes k a b end from p n inside a_is b_is none within before x low high stands =
    elim (cases_lt x p) [
      | inl past ↦ before x low past stands
      | inr on ↦ none (x - p) (omega arith) (omega arith) (StandsAt-passes literal bytes k a b end p x inside a_is b_is on (omega arith) stands)
    ]

-- nor there, where it does not
pub Nowhere-next : (literal : LiteralView) (bytes : List ℕ) (from p : ℕ) → ¬ StandsAt literal bytes p → Nowhere (StandsAt literal bytes) from p
    → Nowhere (StandsAt literal bytes) from (p + 1)
Nowhere-next literal bytes from p not before x low high stands =
    elim (cases_lt x p) [
      | inl past ↦ before x low past stands
      | inr on ↦ (let same : x ≡ p = omega arith in not (subst (StandsAt literal bytes) same stands))
    ]

-- nor up to the last place, where nothing is found up to the last byte that it can have there
pub Nowhere-end : (literal : LiteralView) (bytes : List ℕ) (k a b end from p n last : ℕ) → k < length literal.text → a ≡ byte_of literal k 0
    → b ≡ byte_of literal k 1 → end ≡ min (length bytes) (last + k + 1) → end ≤ p + k + n
    → Nowhere (Passes (is_byte2 a b) (slice_range bytes (p + k) end)) 0 n
    → Nowhere (StandsAt literal bytes) from p → Nowhere (StandsAt literal bytes) from (last + 1)
Nowhere-end literal bytes k a b end from p n last inside a_is b_is end_is all none before x low high stands =
    let within = stands.within in
    elim (cases_lt x p) [
      | inl past ↦ before x low past stands
      | inr on ↦ none (x - p) (omega arith) (omega arith) (StandsAt-passes literal bytes k a b end p x inside a_is b_is on (omega arith) stands)
    ]

-- offsets behind which the literal stands
abbrev pub IsBehind : List ℕ → LiteralView → ℕ → Type 0
IsBehind bytes literal x = StandsAt literal bytes (x + literal.at)

-- from the places of a literal to the offsets of its words
pub IsFirst-offset : (bytes : List ℕ) (literal : LiteralView) (from end to k : ℕ) → from < end → end ≡ min to (length bytes + 1)
    → IsFirst (StandsAt literal bytes) (from + literal.at) (end - 1 + literal.at + 1) (Some k)
    → IsFirst (IsBehind bytes literal) from to (Some (k - literal.at))
IsFirst-offset bytes literal from end to k some is found =
    let at : ℕ = literal.at in
    let low = found.0.low in
    let high = found.0.high in
    let same : k ≡ k - at + at = omega arith in (
      record {
        low = omega arith;
        high = omega arith;
        before = λ x below above occurs. found.0.before (x + at) (omega arith) (omega arith) occurs;
      },
      subst (StandsAt literal bytes) same found.1,
    )

pub IsFirst-no_offset : (bytes : List ℕ) (literal : LiteralView) (from end to : ℕ) → end ≡ min to (length bytes + 1)
    → (from < end → IsFirst (StandsAt literal bytes) (from + literal.at) (end - 1 + literal.at + 1) None) → IsFirst (IsBehind bytes literal) from to None
IsFirst-no_offset bytes literal from end to is none = λ x low high stands.
    let within = stands.within in
    let some : from < end = omega arith in
    none some (x + literal.at) (omega arith) (omega arith) stands

-- no word begins where the literal does not stand behind it
pub IsFirstOf-skipped : (items : List Item) (literal : LiteralView) (bytes : List ℕ) (from first until limit : ℕ) (found : Option ℕ)
    → IsLiteralOf items literal → ((x : ℕ) → from ≤ x → x < first → IsBehind bytes literal x → ⊥)
    → IsFirstOf items bytes first until limit found → from ≤ first → IsFirstOf items bytes from until limit found
IsFirstOf-skipped items literal bytes from first until limit None is none rest order = λ start end low under below l.
    elim (cases_lt start first) [
      | inl before ↦ none start low before (is.stands bytes start end l)
      | inr behind ↦ rest start end behind under below l
    ]
IsFirstOf-skipped items literal bytes from first until limit (Some e) is none rest order =
    let h = rest.0 in
    let low = h.first in (
      record { start = h.start; first = omega arith; last = h.last; lies = h.lies },
      λ end other.
          elim (cases_lt other.start first) [
            | inl before ↦ absurd (none other.start other.first before (is.stands bytes other.start end other.lies))
            | inr behind ↦ rest.1 end (record { start = other.start; first = behind; last = other.last; lies = other.lies })
          ],
    )

-- nor anywhere, where it stands behind none of the offsets
pub IsFirstOf-nowhere : (items : List Item) (literal : LiteralView) (bytes : List ℕ) (from until limit : ℕ)
    → IsLiteralOf items literal → IsFirst (IsBehind bytes literal) from (min until limit) None
    → IsFirstOf items bytes from until limit None
IsFirstOf-nowhere items literal bytes from until limit is none = λ start end low under below l.
    none start low (omega arith) (is.stands bytes start end l)
