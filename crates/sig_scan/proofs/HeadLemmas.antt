-- Heads: which files have them, and which signatures they close.
use Rattle.sig_scan.proofs.Common.{◌≡◌, ◌≢◌, ◌∙◌, ℕ, ◌<◌, inl, inr, All, Bool, List, [], ◌∷◌, ◌++◌, add-zero, ap, append_assoc, arith, false, true, get_or}
use Rattle.sig_scan.proofs.Common.{length, length-append, subst, sym, set, false≢true, get_or-append-add, get_or_append_left, get_or_from_slice_get}
use Rattle.sig_scan.proofs.Common.{slice_get_within, Item, HasHead, IsHeadOf, IsEitherOf, AreExcluded, Head, TableView, max, min, Some, slice_get, Hits, Stands}
use Rattle.sig_scan.proofs.Common.{SequenceView, SignatureView, ◌+◌, ◌⊎◌, IsTrue, take, All-more, All-weaker, cases_eq, cases_lt}
use Rattle.sig_scan.proofs.Common.{get_or-set_other, get_or-set_same, AreAsked, MayHave}
use Rattle.sig_table.specs.Standing.{StandsAt}
use Rattle.sig_scan.proofs.ScanLemmas.{AreExcluded-set, one_value}
use Rattle.sig_table.specs.declared.position.Position.TheVariants as position

-- the first byte of a word is a byte of the file
first-byte : (front w rest : List ℕ) (x : ℕ) → w ≡ x ∷ [] → (length front < length (front ++ (w ++ rest)))
    × (get_or (front ++ (w ++ rest)) (length front) 0 ≡ x)
first-byte front w rest x is =
    let P : List ℕ → Type 0 = λ l. (length front < length (front ++ (l ++ rest))) × (get_or (front ++ (l ++ rest)) (length front) 0 ≡ x) in
    let len = length-append front (x ∷ rest) in
    let at = ap (λ n. get_or (front ++ x ∷ rest) n 0) (add-zero (length front)) in
    subst P (sym is) (omega arith, sym at ∙ get_or-append-add front (x ∷ rest) 0 0)

-- each file that a sequence stands in which may begin at one offset alone, and begins with one of two bytes, has its head
pub HasHead-first : (min max : ℕ) (i : Item) (later : List Item) (file : List ℕ) (h : Head) (a b : ℕ) → min ≡ max → IsEitherOf i a b → h.at ≡ min
    → h.text ≡ a → h.other ≡ b → StandsAt (position.Bof min max) (i ∷ later) file → HasHead h file
HasHead-first min max i later file h a b same either at text other (c, least, most) =
    let u : List ℕ = c.is_word.0 in
    let v : List ℕ = c.is_word.1 in
    let cut : c.word ≡ u ++ v = c.is_word.2 in
    let is_word = c.is_word.3 in
    let here : length c.front ≡ h.at = omega arith in
    let whole : file ≡ c.front ++ (u ++ (v ++ c.back)) =
    c.cut ∙ append_assoc c.front c.word c.back ∙ ap (λ (l : List ℕ). c.front ++ l) (ap (λ (w : List ℕ). w ++ c.back) cut ∙ append_assoc u v c.back) in
    let Has : ℕ → Type 0 = λ x. (length c.front < length file) × (get_or file (length c.front) 0 ≡ x) in
    let has : (x : ℕ) → u ≡ x ∷ [] → Has x = λ x is.
    subst (λ (l : List ℕ). (length c.front < length l) × (get_or l (length c.front) 0 ≡ x)) (sym whole) (first-byte c.front u (v ++ c.back) x is) in
    let byte = ap (λ n. get_or file n 0) (sym here) in
    elim (either u is_word) [
      | inl one ↦ (let known = has a one in let low = known.0 in
          record { within = omega arith; fits = inl (byte ∙ known.1 ∙ sym text) })
      | inr two ↦ (let known = has b two in let low = known.0 in
          record { within = omega arith; fits = inr (byte ∙ known.1 ∙ sym other) })
    ]

-- a head of a sequence of a signature is one of the signature
pub IsHeadOf-sequence : (table : TableView) (index i : ℕ) (g : SignatureView) (x : SequenceView) (those : List SequenceView) (h : Head)
    → slice_get table.signatures index ≡ Some g → those ≡ g.sequences → i < length those → x ≡ get_or those i x → h.signature ≡ index
    → ((file : List ℕ) → Stands x file → HasHead h file) → IsHeadOf table h
IsHeadOf-sequence table index i g x those h at same low is number has v there file hits =
    let here = subst (λ (l : List SequenceView). (i < length l) × (x ≡ get_or l i x)) same (low, is) in
    let v_is : v ≡ g = one_value (slice_get table.signatures index) v g (subst (λ n. slice_get table.signatures n ≡ Some v) number there) at in
    let all = subst (λ (u : SignatureView). Hits u file) v_is hits in
    has file (subst (λ (s : SequenceView). Stands s file) (sym here.1) (all i x here.0))

-- no file that begins with these bytes has a head that they do not have
HasHead-never : (h : Head) (bytes more : List ℕ) → ¬ MayHave bytes h → ¬ HasHead h (bytes ++ more)
HasHead-never h bytes more never has =
    elim (cases_lt h.at (length bytes)) [
      | inl at ↦ (
          let same = get_or_append_left bytes more 0 h.at at in
          let fits : (get_or bytes h.at 0 ≡ h.text) ⊎ (get_or bytes h.at 0 ≡ h.other) = elim has.fits [
            | inl one ↦ inl (sym same ∙ one)
            | inr two ↦ inr (sym same ∙ two)
          ] in
          never (inr (record { within = at; fits = fits })))
      | inr behind ↦ never (inl behind)
    ]

-- so its signature is excluded
pub AreExcluded-head : (table : TableView) (may_hit : List Bool) (bytes : List ℕ) (h : Head) → h.signature < length may_hit → IsHeadOf table h
    → ¬ MayHave bytes h → AreExcluded table may_hit bytes → AreExcluded table (set may_hit h.signature false) bytes
AreExcluded-head table may_hit bytes h within is never =
    AreExcluded-set table may_hit bytes h.signature false within
    (λ _ v signature more _ hits. HasHead-never h bytes more never (is v signature (bytes ++ more) hits))

-- it is asked
pub AreAsked-head : (bytes : List ℕ) (may_hit : List Bool) (heads : List Head) (i : ℕ) (d : Head) → i < length heads
    → (IsTrue (get_or may_hit (get_or heads i d).signature false) → MayHave bytes (get_or heads i d)) → AreAsked bytes may_hit (take i heads)
    → AreAsked bytes may_hit (take (i + 1) heads)
AreAsked-head bytes may_hit heads i d within here asked =
    All-more (λ h. IsTrue (get_or may_hit h.signature false) → MayHave bytes h) heads i d within asked here

still-on : (may_hit : List Bool) (k g : ℕ) → k < length may_hit → IsTrue (get_or (set may_hit k false) g false) → IsTrue (get_or may_hit g false)
still-on may_hit k g within on =
    elim (cases_eq g k) [
      | inl same ↦ absurd (false≢true (sym (ap (λ n. get_or (set may_hit k false) n false) same ∙ get_or-set_same may_hit k false false within) ∙ on))
      | inr other ↦ sym (get_or-set_other may_hit k g false false other) ∙ on
    ]

-- and those before it still are
pub AreAsked-set : (bytes : List ℕ) (may_hit : List Bool) (heads : List Head) (k : ℕ) → k < length may_hit → AreAsked bytes may_hit heads
    → AreAsked bytes (set may_hit k false) heads
AreAsked-set bytes may_hit heads k within =
    All-weaker (λ h. IsTrue (get_or may_hit h.signature false) → MayHave bytes h)
    (λ h. IsTrue (get_or (set may_hit k false) h.signature false) → MayHave bytes h)
    (λ h was on. was (still-on may_hit k h.signature within on)) heads

-- its signature is off
pub off-set : (may_hit : List Bool) (k : ℕ) → k < length may_hit → ¬ IsTrue (get_or (set may_hit k false) k false)
off-set may_hit k within on = false≢true (sym (get_or-set_same may_hit k false false within) ∙ on)

-- where all may be hit none is excluded
pub AreExcluded-none : (table : TableView) (may_hit : List Bool) (file : List ℕ) → All (λ b. b ≡ true) may_hit → AreExcluded table may_hit file
AreExcluded-none table may_hit file all g h out signature more are hits =
    let within = slice_get_within may_hit g false out in
    let value = get_or_from_slice_get may_hit g false false out in
    absurd (false≢true (sym value ∙ all g false within))
