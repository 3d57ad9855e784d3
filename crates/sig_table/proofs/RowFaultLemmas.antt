-- A record is refused for the first fault of its fields, and for no other.
use Rattle.std.proofs.Common.{◌≡◌, ℕ, ◌&&◌, ◌==◌, Bool, true, false, List, length, sym, ap, ◌∙◌, refl, eq-eqb, inl, inr, Option, Some, None, Result, Ok, Err}
use Rattle.std.specs.Prelude.{◌⊎◌, ◌↔◌, ◌≢◌, codes, if◌then◌else◌}
use Rattle.std.specs.Cmp.Lexicographic.{same_text}
use Rattle.std.specs.Option.{ok_or}
use Rattle.std.proofs.lemmas.Bool.{cases_Bool, eqb-true, false≢true}
use Rattle.sig_expr.specs.declared.error.ExprError.{ExprError}
use Rattle.sig_expr.specs.declared.item.Item.{Item}
use Rattle.sig_expr.specs.Texts.{expr_of}
use Rattle.sig_expr.proofs.Exports.{meant_refused, read_spells, refused_meant}
use Rattle.sig_table.proofs.PuidLemmas.{IsNumber-positive_of, decimal-number_of, number_of-positive, positive_of-decimal, puid_of-puid_text, puid_text-puid_of}
use Rattle.sig_table.proofs.RowLemmas.{IsNumber-puid_of, InOrder-position_of}
use Rattle.sig_table.proofs.RowTextLemmas.{position_of-texts, read-position}
use Rattle.sig_table.specs.declared.error.TableError.{TableError}
use Rattle.sig_table.specs.declared.error.TableError.TheVariants as error
use Rattle.sig_table.specs.declared.error.TableFile.TheVariants.{Signatures}
use Rattle.sig_table.specs.declared.position.Position.{Position}
use Rattle.sig_table.specs.declared.position.Position.TheVariants as position
use Rattle.sig_table.specs.declared.puid.Puid.{Puid}
use Rattle.sig_table.specs.Judging.{◌>>=◌, FirstOf}
use Rattle.sig_table.specs.Numbers.{positive_of}
use Rattle.sig_table.specs.Puids.{puid_of}
use Rattle.sig_table.specs.Rows.{is_word, items_in, offset_of, position_of, row_of, row_with, text_at, up_to}
use Rattle.sig_table.specs.RowTexts.{AreOffsets, IsFaultOfExpression, IsPuid, IsRowTextFault, IsSignatureNumber, IsWordOfPosition, PositionTexts}

-- what is asked by a test
pub tested : {A : Type 0} (b : Bool) (fault : TableError) (rest : Result A TableError) (IsThere : Type 0) (IsLater : TableError → Type 0) (e : TableError)
    → (b ≡ false → IsThere) → (b ≡ true → IsThere → ⊥) → (b ≡ true → (rest ≡ Err e) ↔ IsLater e) → ((if b then rest else Err fault) ≡ Err e)
    ↔ FirstOf IsThere fault IsLater e
tested true fault rest IsThere IsLater e fails passes later =
    (λ h. inr (passes refl, (later refl).0 h), λ first. elim first [ inl there ↦ absurd (passes refl there.0) | inr more ↦ (later refl).1 more.1 ])
tested false fault rest IsThere IsLater e fails passes later =
    (λ h. inl (fails refl, cc h), λ first. elim first [ inl there ↦ ap (λ x. Err x) (sym there.1) | inr more ↦ absurd (more.0 (fails refl)) ])

-- what is read of a text, where it is one
pub read_on : {A B : Type 0} (o : Option A) (fault : TableError) (f : A → Result B TableError) (Is : Type 0) (IsLater : TableError → Type 0) (e : TableError)
    → (o ≡ None → ¬ Is) → ((x : A) → o ≡ Some x → Is) → ((x : A) → o ≡ Some x → (f x ≡ Err e) ↔ IsLater e) → (ok_or o fault >>= f ≡ Err e)
    ↔ FirstOf (¬ Is) fault IsLater e
read_on None fault f Is IsLater e none some later = (
  λ h. inl (none refl, cc h),
  λ first. elim first [ inl there ↦ ap (λ x. Err x) (sym there.1) | inr more ↦ absurd (more.0 (none refl)) ],
)
read_on (Some x) fault f Is IsLater e none some later = (
  λ h. inr (λ no. no (some x refl), (later x refl).0 h),
  λ first. elim first
      [ inl there ↦ absurd (there.0 (some x refl)) | inr more ↦ (later x refl).1 more.1 ],
)

-- a PUID is read of its text, and of no other
pub is_puid : (text : List ℕ) (puid : Puid) → puid_of text ≡ Some puid → IsPuid text
is_puid text puid h = (puid, IsNumber-puid_of text puid h, sym (puid_text-puid_of text (Some puid) (sym h)))

pub no_puid : (text : List ℕ) → puid_of text ≡ None → ¬ IsPuid text
no_puid text h is = cc (sym h ∙ ap puid_of is.2 ∙ puid_of-puid_text is.0.registry is.0.number is.1.0 is.1.1)

is_signature_number : (text : List ℕ) (n : ℕ) → positive_of text ≡ Some n → IsSignatureNumber text
is_signature_number text n h = (n, IsNumber-positive_of text n h, sym (decimal-number_of text n (number_of-positive text n h)))

no_signature_number : (text : List ℕ) → positive_of text ≡ None → ¬ IsSignatureNumber text
no_signature_number text h is = cc (sym h ∙ ap positive_of is.2 ∙ positive_of-decimal is.0 is.1.0 is.1.1)

-- what three texts give: a position, no offsets behind a word, or no word
abbrev Placed : ℕ → List ℕ → List ℕ → List ℕ → Type 0
Placed n word offset greatest =
    ((place : Position) × (position_of n word offset greatest ≡ Ok place))
    ⊎ ((IsWordOfPosition word × (position_of n word offset greatest ≡ Err (error.Offset n)))
    ⊎ (¬ IsWordOfPosition word × (position_of n word offset greatest ≡ Err (error.Position n))))

offsets_or_fault : (n : ℕ) (o : Option (ℕ × ℕ)) → ((p : ℕ × ℕ) × (ok_or o (error.Offset n) ≡ Ok p)) ⊎ (ok_or o (error.Offset n) ≡ Err (error.Offset n))
offsets_or_fault n None = inr refl
offsets_or_fault n (Some p) = inl (p, refl)

placed : (n : ℕ) (word offset greatest : List ℕ) → Placed n word offset greatest
unfolding position_of
placed n word offset greatest = elim (cases_Bool (is_word word (codes "BOF"))) [
  | inl t ↦ elim (offsets_or_fault n (up_to (offset_of offset) greatest)) [
    | inl p ↦ inl (position.Bof p.0.0 p.0.1, rw (t, p.1) refl)
    | inr none ↦ inr (inl (inl (same_text word (codes "BOF") (sym t)), rw (t, none) refl))
  ]
  | inr f ↦ elim (cases_Bool (is_word word (codes "EOF"))) [
    | inl t ↦ elim (offsets_or_fault n (up_to (offset_of offset) greatest)) [
      | inl p ↦ inl (position.Eof p.0.0 p.0.1, rw (f, t, p.1) refl)
      | inr none ↦ inr (inl (inr (inl (same_text word (codes "EOF") (sym t))), rw (f, t, none) refl))
    ]
    | inr g ↦ elim (cases_Bool (is_word word (codes "Variable"))) [
      | inl t ↦ elim (cases_Bool ((length offset == 0) && (length greatest == 0))) [
        | inl empty ↦ inl (position.Variable, rw (f, g, t, empty) refl)
        | inr some ↦ inr (inl (inr (inr (same_text word (codes "Variable") (sym t))), rw (f, g, t, some) refl))
      ]
      | inr k ↦ inr (inr (no_word f g k, rw (f, g, k) refl))
    ]
  ]
]
  where
    no_word : is_word word (codes "BOF") ≡ false → is_word word (codes "EOF") ≡ false → is_word word (codes "Variable") ≡ false → ¬ IsWordOfPosition word
    no_word f g k is = elim is [ inl b ↦ cc (rw b at f) | inr other ↦ elim other [ inl e ↦ cc (rw e at g) | inr v ↦ cc (rw v at k) ] ]

-- the texts of a position begin with a word
word_of : (place : Position) (word offset greatest : List ℕ) → PositionTexts place word offset greatest → IsWordOfPosition word
word_of (position.Bof min max) word offset greatest texts = inl texts.0
word_of (position.Eof min max) word offset greatest texts = inr (inl texts.0)
word_of position.Variable word offset greatest texts = inr (inr texts.0)

place_on : {B : Type 0} (n : ℕ) (word offset greatest : List ℕ) (f : Position → Result B TableError) (IsLater : TableError → Type 0) (e : TableError)
    → ((place : Position) → (f place ≡ Err e) ↔ IsLater e)
    → (position_of n word offset greatest >>= f ≡ Err e) ↔ FirstOf (¬ IsWordOfPosition word) (error.Position n)
    (FirstOf (¬ AreOffsets word offset greatest) (error.Offset n) IsLater) e
place_on n word offset greatest f IsLater e later = elim (placed n word offset greatest) [
  | inl p ↦
      let texts = read-position n word offset greatest p.0 p.1 in
      let word_is = word_of p.0 word offset greatest texts in
      let are : AreOffsets word offset greatest = (p.0, InOrder-position_of n word offset greatest p.0 p.1, texts) in (
        λ h. inr (λ no. no word_is, inr (λ no. no are, (later p.0).0 (rw p.1 at h))),
        λ first. elim first [
          | inl there ↦ absurd (there.0 word_is)
          | inr more ↦ elim more.1 [ inl there ↦ absurd (there.0 are) | inr last ↦ rw p.1 ((later p.0).1 last.1) ]
        ],
      )
  | inr none ↦
      let not_are : ¬ AreOffsets word offset greatest = λ are. elim none [
        | inl offsets ↦ cc (sym offsets.1 ∙ position_of-texts n are.0 word offset greatest are.2 are.1)
        | inr words ↦ cc (sym words.1 ∙ position_of-texts n are.0 word offset greatest are.2 are.1)
      ] in
      elim none [
        | inl offsets ↦ (
          λ h. inr (λ no. no offsets.0, inl (not_are, cc (rw offsets.1 at h))),
          λ first. elim first [
            | inl there ↦ absurd (there.0 offsets.0)
            | inr more ↦ elim more.1 [ inl there ↦ rw (offsets.1, there.1) refl | inr last ↦ absurd (last.0 not_are) ]
          ],
        )
        | inr words ↦ (
          λ h. inl (words.0, cc (rw words.1 at h)),
          λ first. elim first [ inl there ↦ rw (words.1, there.1) refl | inr more ↦ absurd (more.0 words.0) ],
        )
      ]
]

-- the expression, which comes last
items_on : {B : Type 0} (n : ℕ) (text : List ℕ) (f : List Item → Result B TableError) (e : TableError) → ((items : List Item) → f items ≡ Err e → ⊥)
    → (r : Result (List Item) ExprError) → expr_of text ≡ r
    → (items_in n r >>= f ≡ Err e) ↔ IsFaultOfExpression n text e
items_on n text f e last (Ok items) h = (λ k. absurd (last items k), λ is. absurd (is.0 (read_spells items text h).0))
items_on n text f e last (Err refusal) h =
    let meant = refused_meant refusal text h in (
      λ k. (meant.0, (refusal, meant.1, cc (sym k))),
      λ is.
          let same : refusal ≡ is.1.0 = cc (sym h ∙ meant_refused is.1.0 text is.0 is.1.1) in
          ap (λ x. Err (error.Expression n x)) same ∙ ap (λ x. Err x) (sym is.1.2),
    )

-- six fields
refused_with : (n : ℕ) (puid number word offset greatest expression : List ℕ) (e : TableError)
    → (row_with n puid number word offset greatest expression ≡ Err e)
    ↔ FirstOf (¬ IsPuid puid) (error.Puid Signatures n) (FirstOf (¬ IsSignatureNumber number) (error.SignatureNumber n)
    (FirstOf (¬ IsWordOfPosition word) (error.Position n) (FirstOf (¬ AreOffsets word offset greatest) (error.Offset n) (IsFaultOfExpression n expression)))) e
refused_with n puid number word offset greatest expression e =
    let last : TableError → Type 0 = IsFaultOfExpression n expression in
    let third : TableError → Type 0 = FirstOf (¬ IsWordOfPosition word) (error.Position n) (FirstOf (¬ AreOffsets word offset greatest) (error.Offset n) last)
    in
    let second : TableError → Type 0 = FirstOf (¬ IsSignatureNumber number) (error.SignatureNumber n) third in
    read_on (puid_of puid) (error.Puid Signatures n) _ (IsPuid puid) second e (no_puid puid) (is_puid puid) (λ p p_is.
    read_on (positive_of number) (error.SignatureNumber n) _ (IsSignatureNumber number) third e (no_signature_number number) (is_signature_number number)
    (λ k k_is.
    place_on n word offset greatest _ last e (λ place.
    items_on n expression _ e (λ items h. cc h) (expr_of expression) refl)))

pub row_is_refused : (n : ℕ) (fields : List (List ℕ)) (e : TableError) → (row_of n fields ≡ Err e) ↔ IsRowTextFault n fields e
unfolding row_of
row_is_refused n fields e =
    let offsets : TableError → Type 0 = FirstOf (¬ AreOffsets (text_at fields 2) (text_at fields 3) (text_at fields 4)) (error.Offset n)
    (IsFaultOfExpression n (text_at fields 5)) in
    let numbers : TableError → Type 0 = FirstOf (¬ IsSignatureNumber (text_at fields 1)) (error.SignatureNumber n)
    (FirstOf (¬ IsWordOfPosition (text_at fields 2)) (error.Position n) offsets) in
    tested (length fields == 6) (error.Fields Signatures n) _ (length fields ≢ 6) (FirstOf (¬ IsPuid (text_at fields 0)) (error.Puid Signatures n) numbers) e
    (λ f is. false≢true (sym f ∙ eq-eqb _ _ is))
    (λ t other. other (eqb-true _ _ t))
    (λ t. refused_with n (text_at fields 0) (text_at fields 1) (text_at fields 2) (text_at fields 3) (text_at fields 4) (text_at fields 5) e)
