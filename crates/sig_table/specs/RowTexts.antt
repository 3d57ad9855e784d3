-- What the fields of a row are in either file, in plain words.
use Rattle.std.specs.Prelude.{◌≡◌, ◌≢◌, ◌⊎◌, ℕ, List, [], ◌∷◌, length, codes, slice_get, Contains, Some, Ok}
use Rattle.std.specs.Fmt.{decimal}
use Rattle.sig_expr.specs.declared.error.ExprError.{ExprError}
use Rattle.sig_expr.specs.Profile.{InProfile}
use Rattle.sig_expr.specs.Refusals.{Means}
use Rattle.sig_expr.specs.Texts.{expr_of}
use Rattle.sig_table.specs.declared.error.TableError.{TableError}
use Rattle.sig_table.specs.declared.error.TableError.TheVariants as error
use Rattle.sig_table.specs.declared.error.TableFile.TheVariants.{Signatures, Priorities}
use Rattle.sig_table.specs.declared.position.Position.{Position}
use Rattle.sig_table.specs.declared.position.Position.TheVariants as position
use Rattle.sig_table.specs.declared.puid.Puid.{Puid}
use Rattle.sig_table.specs.declared.row.Row.{Row}
use Rattle.sig_table.specs.Judging.{FirstOf}
use Rattle.sig_table.specs.Puids.{puid_text}
use Rattle.sig_table.specs.Rows.{text_at}
use Rattle.sig_table.specs.Tables.{InOrder, IsNumber}

-- the decimals of two offsets, of which the second may be left out where both are one
abbrev pub OffsetTexts : ℕ → ℕ → List ℕ → List ℕ → Type 0
OffsetTexts min max offset greatest = (offset ≡ decimal min) × ((greatest ≡ decimal max) ⊎ ((greatest ≡ []) × (min ≡ max)))

-- the word of a position and the texts of its offsets
abbrev pub PositionTexts : Position → List ℕ → List ℕ → List ℕ → Type 0
PositionTexts (position.Bof min max) word offset greatest = (word ≡ codes "BOF") × OffsetTexts min max offset greatest
PositionTexts (position.Eof min max) word offset greatest = (word ≡ codes "EOF") × OffsetTexts min max offset greatest
PositionTexts position.Variable word offset greatest = (word ≡ codes "Variable") × (offset ≡ []) × (greatest ≡ [])

-- six fields: a PUID, a signature number, the three of a position within its limits, and a text that is read as the items
pub record RowText (fields : List (List ℕ)) (row : Row) : Type 0 where
  pub word : List ℕ
  pub offset : List ℕ
  pub greatest : List ℕ
  pub expression : List ℕ
  pub cut : fields ≡ puid_text row.puid ∷ decimal row.number ∷ word ∷ offset ∷ greatest ∷ expression ∷ []
  pub puid : IsNumber row.puid.number
  pub number : IsNumber row.number
  pub position : PositionTexts row.sequence.position word offset greatest
  pub offsets : InOrder row.sequence.position
  pub items : expr_of expression ≡ Ok row.sequence.items

-- two fields: the PUIDs of the pair's formats, which are two
pub record PriorityText (formats : List Puid) (fields : List (List ℕ)) (pair : ℕ × ℕ) : Type 0 where
  pub higher : Puid
  pub lower : Puid
  pub cut : fields ≡ puid_text higher ∷ puid_text lower ∷ []
  pub is_higher : slice_get formats pair.0 ≡ Some higher
  pub is_lower : slice_get formats pair.1 ≡ Some lower
  pub two : pair.0 ≢ pair.1

-- the text of some PUID
abbrev pub IsPuid : List ℕ → Type 0
IsPuid text = (puid : Puid) × IsNumber puid.number × (text ≡ puid_text puid)

-- the decimal of some signature number
abbrev pub IsSignatureNumber : List ℕ → Type 0
IsSignatureNumber text = (number : ℕ) × IsNumber number × (text ≡ decimal number)

-- one of the three words
abbrev pub IsWordOfPosition : List ℕ → Type 0
IsWordOfPosition word = (word ≡ codes "BOF") ⊎ ((word ≡ codes "EOF") ⊎ (word ≡ codes "Variable"))

-- the texts of the offsets of some position of this word
abbrev pub AreOffsets : List ℕ → List ℕ → List ℕ → Type 0
AreOffsets word offset greatest = (place : Position) × InOrder place × PositionTexts place word offset greatest

-- the text is outside the profile, and the fault has the refusal whose meaning is true of it
abbrev pub IsFaultOfExpression : ℕ → List ℕ → TableError → Type 0
IsFaultOfExpression n text fault = ¬ InProfile text × ((refusal : ExprError) × Means refusal text × (fault ≡ error.Expression n refusal))

-- the fault of the fields of the n-th record of the signature file: the first that they have
abbrev pub IsRowTextFault : ℕ → List (List ℕ) → TableError → Type 0
IsRowTextFault n fields =
    FirstOf (length fields ≢ 6) (error.Fields Signatures n)
    (FirstOf (¬ IsPuid (text_at fields 0)) (error.Puid Signatures n)
    (FirstOf (¬ IsSignatureNumber (text_at fields 1)) (error.SignatureNumber n)
    (FirstOf (¬ IsWordOfPosition (text_at fields 2)) (error.Position n)
    (FirstOf (¬ AreOffsets (text_at fields 2) (text_at fields 3) (text_at fields 4)) (error.Offset n)
    (IsFaultOfExpression n (text_at fields 5))))))

-- the text of the PUID of one of the formats
abbrev pub IsKnown : List Puid → List ℕ → Type 0
IsKnown formats text = (puid : Puid) × IsNumber puid.number × (text ≡ puid_text puid) × Contains formats puid

-- the fault of the fields of the n-th record of the priority file: the first that they have
abbrev pub IsPriorityTextFault : List Puid → ℕ → List (List ℕ) → TableError → Type 0
IsPriorityTextFault formats n fields =
    FirstOf (length fields ≢ 2) (error.Fields Priorities n)
    (FirstOf (¬ IsPuid (text_at fields 0) ⊎ ¬ IsPuid (text_at fields 1)) (error.Puid Priorities n)
    (FirstOf (¬ IsKnown formats (text_at fields 0) ⊎ ¬ IsKnown formats (text_at fields 1)) (error.PriorityUnknown n)
    (λ fault. (text_at fields 0 ≡ text_at fields 1) × (fault ≡ error.PrioritySelf n))))
