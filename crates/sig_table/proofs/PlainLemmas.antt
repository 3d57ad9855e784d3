-- No field of the canonical text has a byte that calls for quotes, so `csv` writes each record as it stands.
use Rattle.std.proofs.Common.{◌≡◌, ℕ, zero, suc, ◌/◌, ◌%◌, ◌<◌, Bool, true, false, cond, nat_eq, nat_lt, List, [], ◌∷◌, ◌++◌, map, Option, Some, None, refl}
use Rattle.std.proofs.Common.{sym, ap, append-nil, inl, inr, arith}
use Rattle.std.specs.Prelude.{codes, slice_get, slice_index, ⊤}
use Rattle.std.specs.Fmt.{decimal, digit_glyph, digits, digits_onto}
use Rattle.std.specs.List.{flat_map}
use Rattle.std.proofs.lemmas.Bool.{cases_Bool, ne_eqb}
use Rattle.std.proofs.lemmas.List.Folds.{list_any-append}
use Rattle.csv.specs.Writing.{default_writer, fields_text, is_blank, needs_byte, needs_quotes, row_body, row_text}
use Rattle.sig_expr.proofs.Exports.{encode_upper, encode_with, upper_digits}
use Rattle.sig_expr.specs.Canon.{alternative_text, alternatives_text, atom_text, between_text, canon, count_text, from_text, gap_text, item_text, not_text}
use Rattle.sig_expr.specs.Canon.{range_text}
use Rattle.sig_expr.specs.declared.item.Atom.{Atom}
use Rattle.sig_expr.specs.declared.item.Atom.TheVariants as atom
use Rattle.sig_expr.specs.declared.item.Item.{Item}
use Rattle.sig_expr.specs.declared.item.Item.TheVariants as item
use Rattle.sig_table.specs.Canonical.{joined, line_text, name_of, named, pair_record, pair_records, pairs_csv, records_of_signature, sequence_record}
use Rattle.sig_table.specs.Canonical.{signature_csv, signature_records}
use Rattle.sig_table.specs.Views.{SequenceView, SignatureView, TableView}
use Rattle.sig_table.specs.Puids.{puid_text, registry_text}
use Rattle.sig_table.specs.declared.position.Position.{Position}
use Rattle.sig_table.specs.declared.position.Position.TheVariants as position
use Rattle.sig_table.specs.declared.puid.Puid.{Puid}
use Rattle.sig_table.specs.declared.puid.Registry.{Registry}
use Rattle.sig_table.specs.declared.puid.Registry.TheVariants.{Fmt, XFmt}

-- no byte of the field calls for quotes
abbrev pub Plain : List ℕ → Type 0
Plain field = needs_quotes default_writer field ≡ false

abbrev pub AllPlain : List (List ℕ) → Type 0
AllPlain [] = ⊤
AllPlain (field ∷ later) = Plain field × AllPlain later

-- two plain texts in turn
pub plain-append : (xs ys : List ℕ) → Plain xs → Plain ys → Plain (xs ++ ys)
plain-append xs ys p q = rw (list_any-append (needs_byte default_writer) xs ys, p, q) refl

-- one plain byte more
plain-cons : (x : ℕ) (xs : List ℕ) → needs_byte default_writer x ≡ false → Plain xs → Plain (x ∷ xs)
plain-cons x xs p q = rw (p, q) refl

-- each mark is below the digits
above_marks : (b : ℕ) → 44 < b → needs_byte default_writer b ≡ false
above_marks b h =
    let comma : nat_eq b 44 ≡ false = ne_eqb b 44 (λ e. omega arith) in
    let quote : nat_eq b 34 ≡ false = ne_eqb b 34 (λ e. omega arith) in
    let carriage : nat_eq b 13 ≡ false = ne_eqb b 13 (λ e. omega arith) in
    let feed : nat_eq b 10 ≡ false = ne_eqb b 10 (λ e. omega arith) in
    rw (comma, quote, carriage, feed) refl

plain-above : (x : ℕ) (xs : List ℕ) → 44 < x → Plain xs → Plain (x ∷ xs)
plain-above x xs h p = plain-cons x xs (above_marks x h) p

-- decimals

glyph_above : (d : ℕ) → 44 < digit_glyph false d
glyph_above d = elim (cases_Bool (nat_lt d 10)) [
  | inl t ↦ rw t (omega arith)
  | inr f ↦ rw f (omega arith)
]

plain-onto : (k n : ℕ) (acc : List ℕ) → Plain acc → Plain (digits_onto k 10 false n acc)
plain-onto zero n acc p = p
plain-onto (suc k) n acc p =
    let more = plain-above (digit_glyph false (n % 10)) acc (glyph_above (n % 10)) p in
    elim (cases_Bool (nat_eq (n / 10) 0)) [
      | inl t ↦ rw t more
      | inr f ↦ rw f (plain-onto k (n / 10) (digit_glyph false (n % 10) ∷ acc) more)
    ]

pub plain-decimal : (n : ℕ) → Plain (decimal n)
unfolding digits
plain-decimal n = plain-onto 64 n [] refl

-- PUIDs

pub plain-puid_text : (p : Puid) → Plain (puid_text p)
plain-puid_text p = plain-append (registry_text p.registry) (decimal p.number) (plain_registry p.registry) (plain-decimal p.number)
  where
    plain_registry : (r : Registry) → Plain (registry_text r)
    plain_registry Fmt = refl
    plain_registry XFmt = refl

plain-named : (o : Option Puid) → Plain (named o)
plain-named None = refl
plain-named (Some p) = plain-puid_text p

pub plain-name_of : (formats : List Puid) (format : ℕ) → Plain (name_of formats format)
plain-name_of formats format = plain-named (slice_get formats format)

-- canonical expressions

-- no member of a plain text calls for quotes
plain_at : (t : List ℕ) → Plain t → (v : ℕ) → needs_byte default_writer (slice_index t v) ≡ false
plain_at [] p v = refl
plain_at (x ∷ t) p zero = elim (cases_Bool (needs_byte default_writer x)) [
  | inl y ↦ absurd (cc (rw y at p))
  | inr f ↦ f
]
plain_at (x ∷ t) p (suc v) = plain_at t (elim (cases_Bool (needs_byte default_writer x)) [
  | inl y ↦ absurd (cc (rw y at p))
  | inr f ↦ rw f at p
]) v

plain-word : (bs : List ℕ) → Plain (encode_upper bs)
unfolding encode_with
plain-word [] = refl
plain-word (b ∷ bs) =
    plain-cons (slice_index upper_digits (b / 16)) (slice_index upper_digits (b % 16) ∷ encode_upper bs) (plain_at upper_digits refl (b / 16))
    (plain-cons (slice_index upper_digits (b % 16)) (encode_upper bs) (plain_at upper_digits refl (b % 16)) (plain-word bs))

plain-count : (n : ℕ) → Plain (count_text n)
unfolding count_text
plain-count n = plain-append (123 ∷ []) (decimal n ++ (125 ∷ [])) refl (plain-append (decimal n) (125 ∷ []) (plain-decimal n) refl)

plain-from : (n : ℕ) → Plain (from_text n)
unfolding from_text
plain-from n = plain-append (123 ∷ []) (decimal n ++ (45 ∷ 42 ∷ 125 ∷ [])) refl (plain-append (decimal n) (45 ∷ 42 ∷ 125 ∷ []) (plain-decimal n) refl)

plain-between : (min max : ℕ) → Plain (between_text min max)
unfolding between_text
plain-between min max =
    plain-append (123 ∷ []) (decimal min ++ ((45 ∷ []) ++ (decimal max ++ (125 ∷ [])))) refl
    (plain-append (decimal min) ((45 ∷ []) ++ (decimal max ++ (125 ∷ []))) (plain-decimal min)
    (plain-append (45 ∷ []) (decimal max ++ (125 ∷ [])) refl
    (plain-append (decimal max) (125 ∷ []) (plain-decimal max) refl)))

plain-if : (b : Bool) (xs ys : List ℕ) → Plain xs → Plain ys → Plain (cond b xs ys)
plain-if true xs ys p q = p
plain-if false xs ys p q = q

plain-gap : (min : ℕ) (max : Option ℕ) → Plain (gap_text min max)
plain-gap min None = plain-if (nat_eq min 0) (42 ∷ []) (from_text min) refl (plain-from min)
plain-gap min (Some max) = plain-if (nat_eq min max) (count_text max) (between_text min max) (plain-count max) (plain-between min max)

plain-range : (opening a b : List ℕ) → Plain opening → Plain (range_text opening a b)
unfolding range_text
plain-range opening a b p =
    plain-append opening (encode_upper a ++ ((58 ∷ []) ++ (encode_upper b ++ (93 ∷ [])))) p
    (plain-append (encode_upper a) ((58 ∷ []) ++ (encode_upper b ++ (93 ∷ []))) (plain-word a)
    (plain-append (58 ∷ []) (encode_upper b ++ (93 ∷ [])) refl
    (plain-append (encode_upper b) (93 ∷ []) (plain-word b) refl)))

plain-not : (a : List ℕ) → Plain (not_text a)
unfolding not_text
plain-not a = plain-append (91 ∷ 33 ∷ []) (encode_upper a ++ (93 ∷ [])) refl (plain-append (encode_upper a) (93 ∷ []) (plain-word a) refl)

plain-atom : (a : Atom) → Plain (atom_text a)
plain-atom (atom.Byte b) = plain-word (b ∷ [])
plain-atom (atom.Range a b) = plain-range (91 ∷ []) a b refl
plain-atom (atom.Not a) = plain-not a
plain-atom (atom.NotRange a b) = plain-range (91 ∷ 33 ∷ []) a b refl

plain-alternative : (ps : List Atom) → Plain (alternative_text ps)
unfolding alternative_text
plain-alternative [] = refl
plain-alternative (p ∷ ps) = plain-append (atom_text p) (alternative_text ps) (plain-atom p) (plain-alternative ps)

plain-alternatives : (sign : List ℕ) (alternatives : List (List Atom)) → Plain sign → Plain (alternatives_text sign alternatives)
unfolding alternatives_text
plain-alternatives sign [] h = refl
plain-alternatives sign (a ∷ later) h =
    plain-append sign (alternative_text a ++ alternatives_text (codes "|") later) h
    (plain-append (alternative_text a) (alternatives_text (codes "|") later) (plain-alternative a) (plain-alternatives (codes "|") later refl))

plain-item : (i : Item) → Plain (item_text i)
plain-item (item.Byte b) = plain-word (b ∷ [])
plain-item item.Any = refl
plain-item (item.Gap min max) = plain-gap min max
plain-item (item.Alt alternatives) = plain-append (alternatives_text (codes "(") alternatives) (codes ")") (plain-alternatives (codes "(") alternatives refl)
    refl
plain-item (item.Range a b) = plain-range (91 ∷ []) a b refl
plain-item (item.Not a) = plain-not a
plain-item (item.NotRange a b) = plain-range (91 ∷ 33 ∷ []) a b refl

pub plain-canon : (is : List Item) → Plain (canon is)
unfolding canon
plain-canon [] = refl
plain-canon (i ∷ is) = plain-append (item_text i) (canon is) (plain-item i) (plain-canon is)

-- records

plain_row_body : (x : List ℕ) (ys : List (List ℕ)) → AllPlain (x ∷ ys) → row_body default_writer (x ∷ ys) ≡ joined (x ∷ ys)
unfolding fields_text joined
plain_row_body x [] (p, q) = rw p (append-nil x)
plain_row_body x (y ∷ ys) (p, q) = rw p (ap (λ text. x ++ (44 ∷ text)) (plain_row_body y ys q))

-- a record of two fields or more, none of which calls for quotes, is its fields with commas between them
pub plain_row : (x y : List ℕ) (ys : List (List ℕ)) → AllPlain (x ∷ y ∷ ys) → row_text default_writer (x ∷ y ∷ ys) ≡ line_text (x ∷ y ∷ ys)
unfolding is_blank
plain_row x y ys p = ap (λ text. text ++ 10 ∷ []) (plain_row_body x (y ∷ ys) p)

-- each record is written as it stands
abbrev Stand : List (List (List ℕ)) → Type 0
Stand [] = ⊤
Stand (record' ∷ later) = (line_text record' ≡ row_text default_writer record') × Stand later

stand_text : (records : List (List (List ℕ))) → Stand records → flat_map line_text records ≡ flat_map (row_text default_writer) records
stand_text [] h = refl
stand_text (r ∷ rs) h = rw (h.0, stand_text rs h.1) refl

stand-append : (xs ys : List (List (List ℕ))) → Stand xs → Stand ys → Stand (xs ++ ys)
stand-append [] ys h g = g
stand-append (x ∷ xs) ys h g = (h.0, stand-append xs ys h.1 g)

stand-map : {X : Type 0} (f : X → List (List ℕ)) (xs : List X) → ((x : X) → line_text (f x) ≡ row_text default_writer (f x)) → Stand (map f xs)
stand-map f [] h = tt
stand-map f (x ∷ xs) h = (h x, stand-map f xs h)

stand-flat_map : {X : Type 0} (f : X → List (List (List ℕ))) (xs : List X) → ((x : X) → Stand (f x)) → Stand (flat_map f xs)
stand-flat_map f [] h = tt
stand-flat_map f (x ∷ xs) h = stand-append (f x) (flat_map f xs) (h x) (stand-flat_map f xs h)

sequence_stands : (name : List ℕ) (number : ℕ) (s : SequenceView) → Plain name
    → line_text (sequence_record name number s) ≡ row_text default_writer (sequence_record name number s)
sequence_stands name number s plain = go s.position
  where
    rest : (word offset max : List ℕ) → Plain word → Plain offset → Plain max
        → line_text (name ∷ decimal number ∷ word ∷ offset ∷ max ∷ canon s.items ∷ []) ≡ row_text default_writer
        (name ∷ decimal number ∷ word ∷ offset ∷ max ∷ canon s.items ∷ [])
    rest word offset max p q r = sym (plain_row name (decimal number) (word ∷ offset ∷ max ∷ canon s.items ∷ [])
        (plain, (plain-decimal number, (p, (q, (r, (plain-canon s.items, tt)))))))

    go : (place : Position) → line_text (sequence_record name number (record s { position = place })) ≡ row_text default_writer
        (sequence_record name number (record s { position = place }))
    go (position.Bof min max) = rest (codes "BOF") (decimal min) (decimal max) refl (plain-decimal min) (plain-decimal max)
    go (position.Eof min max) = rest (codes "EOF") (decimal min) (decimal max) refl (plain-decimal min) (plain-decimal max)
    go position.Variable = rest (codes "Variable") [] [] refl refl refl

signature_stands : (formats : List Puid) (s : SignatureView) → Stand (records_of_signature formats s)
signature_stands formats s = stand-map (sequence_record (name_of formats s.format) s.number) s.sequences
    (λ sequence. sequence_stands (name_of formats s.format) s.number sequence (plain-name_of formats s.format))

pair_stands : (formats : List Puid) (pair : ℕ × ℕ) → line_text (pair_record formats pair) ≡ row_text default_writer (pair_record formats pair)
pair_stands formats pair = sym (plain_row (name_of formats pair.0) (name_of formats pair.1) []
    (plain-name_of formats pair.0, (plain-name_of formats pair.1, tt)))

-- the canonical files as `csv` writes their records
pub signature_csv-rows : (t : TableView) → signature_csv t ≡ flat_map (row_text default_writer) (signature_records t)
unfolding signature_csv
signature_csv-rows t = stand_text (signature_records t) (header, stand-flat_map (records_of_signature t.formats) t.signatures (signature_stands t.formats))
  where
    header : line_text (codes "puid" ∷ codes "signature" ∷ codes "position" ∷ codes "offset" ∷ codes "max_offset" ∷ codes "expression" ∷ []) ≡ row_text
        default_writer (codes "puid" ∷ codes "signature" ∷ codes "position" ∷ codes "offset" ∷ codes "max_offset" ∷ codes "expression" ∷ [])
    header = sym (plain_row (codes "puid") (codes "signature") (codes "position" ∷ codes "offset" ∷ codes "max_offset" ∷ codes "expression" ∷ [])
        (refl, (refl, (refl, (refl, (refl, (refl, tt)))))))

pub pairs_csv-rows : (formats : List Puid) (pairs : List (ℕ × ℕ)) → pairs_csv formats pairs ≡ flat_map (row_text default_writer) (pair_records formats pairs)
unfolding pairs_csv
pairs_csv-rows formats pairs = stand_text (pair_records formats pairs) (header, stand-map (pair_record formats) pairs (pair_stands formats))
  where
    header : line_text (codes "higher" ∷ codes "lower" ∷ []) ≡ row_text default_writer (codes "higher" ∷ codes "lower" ∷ [])
    header = sym (plain_row (codes "higher") (codes "lower") [] (refl, (refl, tt)))
