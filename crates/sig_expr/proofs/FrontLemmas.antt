-- What a reading has behind it: each front that is read is a front of a text.
use Rattle.std.proofs.Common.{◌≡◌, inl, inr, ℕ, ◌+◌, ◌*◌, ◌/◌, ◌%◌, ◌<◌, ◌≤◌, Bool, true, false, cond, List, [], ◌∷◌, ◌++◌, length, Option, Some, None, refl}
use Rattle.std.proofs.Common.{sym, ◌∙◌, ap, rules, arith, nat_eq, nat_lt, append_assoc, append-nil, length-append}
use Rattle.std.specs.Prelude.{◌&&◌, ⊤}
use Rattle.std.proofs.lemmas.Fmt.{decimal_digit, decimal_step}
use Rattle.std.proofs.lemmas.Bool.Decides.{nat_tests}
use Rattle.hex.specs.Hex.{hex_digit_value}
use Rattle.sig_expr.specs.declared.end.End.{End}
use Rattle.sig_expr.specs.declared.item.Item.{Item}
use Rattle.sig_expr.specs.declared.item.Item.TheVariants as item
use Rattle.sig_expr.specs.declared.item.Atom.{Atom}
use Rattle.sig_expr.specs.declared.item.Atom.TheVariants as atom
use Rattle.sig_expr.specs.declared.lexer.Context.{Context}
use Rattle.sig_expr.specs.declared.lexer.Context.TheVariants as context
use Rattle.sig_expr.specs.declared.lexer.Token.{Token}
use Rattle.sig_expr.specs.declared.lexer.Token.TheVariants as token
use Rattle.sig_expr.specs.declared.lexer.Piece.{Piece}
use Rattle.sig_expr.specs.declared.lexer.Piece.TheVariants as piece
use Rattle.sig_expr.specs.declared.lexer.Step.{Step}
use Rattle.sig_expr.specs.declared.lexer.Step.TheVariants as step
use Rattle.sig_expr.specs.Ends.{empty_end}
use Rattle.sig_expr.specs.Reading.{decimal_of, pair_of, with_digit, part_of, item_start_of, list_start_of, begin_of, number_of, closed_gap_of, star_of, end_of}
use Rattle.sig_expr.specs.Reading.{closed_bracket_of, go_on_of, feed_of, next_of, is_between, is_after, context_of, behind_part}
use Rattle.sig_expr.specs.Passes.{stop_from, stop_at}
use Rattle.sig_expr.specs.Spelling.{PairText, WordText, NumberText, GapText, RangeText, NotText, AtomText, AlternativeText, AlternativesText, ListText}
use Rattle.sig_expr.specs.Spelling.{ItemText, Spells, IsText}
use Rattle.sig_expr.proofs.PairLemmas.{small_digit}
use Rattle.sig_expr.proofs.ScanLemmas.{pair_byte}

-- what opens a bracket
abbrev opening : Bool → List ℕ
opening true = 91 ∷ 33 ∷ []
opening false = 91 ∷ []

-- the front of a bracket before the end that is read
abbrev EndBefore : Bool → Option End → List ℕ → Type 0
EndBefore not None w = w ≡ opening not
EndBefore not (Some f) w = (a u : List ℕ) × (w ≡ opening not ++ (u ++ (58 ∷ []))) × WordText a u × (0 < length a)

-- what is read of a piece
abbrev pub TokenText : Token → List ℕ → Type 0
TokenText token.Between w = w ≡ []
TokenText (token.Half x) w = (h : ℕ) × (w ≡ h ∷ []) × (hex_digit_value h ≡ Some x)
TokenText token.Question w = w ≡ 63 ∷ []
TokenText (token.NumberStart None) w = w ≡ 123 ∷ []
TokenText (token.NumberStart (Some m)) w = (u : List ℕ) × (w ≡ 123 ∷ u ++ (45 ∷ [])) × NumberText m u
TokenText (token.Number None n) w = (u : List ℕ) × (w ≡ 123 ∷ u) × NumberText n u
TokenText (token.Number (Some m) n) w = (u v : List ℕ) × (w ≡ 123 ∷ u ++ (45 ∷ v)) × NumberText m u × NumberText n v
TokenText (token.Star m) w = (u : List ℕ) × (w ≡ 123 ∷ u ++ (45 ∷ 42 ∷ [])) × NumberText m u
TokenText token.Bracket w = w ≡ 91 ∷ []
TokenText (token.EndStart not first) w = EndBefore not first w
TokenText (token.EndHalf not first e x) w = (w' a u : List ℕ) × (h : ℕ) × (w ≡ w' ++ (u ++ h ∷ [])) × EndBefore not first w' × WordText a u
    × (hex_digit_value h ≡ Some x)
TokenText (token.EndPair not first e) w = (w' a u : List ℕ) × (w ≡ w' ++ u) × EndBefore not first w' × WordText a u × (0 < length a)

abbrev Outside : Context → Type 0
Outside context.Start = ⊤
Outside context.After = ⊤
Outside (context.List many some) = ⊥

-- gaps and `??` are outside lists
abbrev pub TokenLegal : Context → Token → Type 0
TokenLegal c token.Between = ⊤
TokenLegal c (token.Half x) = ⊤
TokenLegal c token.Question = Outside c
TokenLegal c (token.NumberStart m) = Outside c
TokenLegal c (token.Number m n) = Outside c
TokenLegal c (token.Star m) = Outside c
TokenLegal c token.Bracket = ⊤
TokenLegal c (token.EndStart n f) = ⊤
TokenLegal c (token.EndHalf n f e h) = ⊤
TokenLegal c (token.EndPair n f e) = ⊤

-- the text of a piece
abbrev PieceText : Piece → List ℕ → Type 0
PieceText (piece.Byte b) w = PairText b w
PieceText piece.Any w = w ≡ 63 ∷ 63 ∷ []
PieceText (piece.Gap min max) w = GapText min max w
PieceText (piece.Range x y) w = (a b : List ℕ) × RangeText (91 ∷ []) a b w
PieceText (piece.Not x) w = (a : List ℕ) × NotText a w
PieceText (piece.NotRange x y) w = (a b : List ℕ) × RangeText (91 ∷ 33 ∷ []) a b w
PieceText piece.Open w = w ≡ 40 ∷ []
PieceText piece.Bar w = w ≡ 124 ∷ []
PieceText piece.Close w = w ≡ 41 ∷ []

abbrev PieceLegal : Context → Piece → Type 0
PieceLegal c (piece.Byte b) = ⊤
PieceLegal c piece.Any = Outside c
PieceLegal c (piece.Gap min max) = Outside c
PieceLegal c (piece.Range x y) = ⊤
PieceLegal c (piece.Not x) = ⊤
PieceLegal c (piece.NotRange x y) = ⊤
PieceLegal c piece.Open = Outside c
PieceLegal c piece.Bar = (many : Bool) × (c ≡ context.List many true)
PieceLegal c piece.Close = c ≡ context.List true true

-- what a step leaves behind it
abbrev pub Good : Context → List ℕ → Step → Type 0
Good c w step.Refused = ⊤
Good c w (step.More k) = TokenText k w × TokenLegal c k
Good c w (step.Whole p) = PieceText p w × PieceLegal c p

good_if : (c : Context) (w : List ℕ) (b : Bool) (x y : Step) → (b ≡ true → Good c w x) → Good c w y → Good c w (cond b x y)
good_if c w true x y f h = f refl
good_if c w false x y f h = h

good_digit : (c : Context) (w : List ℕ) (o : Option ℕ) (f : ℕ → Step) (other : Step) → ((v : ℕ) → o ≡ Some v → Good c w (f v)) → Good c w other
    → Good c w (with_digit o f other)
good_digit c w None f other g h = h
good_digit c w (Some v) f other g h = g v refl

pub is_sign : (b k : ℕ) → nat_eq b k ≡ true → b ≡ k
is_sign b k e = search rules

both_true : (x y : Bool) → (x && y) ≡ true → (x ≡ true) × (y ≡ true)
both_true true y e = (refl, e)
both_true false y e = absurd (cc)

one_sign : (b k : ℕ) → nat_eq b k ≡ true → (b ∷ []) ≡ (k ∷ [])
one_sign b k e = ap (λ (x : ℕ). x ∷ []) (is_sign b k e)

part_good : (c : Context) (b : ℕ) → Good c (b ∷ []) (part_of b)
unfolding part_of
part_good c b = good_digit c _ (hex_digit_value b) _ _ (λ v e. ((b, refl, e), tt)) (good_if c _ (nat_eq b 91) _ _ (λ e. (one_sign b 91 e, tt)) tt)

item_good : (c : Context) (b : ℕ) → Outside c → Good c (b ∷ []) (item_start_of b)
unfolding item_start_of
item_good c b o =
    good_if c _ (nat_eq b 63) _ _ (λ e. (one_sign b 63 e, o))
    (good_if c _ (nat_eq b 42) _ _ (λ e. (inl (one_sign b 42 e, refl), o))
    (good_if c _ (nat_eq b 123) _ _ (λ e. (one_sign b 123 e, o))
    (good_if c _ (nat_eq b 40) _ _ (λ e. (one_sign b 40 e, o)) (part_good c b))))

list_good : (many some : Bool) (b : ℕ) → Good (context.List many some) (b ∷ []) (list_start_of many some b)
unfolding list_start_of
list_good many some b =
    good_if (context.List many some) _ (nat_eq b 124 && some) _ _
    (λ e. let both = both_true (nat_eq b 124) some e in (one_sign b 124 both.0, (many, ap (λ (x : Bool). context.List many x) both.1)))
    (good_if (context.List many some) _ (nat_eq b 41 && (some && many)) _ _
    (λ e. let both = both_true (nat_eq b 41) (some && many) e in let two = both_true some many both.1 in
    (one_sign b 41 both.0, ap (λ (x : Bool). context.List many x) two.0 ∙ ap (λ (x : Bool). context.List x true) two.1))
    (part_good (context.List many some) b))

begin_good : (c : Context) (b : ℕ) → Good c (b ∷ []) (begin_of c b)
unfolding begin_of
begin_good context.Start b = item_good context.Start b tt
begin_good context.After b = item_good context.After b tt
begin_good (context.List many some) b = list_good many some b

decimal_is : (b v : ℕ) → decimal_of b ≡ Some v → (b ≡ 48 + v) × (v < 10)
decimal_is b v e = grind (arith, nat_tests)

one_digit : (b v : ℕ) → decimal_of b ≡ Some v → NumberText v (b ∷ [])
one_digit b v e =
    let d = decimal_is b v e in
    record { digits = rw d.0 (sym (decimal_digit v d.1)); few = omega (arith, d.1) }

more_digits : (n v b : ℕ) (u : List ℕ) → 0 < n → n < 10000 → NumberText n u → decimal_of b ≡ Some v → NumberText (n * 10 + v) (u ++ b ∷ [])
more_digits n v b u low high h e =
    let d = decimal_is b v e in
    let front : (n * 10 + v) / 10 ≡ n = omega (arith, d.1) in
    let digit : (n * 10 + v) % 10 ≡ v = omega (arith, d.1) in
    let text = rw (front, digit) at (decimal_step (n * 10 + v) (omega arith) (omega (arith, d.1))) in
    record { digits = rw (h.digits, d.0) (sym text); few = omega (arith, d.1) }

-- one pair more
word_more : (a u : List ℕ) (b : ℕ) (v : List ℕ) → WordText a u → PairText b v → WordText (a ++ b ∷ []) (u ++ v)
word_more [] u b v h p = rw h (v, [], sym (append-nil v), p, refl)
word_more (x ∷ a) u b v h p = (h.0, h.1 ++ v, ap (λ (w : List ℕ). w ++ v) h.2 ∙ append_assoc h.0 h.1 v, h.3, word_more a h.1 b v h.4 p)

-- a number begins, or the star behind a dash
number_good : (c : Context) (least : Option ℕ) (b : ℕ) (w : List ℕ) → TokenText (token.NumberStart least) w → Outside c
    → Good c (w ++ b ∷ []) (number_of least b)
unfolding number_of
number_good c None b w h o = good_digit c _ (decimal_of b) _ _ (λ v e. ((b ∷ [], rw h refl, one_digit b v e), o)) tt
number_good c (Some m) b w h o =
    good_digit c _ (decimal_of b) _ _ (λ v e. (
      (h.0, b ∷ [], rw h.1 (ap (λ (x : List ℕ). 123 ∷ x) (append_assoc h.0 (45 ∷ []) (b ∷ []))), h.2, one_digit b v e),
      o,
    ))
    (good_if c _ (nat_eq b 42) _ _ (λ e. ((h.0, rw (h.1, is_sign b 42 e) (ap (λ (x : List ℕ). 123 ∷ x) (append_assoc h.0 (45 ∷ []) (42 ∷ []))), h.2), o)) tt)

-- behind a number
gap_good : (c : Context) (least : Option ℕ) (n b : ℕ) (w : List ℕ) → TokenText (token.Number least n) w → Outside c
    → Good c (w ++ b ∷ []) (closed_gap_of least n b)
unfolding closed_gap_of
gap_good c None n b w h o =
    good_if c _ (nat_eq b 125) _ _ (λ e. (inl (h.0, rw (h.1, is_sign b 125 e) refl, h.2, refl), o))
    (good_if c _ (nat_eq b 45) _ _ (λ e. ((h.0, rw (h.1, is_sign b 45 e) refl, h.2), o)) tt)
gap_good c (Some m) n b w h o =
    good_if c _ (nat_eq b 125) _ _ (λ e. (
      inr (
        h.0,
        h.1,
        rw (h.2, is_sign b 125 e) (ap (λ (x : List ℕ). 123 ∷ x) (append_assoc h.0 (45 ∷ h.1) (125 ∷ []))),
        h.3,
        h.4,
      ),
      o,
    )) tt

and_low : (n : ℕ) → (nat_lt 0 n && nat_lt n 10000) ≡ true → (0 < n) × (n < 10000)
and_low n e = let both = both_true (nat_lt 0 n) (nat_lt n 10000) e in
    let low : 0 < n = grind (arith, nat_tests, both.0) in
    let high : n < 10000 = grind (arith, nat_tests, both.1) in
    (low, high)

digit_good : (c : Context) (least : Option ℕ) (n b : ℕ) (w : List ℕ) → TokenText (token.Number least n) w → Outside c → Good c (w ++ b ∷ []) (star_of least n b)
unfolding star_of
digit_good c None n b w h o =
    good_digit c _ (decimal_of b) _ _ (λ v d. good_if c _ (nat_lt 0 n && nat_lt n 10000) _ _
    (λ e. let k = and_low n e in ((h.0 ++ b ∷ [], rw h.1 refl, more_digits n v b h.0 k.0 k.1 h.2 d), o)) tt)
    (gap_good c None n b w h o)
digit_good c (Some m) n b w h o =
    good_digit c _ (decimal_of b) _ _ (λ v d. good_if c _ (nat_lt 0 n && nat_lt n 10000) _ _
    (λ e. let k = and_low n e in (
      (
        h.0,
        h.1 ++ b ∷ [],
        rw h.2 (ap (λ (x : List ℕ). 123 ∷ x) (append_assoc h.0 (45 ∷ h.1) (b ∷ []))),
        h.3,
        more_digits n v b h.1 k.0 k.1 h.4 d,
      ),
      o,
    )) tt)
    (gap_good c (Some m) n b w h o)

-- an end begins
end_good : (c : Context) (not : Bool) (first : Option End) (e : End) (b : ℕ) (w a u : List ℕ) (t : List ℕ) → t ≡ w ++ u → EndBefore not first w → WordText a u
    → Good c (t ++ b ∷ []) (end_of not first e b)
unfolding end_of
end_good c not first e b w a u t q before h =
    good_digit c _ (hex_digit_value b) _ _ (λ v d. ((w, a, u, b, rw q (append_assoc w u (b ∷ [])), before, h, d), tt)) tt

joined : (u v : List ℕ) → ((u ++ 58 ∷ []) ++ v) ++ 93 ∷ [] ≡ u ++ (58 ∷ v ++ (93 ∷ []))
joined u v = append_assoc (u ++ 58 ∷ []) v (93 ∷ []) ∙ append_assoc u (58 ∷ []) (v ++ (93 ∷ []))

digits_pair : (h b x v : ℕ) → hex_digit_value h ≡ Some x → hex_digit_value b ≡ Some v → PairText (pair_of x v) (h ∷ b ∷ [])
digits_pair h b x v p q = record {
  high = h;
  low = b;
  high_value = x;
  low_value = v;
  text = refl;
  is_high = p;
  is_low = q;
  byte =
      pair_byte x v (small_digit h x p) (small_digit b v q);
}

some_more : (a : List ℕ) (b : ℕ) → 0 < length (a ++ b ∷ [])
some_more a b = simp length-append (omega arith)

-- behind a pair of an end
bracket_good : (c : Context) (not : Bool) (first : Option End) (e : End) (b : ℕ) (w : List ℕ) → TokenText (token.EndPair not first e) w
    → Good c (w ++ b ∷ []) (closed_bracket_of not first e b)
unfolding closed_bracket_of
bracket_good c true (Some f) e b w h =
    let k = h.4 in
    good_if c _ (nat_eq b 93) _ _ (λ s. (
      (
        k.0,
        h.1,
        record {
          first = k.1;
          second = h.2;
          text =
              rw (h.3, k.2, is_sign b 93 s) (ap (λ (x : List ℕ). 91 ∷ 33 ∷ x) (joined k.1 h.2));
          is_first = k.3;
          is_second = h.5;
          some_first = k.4;
          some_second =
              h.6;
        },
      ),
      tt,
    ))
    (end_good c true (Some f) e b h.0 h.1 h.2 w h.3 h.4 h.5)
bracket_good c false (Some f) e b w h =
    let k = h.4 in
    good_if c _ (nat_eq b 93) _ _ (λ s. (
      (
        k.0,
        h.1,
        record {
          first = k.1;
          second = h.2;
          text =
              rw (h.3, k.2, is_sign b 93 s) (ap (λ (x : List ℕ). 91 ∷ x) (joined k.1 h.2));
          is_first = k.3;
          is_second = h.5;
          some_first = k.4;
          some_second = h.6;
        },
      ),
      tt,
    ))
    (end_good c false (Some f) e b h.0 h.1 h.2 w h.3 h.4 h.5)
bracket_good c true None e b w h =
    good_if c _ (nat_eq b 93 && true) _ _ (λ s. let both = both_true (nat_eq b 93) true s in
    ((h.1, record { end = h.2; text = rw (h.3, h.4, is_sign b 93 both.0) refl; is_end = h.5; some = h.6 }), tt))
    (good_if c _ (nat_eq b 58) _ _ (λ s. ((h.1, h.2, rw (h.3, h.4, is_sign b 58 s) refl, h.5, h.6), tt))
    (end_good c true None e b h.0 h.1 h.2 w h.3 h.4 h.5))
bracket_good c false None e b w h =
    good_if c _ (nat_eq b 93 && false) _ _ (λ s. let both = both_true (nat_eq b 93) false s in absurd (cc))
    (good_if c _ (nat_eq b 58) _ _ (λ s. ((h.1, h.2, rw (h.3, h.4, is_sign b 58 s) refl, h.5, h.6), tt))
    (end_good c false None e b h.0 h.1 h.2 w h.3 h.4 h.5))

-- a byte inside a piece
go_on_good : (c : Context) (k : Token) (b : ℕ) (w : List ℕ) → TokenText k w → TokenLegal c k → Good c (w ++ b ∷ []) (go_on_of k b)
unfolding go_on_of
go_on_good c token.Between b w h l = tt
go_on_good c (token.Half x) b w h l = good_digit c _ (hex_digit_value b) _ _ (λ v d. (rw h.1 (digits_pair h.0 b x v h.2 d), tt)) tt
go_on_good c token.Question b w h l = good_if c _ (nat_eq b 63) _ _ (λ e. (rw (h, is_sign b 63 e) refl, l)) tt
go_on_good c (token.NumberStart m) b w h l = number_good c m b w h l
go_on_good c (token.Number m n) b w h l = digit_good c m n b w h l
go_on_good c (token.Star m) b w h l = good_if c _ (nat_eq b 125) _ _
    (λ e. (inr (h.0, rw (h.1, is_sign b 125 e) (ap (λ (x : List ℕ). 123 ∷ x) (append_assoc h.0 (45 ∷ 42 ∷ []) (125 ∷ []))), h.2), l)) tt
go_on_good c token.Bracket b w h l =
    good_if c _ (nat_eq b 33) _ _ (λ e. (rw (h, is_sign b 33 e) refl, tt))
    (end_good c false None empty_end b w [] [] w (sym (append-nil w)) h refl)
go_on_good c (token.EndStart not first) b w h l = end_good c not first empty_end b w [] [] w (sym (append-nil w)) h refl
go_on_good c (token.EndHalf not first e x) b w h l =
    good_digit c _ (hex_digit_value b) _ _ (λ v d. (
      (
        h.0,
        h.1 ++ pair_of x v ∷ [],
        h.2 ++ (h.3 ∷ b ∷ []),
        rw h.4 (append_assoc h.0 (h.2 ++ h.3 ∷ []) (b ∷ []) ∙ ap (λ (y : List ℕ). h.0 ++ y) (append_assoc h.2 (h.3 ∷ []) (b ∷ []))),
        h.5,
        word_more h.1 h.2 (pair_of x v) (h.3 ∷ b ∷ []) h.6 (digits_pair h.3 b x v h.7 d),
        some_more h.1 (pair_of x v),
      ),
      tt,
    )) tt
go_on_good c (token.EndPair not first e) b w h l = bracket_good c not first e b w h

-- what stands before the next alternative: the bracket of the list, or a bar
abbrev sign_of : ℕ → List (List Atom) → ℕ
sign_of s [] = s
sign_of s (a ∷ as') = 124

-- what is read of a text up to the end of a piece
abbrev Reached : Context → List ℕ → Type 0
Reached context.Start x = x ≡ []
Reached context.After x = (e : List Item) × (0 < length e) × Spells e x
Reached (context.List many some) x =
    (e : List Item) × (as' : List (List Atom)) × (a : List Atom) × (y z v : List ℕ) × (x ≡ y ++ (z ++ sign_of 40 as' ∷ v)) × Spells e y
    × AlternativesText (40 ∷ []) as' z × AlternativeText a v × (some ≡ true → 0 < length a) × (many ≡ true → 0 < length as')

spells_more : (e : List Item) (x : List ℕ) (i : Item) (w : List ℕ) → Spells e x → ItemText i w → Spells (e ++ i ∷ []) (x ++ w)
spells_more [] x i w h k = rw h (w, [], sym (append-nil w), k, refl)
spells_more (j ∷ e) x i w h k = (h.0, h.1 ++ w, ap (λ (y : List ℕ). y ++ w) h.2 ∙ append_assoc h.0 h.1 w, h.3, spells_more e h.1 i w h.4 k)

parts_more : (a : List Atom) (v : List ℕ) (p : Atom) (w : List ℕ) → AlternativeText a v → AtomText p w → AlternativeText (a ++ p ∷ []) (v ++ w)
parts_more [] v p w h k = rw h (w, [], sym (append-nil w), k, refl)
parts_more (q ∷ a) v p w h k = (h.0, h.1 ++ w, ap (λ (y : List ℕ). y ++ w) h.2 ∙ append_assoc h.0 h.1 w, h.3, parts_more a h.1 p w h.4 k)

sign_bar : (as' : List (List Atom)) → sign_of 124 as' ≡ 124
sign_bar [] = refl
sign_bar (a ∷ as') = refl

sign_more : (as' : List (List Atom)) (a : List Atom) → sign_of 40 (as' ++ a ∷ []) ≡ 124
sign_more [] a = refl
sign_more (b ∷ as') a = refl

alternatives_more : (s : ℕ) (as' : List (List Atom)) (z : List ℕ) (a : List Atom) (v : List ℕ) → AlternativesText (s ∷ []) as' z → 0 < length a
    → AlternativeText a v → AlternativesText (s ∷ []) (as' ++ a ∷ []) (z ++ sign_of s as' ∷ v)
alternatives_more s [] z a v h some k = rw h (v, [], ap (λ (y : List ℕ). s ∷ y) (sym (append-nil v)), some, k, refl)
alternatives_more s (b ∷ as') z a v h some k = (
  h.0,
  h.1 ++ (sign_of 124 as' ∷ v),
  rw (h.2, sign_bar as') (ap (λ (y : List ℕ). s ∷ y) (append_assoc h.0 h.1 (124 ∷ v))),
  h.3,
  h.4,
  alternatives_more 124 as' h.1 a v h.5 some k,
)

some_item : (e : List Item) (i : Item) → 0 < length (e ++ i ∷ [])
some_item e i = simp length-append (omega arith)

some_atom : (a : List Atom) (p : Atom) → 0 < length (a ++ p ∷ [])
some_atom a p = simp length-append (omega arith)

some_list : (as' : List (List Atom)) (a : List Atom) → 0 < length (as' ++ a ∷ [])
some_list as' a = simp length-append (omega arith)

two_lists : (as' : List (List Atom)) (a : List Atom) → 0 < length as' → 2 ≤ length (as' ++ a ∷ [])
two_lists as' a h = simp length-append (omega arith)

-- an item outside lists
reached_item : (c : Context) (x : List ℕ) (i : Item) (w : List ℕ) → Outside c → Reached c x → ItemText i w → Reached (behind_part c) (x ++ w)
reached_item context.Start x i w o h k = rw h (i ∷ [], omega arith, (w, [], sym (append-nil w), k, refl))
reached_item context.After x i w o h k = (h.0 ++ i ∷ [], some_item h.0 i, spells_more h.0 x i w h.2 k)
reached_item (context.List m s) x i w o h k = absurd o

-- a part, in a list or not
reached_part : (c : Context) (x : List ℕ) (i : Item) (p : Atom) (w : List ℕ) → Reached c x → ItemText i w → AtomText p w → Reached (behind_part c) (x ++ w)
reached_part context.Start x i p w h k q = reached_item context.Start x i w tt h k
reached_part context.After x i p w h k q = reached_item context.After x i w tt h k
reached_part (context.List m s) x i p w h k q = (
  h.0,
  h.1,
  h.2 ++ p ∷ [],
  h.3,
  h.4,
  h.5 ++ w,
  rw h.6 (append_assoc h.3 (h.4 ++ sign_of 40 h.1 ∷ h.5) w ∙ ap (λ (y : List ℕ). h.3 ++ y)
      (append_assoc h.4 (sign_of 40 h.1 ∷ h.5) w)),
  h.7,
  h.8,
  parts_more h.2 h.5 p w h.9 q,
  (λ e. some_atom h.2 p),
  h.11,
)

never : {P : Type 0} → false ≡ true → P
never e = absurd (cc)

reached_open : (c : Context) (x w : List ℕ) → Outside c → Reached c x → w ≡ 40 ∷ [] → Reached (context.List false false) (x ++ w)
reached_open context.Start x w o h k = rw (h, k) ([], [], [], [], [], [], refl, refl, refl, refl, (λ e. never e), (λ e. never e))
reached_open context.After x w o h k = rw k (h.0, [], [], x, [], [], refl, h.2, refl, refl, (λ e. never e), (λ e. never e))
reached_open (context.List m s) x w o h k = absurd o

reached_bar : (many : Bool) (x w : List ℕ) → Reached (context.List many true) x → w ≡ 124 ∷ [] → Reached (context.List true false) (x ++ w)
reached_bar many x w h k = (
  h.0,
  h.1 ++ h.2 ∷ [],
  [],
  h.3,
  h.4 ++ sign_of 40 h.1 ∷ h.5,
  [],
  rw (h.6, k, sign_more h.1 h.2) (append_assoc h.3 (h.4 ++ sign_of 40 h.1 ∷ h.5) (124 ∷ [])),
  h.7,
  alternatives_more 40 h.1 h.4 h.2 h.5 h.8 (h.10 refl) h.9,
  refl,
  (λ e. never e),
  (λ e. some_list h.1 h.2),
)

reached_close : (x w : List ℕ) → Reached (context.List true true) x → w ≡ 41 ∷ [] → Reached context.After (x ++ w)
reached_close x w h k =
    let inside = h.4 ++ sign_of 40 h.1 ∷ h.5 in
    let list : ListText (h.1 ++ h.2 ∷ []) (inside ++ (41 ∷ [])) =
    record { inside = inside; text = refl; is_inside = alternatives_more 40 h.1 h.4 h.2 h.5 h.8 (h.10 refl) h.9; two = two_lists h.1 h.2 (h.11 refl) } in
    let text : x ++ w ≡ h.3 ++ (inside ++ (41 ∷ [])) = rw (h.6, k) (append_assoc h.3 inside (41 ∷ [])) in
    (h.0 ++ item.Alt (h.1 ++ h.2 ∷ []) ∷ [], some_item h.0 _, rw text (spells_more h.0 h.3 (item.Alt (h.1 ++ h.2 ∷ [])) (inside ++ (41 ∷ [])) h.7 list))

-- a piece more is read
reached_piece : (c : Context) (p : Piece) (x w : List ℕ) → Reached c x → PieceText p w → PieceLegal c p → Reached (context_of c p) (x ++ w)
reached_piece c (piece.Byte b) x w h k l = reached_part c x (item.Byte b) (atom.Byte b) w h k k
reached_piece c piece.Any x w h k l = reached_item c x item.Any w l h k
reached_piece c (piece.Gap min max) x w h k l = reached_item c x (item.Gap min max) w l h k
reached_piece c (piece.Range f g) x w h k l = reached_part c x (item.Range k.0 k.1) (atom.Range k.0 k.1) w h k.2 k.2
reached_piece c (piece.Not f) x w h k l = reached_part c x (item.Not k.0) (atom.Not k.0) w h k.1 k.1
reached_piece c (piece.NotRange f g) x w h k l = reached_part c x (item.NotRange k.0 k.1) (atom.NotRange k.0 k.1) w h k.2 k.2
reached_piece c piece.Open x w h k l = reached_open c x w l h k
reached_piece c piece.Bar x w h k l = reached_bar l.0 x w (rw l.1 at h) k
reached_piece c piece.Close x w h k l = reached_close x w (rw l at h) k

pub feed_good : (c : Context) (k : Token) (b : ℕ) (w : List ℕ) → TokenText k w → TokenLegal c k
    → Good c (w ++ b ∷ []) (feed_of (record { context = c; token = k }) b)
unfolding feed_of
feed_good c token.Between b w h l = rw h (begin_good c b)
feed_good c (token.Half x) b w h l = go_on_good c (token.Half x) b w h l
feed_good c token.Question b w h l = go_on_good c token.Question b w h l
feed_good c (token.NumberStart m) b w h l = go_on_good c (token.NumberStart m) b w h l
feed_good c (token.Number m n) b w h l = go_on_good c (token.Number m n) b w h l
feed_good c (token.Star m) b w h l = go_on_good c (token.Star m) b w h l
feed_good c token.Bracket b w h l = go_on_good c token.Bracket b w h l
feed_good c (token.EndStart not f) b w h l = go_on_good c (token.EndStart not f) b w h l
feed_good c (token.EndHalf not f e x) b w h l = go_on_good c (token.EndHalf not f e x) b w h l
feed_good c (token.EndPair not f e) b w h l = go_on_good c (token.EndPair not f e) b w h l

-- what stands at the end of a text
is_text_end : (c : Context) (k : Token) (x w : List ℕ) → is_after c ≡ true → is_between k ≡ true → Reached c x → TokenText k w → IsText (x ++ (w ++ []))
is_text_end context.Start k x w p q h g = never p
is_text_end (context.List m s) k x w p q h g = never p
is_text_end context.After token.Between x w p q h g = rw (g, append-nil x) h
is_text_end context.After (token.Half v) x w p q h g = never q
is_text_end context.After token.Question x w p q h g = never q
is_text_end context.After (token.NumberStart m) x w p q h g = never q
is_text_end context.After (token.Number m n) x w p q h g = never q
is_text_end context.After (token.Star m) x w p q h g = never q
is_text_end context.After token.Bracket x w p q h g = never q
is_text_end context.After (token.EndStart n f) x w p q h g = never q
is_text_end context.After (token.EndHalf n f e v) x w p q h g = never q
is_text_end context.After (token.EndPair n f e) x w p q h g = never q

-- what is read on to the end is a text
abbrev ReadsOn : List ℕ → Type 0
ReadsOn t = (c : Context) (k : Token) (x w : List ℕ) (n : ℕ) → Reached c x → TokenText k w → TokenLegal c k
    → stop_from (record { context = c; token = k }) n t ≡ None → IsText (x ++ (w ++ t))

end_if : (b : Bool) (n : ℕ) → cond b None (Some n) ≡ None → b ≡ true
end_if true n e = refl
end_if false n e = absurd (cc)

is_text_at : (s : Step) (t : List ℕ) → ReadsOn t → (c : Context) (k : Token) (x w : List ℕ) (b n : ℕ) → Reached c x → Good c (w ++ b ∷ []) s
    → stop_at s n (stop_from (next_of (record { context = c; token = k }) s) (n + 1) t) ≡ None → IsText (x ++ (w ++ b ∷ t))
is_text_at step.Refused t later c k x w b n h g e = absurd (cc)
is_text_at (step.More k') t later c k x w b n h g e = rw (← append_assoc w (b ∷ []) t) (later c k' x (w ++ b ∷ []) (n + 1) h g.0 g.1 e)
is_text_at (step.Whole p) t later c k x w b n h g e =
    rw (← append_assoc w (b ∷ []) t, ← append_assoc x (w ++ b ∷ []) t)
    (later (context_of c p) token.Between (x ++ (w ++ b ∷ [])) [] (n + 1) (reached_piece c p x (w ++ b ∷ []) h g.0 g.1) refl tt e)

reads_on : (t : List ℕ) → ReadsOn t
unfolding stop_from
reads_on [] c k x w n h g l e = let both = both_true (is_after c) (is_between k) (end_if _ n e) in is_text_end c k x w both.0 both.1 h g
reads_on (b ∷ t) c k x w n h g l e = is_text_at (feed_of (record { context = c; token = k }) b) t (reads_on t) c k x w b n h (feed_good c k b w g l) e

-- a text in which no byte is refused spells an item or more
pub stops_nowhere : (t : List ℕ) → stop_from (record { context = context.Start; token = token.Between }) 0 t ≡ None → IsText t
stops_nowhere t e = reads_on t context.Start token.Between [] [] 0 refl refl tt e
