-- The texts of pieces are read.
use Rattle.std.proofs.Common.{◌≡◌, ◌⊎◌, inl, inr, ℕ, ◌+◌, ◌*◌, ◌/◌, ◌%◌, ◌<◌, ◌≤◌, Bool, true, false, List, [], ◌∷◌, ◌++◌, length, map, Option, Some, None}
use Rattle.std.proofs.Common.{refl, sym, ◌∙◌, ap, rules, arith, nat_eq, nat_lt, append_assoc}
use Rattle.std.proofs.lemmas.Fmt.{decimal_by_steps}
use Rattle.std.proofs.lemmas.Bool.Decides.{nat_tests}
use Rattle.hex.specs.Hex.{hex_digit_value}
use Rattle.sig_expr.specs.declared.end.End.{End}
use Rattle.sig_expr.specs.declared.item.Item.{Item}
use Rattle.sig_expr.specs.declared.item.Item.TheVariants as item
use Rattle.sig_expr.specs.declared.item.Atom.{Atom}
use Rattle.sig_expr.specs.declared.item.Atom.TheVariants as atom
use Rattle.sig_expr.specs.declared.lexer.Context.{Context}
use Rattle.sig_expr.specs.declared.lexer.Context.TheVariants as context
use Rattle.sig_expr.specs.declared.lexer.Token.{Token}
use Rattle.sig_expr.specs.declared.lexer.Token.TheVariants as token
use Rattle.sig_expr.specs.declared.lexer.State.{State}
use Rattle.sig_expr.specs.declared.lexer.Piece.{Piece}
use Rattle.sig_expr.specs.declared.lexer.Piece.TheVariants as piece
use Rattle.sig_expr.specs.declared.lexer.Step.{Step}
use Rattle.sig_expr.specs.declared.lexer.Step.TheVariants as step
use Rattle.sig_expr.specs.Ends.{empty_end, push_of}
use Rattle.sig_expr.specs.Reading.{decimal_of, pair_of, part_of, item_start_of, list_start_of, begin_of, number_of, closed_gap_of, star_of, end_of}
use Rattle.sig_expr.specs.Reading.{closed_bracket_of, go_on_of, feed_of, next_of, is_between, context_of, behind_part}
use Rattle.sig_expr.specs.Spelling.{PairText, WordText, NumberText, GapText, RangeText, NotText, AtomText, AlternativeText, AlternativesText, ListText}
use Rattle.sig_expr.specs.Spelling.{ItemText, Spells}
use Rattle.sig_expr.proofs.PairLemmas.{small_digit}
use Rattle.sig_expr.proofs.Scans.{run, run_at, pieces, pieces_in, Scans, end_after, end_of_word, piece_of, barred, listed, pieces_of, all_pieces}

abbrev pub at : Context → Token → State
at c k = record { context = c; token = k }

pub scans_nothing : (s : State) → Scans s [] [] s
unfolding run pieces
scans_nothing s = record { ran = refl; found = refl }

pub scans_more : (s : State) (b : ℕ) (k : Token) (t : List ℕ) (ps : List Piece) (z : State) → feed_of s b ≡ step.More k → Scans (at s.context k) t ps z
    → Scans s (b ∷ t) ps z
unfolding run pieces
scans_more s b k t ps z e h = record { ran = rw e h.ran; found = rw e h.found }

pub scans_whole : (s : State) (b : ℕ) (p : Piece) (t : List ℕ) (ps : List Piece) (z : State) → feed_of s b ≡ step.Whole p
    → Scans (at (context_of s.context p) token.Between) t ps z → Scans s (b ∷ t) (p ∷ ps) z
unfolding run pieces
scans_whole s b p t ps z e h = record { ran = rw e h.ran; found = rw e (ap (λ (x : List Piece). p ∷ x) h.found) }

run_append : (s : State) (t u : List ℕ) (y : State) → run s t ≡ Some y → run s (t ++ u) ≡ run y u
unfolding run
run_append s [] u y e = cc
run_append s (b ∷ t) u y e = run_append_at (feed_of s b) (next_of s (feed_of s b)) t u y e (run_append (next_of s (feed_of s b)) t u y)
  where
    run_append_at : (k : Step) (s' : State) (t u : List ℕ) (y : State) → run_at k (run s' t) ≡ Some y → (run s' t ≡ Some y → run s' (t ++ u) ≡ run y u)
        → run_at k (run s' (t ++ u)) ≡ run y u
    run_append_at step.Refused s' t u y e h = cc
    run_append_at (step.More k) s' t u y e h = h e
    run_append_at (step.Whole p) s' t u y e h = h e

pieces_append : (s : State) (t u : List ℕ) (y : State) → run s t ≡ Some y → pieces s (t ++ u) ≡ pieces s t ++ pieces y u
unfolding run pieces
pieces_append s [] u y e = cc
pieces_append s (b ∷ t) u y e = pieces_append_at (feed_of s b) (next_of s (feed_of s b)) t u y e (pieces_append (next_of s (feed_of s b)) t u y)
  where
    pieces_append_at : (k : Step) (s' : State) (t u : List ℕ) (y : State) → run_at k (run s' t) ≡ Some y
        → (run s' t ≡ Some y → pieces s' (t ++ u) ≡ pieces s' t ++ pieces y u) → pieces_in k ++ pieces s' (t ++ u) ≡ (pieces_in k ++ pieces s' t) ++ pieces y u
    pieces_append_at step.Refused s' t u y e h = cc
    pieces_append_at (step.More k) s' t u y e h = h e
    pieces_append_at (step.Whole p) s' t u y e h = ap (λ (x : List Piece). p ∷ x) (h e)

-- one front is read, and then another
pub scans_append : (s : State) (t : List ℕ) (ps : List Piece) (y : State) (u : List ℕ) (qs : List Piece) (z : State) → Scans s t ps y → Scans y u qs z
    → Scans s (t ++ u) (ps ++ qs) z
scans_append s t ps y u qs z g h = record {
  ran = run_append s t u y g.ran ∙ h.ran;
  found = pieces_append s t u y g.ran ∙ rw (g.found, h.found) refl;
}

-- a sign is no digit
pub not_digit : (h x k : ℕ) → hex_digit_value h ≡ Some x → hex_digit_value k ≡ None → nat_eq h k ≡ false
not_digit h x k e n = not_eq (nat_eq h k) refl
  where
    not_eq : (b : Bool) → nat_eq h k ≡ b → b ≡ false
    not_eq false q = refl
    not_eq true q = let same : h ≡ k = search rules in cc

pub begin_digit : (c : Context) (h x : ℕ) → hex_digit_value h ≡ Some x → begin_of c h ≡ step.More (token.Half x)
unfolding begin_of item_start_of list_start_of part_of
begin_digit context.Start h x e = rw (not_digit h x 63 e refl, not_digit h x 42 e refl, not_digit h x 123 e refl, not_digit h x 40 e refl, e) refl
begin_digit context.After h x e = rw (not_digit h x 63 e refl, not_digit h x 42 e refl, not_digit h x 123 e refl, not_digit h x 40 e refl, e) refl
begin_digit (context.List many some) h x e = rw (not_digit h x 124 e refl, not_digit h x 41 e refl, e) refl

begin_bracket : (c : Context) → begin_of c 91 ≡ step.More token.Bracket
unfolding begin_of item_start_of list_start_of part_of
begin_bracket context.Start = refl
begin_bracket context.After = refl
begin_bracket (context.List many some) = refl

pub pair_byte : (x y : ℕ) → x < 16 → y < 16 → pair_of x y ≡ x * 16 + y
pair_byte x y h k = omega arith

-- a pair is read
pair_scans : (c : Context) (b : ℕ) (t : List ℕ) → PairText b t → Scans (at c token.Between) t (piece.Byte b ∷ []) (at (behind_part c) token.Between)
unfolding feed_of go_on_of
pair_scans c b t p =
    let same : b ≡ pair_of p.high_value p.low_value = p.byte ∙ sym
    (pair_byte p.high_value p.low_value (small_digit p.high p.high_value p.is_high) (small_digit p.low p.low_value p.is_low)) in
    rw (p.text, same)
    (scans_more _ p.high (token.Half p.high_value) _ _ _ (begin_digit c _ _ p.is_high)
    (scans_whole _ p.low (piece.Byte (pair_of p.high_value p.low_value)) _ _ _ (rw p.is_low refl) (scans_nothing _)))

bracket_digit : (not : Bool) (first : Option End) (e : End) (h x : ℕ) → hex_digit_value h ≡ Some x
    → closed_bracket_of not first e h ≡ step.More (token.EndHalf not first e x)
unfolding closed_bracket_of end_of
bracket_digit not None e h x q = rw (not_digit h x 93 q refl, not_digit h x 58 q refl, q) refl
bracket_digit not (Some f) e h x q = rw (not_digit h x 93 q refl, q) refl

same_byte : (b : ℕ) (t : List ℕ) (p : PairText b t) → b ≡ pair_of p.high_value p.low_value
same_byte b t p = p.byte ∙ sym (pair_byte p.high_value p.low_value (small_digit p.high p.high_value p.is_high) (small_digit p.low p.low_value p.is_low))

-- a pair of an end is read, behind what lets an end go on
end_pair_scans : (c : Context) (k : Token) (not : Bool) (first : Option End) (e : End) → is_between k ≡ false
    → ((h x : ℕ) → hex_digit_value h ≡ Some x → go_on_of k h ≡ step.More (token.EndHalf not first e x)) → (b : ℕ) (t : List ℕ) → PairText b t
    → Scans (at c k) t [] (at c (token.EndPair not first (push_of e b)))
unfolding feed_of go_on_of
end_pair_scans c k not first e inside goes b t p =
    rw (p.text, same_byte b t p)
    (scans_more _ p.high (token.EndHalf not first e p.high_value) _ _ _ (rw inside (goes _ _ p.is_high))
    (scans_more _ p.low (token.EndPair not first (push_of e (pair_of p.high_value p.low_value))) _ _ _ (rw p.is_low refl) (scans_nothing _)))

-- the pairs of an end are read on
word_scans : (c : Context) (not : Bool) (first : Option End) (e : End) (w t : List ℕ) → WordText w t
    → Scans (at c (token.EndPair not first e)) t [] (at c (token.EndPair not first (end_after e w)))
unfolding go_on_of
word_scans c not first e [] t h = rw h (scans_nothing _)
word_scans c not first e (b ∷ bs) t h =
    rw h.2 (scans_append _ h.0 [] _ h.1 [] _ (end_pair_scans c _ not first e refl (λ d x q. bracket_digit not first e d x q) b h.0 h.3)
    (word_scans c not first (push_of e b) bs h.1 h.4))

-- an end is read, behind what lets it begin
first_scans : (c : Context) (k : Token) (not : Bool) (first : Option End) → is_between k ≡ false
    → ((h x : ℕ) → hex_digit_value h ≡ Some x → go_on_of k h ≡ step.More (token.EndHalf not first empty_end x)) → (w t : List ℕ) → 0 < length w → WordText w t
    → Scans (at c k) t [] (at c (token.EndPair not first (end_of_word w)))
first_scans c k not first inside goes [] t some h = absurd (omega arith)
first_scans c k not first inside goes (b ∷ bs) t some h =
    rw h.2 (scans_append _ h.0 [] _ h.1 [] _ (end_pair_scans c k not first empty_end inside goes b h.0 h.3)
    (word_scans c not first (push_of empty_end b) bs h.1 h.4))

start_digit : (not : Bool) (first : Option End) (h x : ℕ) → hex_digit_value h ≡ Some x
    → go_on_of (token.EndStart not first) h ≡ step.More (token.EndHalf not first empty_end x)
unfolding go_on_of end_of
start_digit not first h x q = rw q refl

open_digit : (h x : ℕ) → hex_digit_value h ≡ Some x → go_on_of token.Bracket h ≡ step.More (token.EndHalf false None empty_end x)
unfolding go_on_of end_of
open_digit h x q = rw (not_digit h x 33 q refl, q) refl

-- what closes a bracket
abbrev range_piece : Bool → End → End → Piece
range_piece true a b = piece.NotRange a b
range_piece false a b = piece.Range a b

-- behind the first end: the colon, the second end, and what closes the bracket
second_scans : (c : Context) (not : Bool) (a b u : List ℕ) → 0 < length b → WordText b u
    → Scans (at c (token.EndPair not None (end_of_word a))) (58 ∷ u ++ (93 ∷ [])) (range_piece not (end_of_word a) (end_of_word b) ∷ [])
    (at (behind_part c) token.Between)
unfolding feed_of go_on_of closed_bracket_of
second_scans c true a b u some h =
    scans_more _ 58 (token.EndStart true (Some (end_of_word a))) _ _ _ refl
    (scans_append _ u [] _ (93 ∷ []) _ _ (first_scans c _ true (Some (end_of_word a)) refl (start_digit true (Some (end_of_word a))) b u some h)
    (scans_whole _ 93 (piece.NotRange (end_of_word a) (end_of_word b)) [] [] _ refl (scans_nothing _)))
second_scans c false a b u some h =
    scans_more _ 58 (token.EndStart false (Some (end_of_word a))) _ _ _ refl
    (scans_append _ u [] _ (93 ∷ []) _ _ (first_scans c _ false (Some (end_of_word a)) refl (start_digit false (Some (end_of_word a))) b u some h)
    (scans_whole _ 93 (piece.Range (end_of_word a) (end_of_word b)) [] [] _ refl (scans_nothing _)))

-- a range is read
pub range_scans : (c : Context) (a b t : List ℕ) → RangeText (91 ∷ []) a b t
    → Scans (at c token.Between) t (piece.Range (end_of_word a) (end_of_word b) ∷ []) (at (behind_part c) token.Between)
unfolding feed_of
range_scans c a b t h =
    rw h.text (scans_more _ 91 token.Bracket _ _ _ (begin_bracket c)
    (scans_append _ h.first [] _ _ _ _ (first_scans c _ false None refl open_digit a h.first h.some_first h.is_first)
    (second_scans c false a b h.second h.some_second h.is_second)))

-- a range that is excluded is read
pub not_range_scans : (c : Context) (a b t : List ℕ) → RangeText (91 ∷ 33 ∷ []) a b t
    → Scans (at c token.Between) t (piece.NotRange (end_of_word a) (end_of_word b) ∷ []) (at (behind_part c) token.Between)
unfolding feed_of go_on_of
not_range_scans c a b t h =
    rw h.text (scans_more _ 91 token.Bracket _ _ _ (begin_bracket c)
    (scans_more _ 33 (token.EndStart true None) _ _ _ refl
    (scans_append _ h.first [] _ _ _ _ (first_scans c _ true None refl (start_digit true None) a h.first h.some_first h.is_first)
    (second_scans c true a b h.second h.some_second h.is_second))))

-- a word that is excluded is read
pub not_scans : (c : Context) (a t : List ℕ) → NotText a t → Scans (at c token.Between) t (piece.Not (end_of_word a) ∷ []) (at (behind_part c) token.Between)
unfolding feed_of go_on_of closed_bracket_of
not_scans c a t h =
    rw h.text (scans_more _ 91 token.Bracket _ _ _ (begin_bracket c)
    (scans_more _ 33 (token.EndStart true None) _ _ _ refl
    (scans_append _ h.end [] _ _ _ _ (first_scans c _ true None refl (start_digit true None) a h.end h.some h.is_end)
    (scans_whole _ 93 (piece.Not (end_of_word a)) [] [] _ refl (scans_nothing _)))))

-- a part is read
pub atom_scans : (c : Context) (p : Atom) (t : List ℕ) → AtomText p t → Scans (at c token.Between) t (piece_of p ∷ []) (at (behind_part c) token.Between)
atom_scans c (atom.Byte b) t h = pair_scans c b t h
atom_scans c (atom.Range a b) t h = range_scans c a b t h
atom_scans c (atom.Not a) t h = not_scans c a t h
atom_scans c (atom.NotRange a b) t h = not_range_scans c a b t h

-- parts are read on
parts_scans : (many : Bool) (ps : List Atom) (t : List ℕ) → AlternativeText ps t
    → Scans (at (context.List many true) token.Between) t (map piece_of ps) (at (context.List many true) token.Between)
parts_scans many [] t h = rw h (scans_nothing _)
parts_scans many (p ∷ ps) t h = rw h.2 (scans_append _ h.0 _ _ h.1 _ _ (atom_scans (context.List many true) p h.0 h.3) (parts_scans many ps h.1 h.4))

-- an alternative is read
pub alternative_scans : (many : Bool) (ps : List Atom) (t : List ℕ) → 0 < length ps → AlternativeText ps t
    → Scans (at (context.List many false) token.Between) t (map piece_of ps) (at (context.List many true) token.Between)
alternative_scans many [] t some h = absurd (omega arith)
alternative_scans many (p ∷ ps) t some h = rw h.2 (scans_append _ h.0 _ _ h.1 _ _ (atom_scans (context.List many false) p h.0 h.3)
    (parts_scans many ps h.1 h.4))

-- alternatives behind bars are read
bars_scan : (as' : List (List Atom)) (t : List ℕ) → AlternativesText (124 ∷ []) as' t
    → Scans (at (context.List true true) token.Between) t (barred as') (at (context.List true true) token.Between)
unfolding feed_of begin_of list_start_of
bars_scan [] t h = rw h (scans_nothing _)
bars_scan (a ∷ rest) t h =
    rw h.2 (scans_whole _ 124 piece.Bar _ _ _ refl
    (scans_append _ h.0 _ _ h.1 _ _ (alternative_scans true a h.0 h.3 h.4) (bars_scan rest h.1 h.5)))

-- the second alternative and those behind it
more_scan : (as' : List (List Atom)) (t : List ℕ) → 0 < length as' → AlternativesText (124 ∷ []) as' t
    → Scans (at (context.List false true) token.Between) t (barred as') (at (context.List true true) token.Between)
unfolding feed_of begin_of list_start_of
more_scan [] t some h = absurd (omega arith)
more_scan (a ∷ rest) t some h =
    rw h.2 (scans_whole _ 124 piece.Bar _ _ _ refl
    (scans_append _ h.0 _ _ h.1 _ _ (alternative_scans true a h.0 h.3 h.4) (bars_scan rest h.1 h.5)))

abbrev pub IsOutside : Context → Type 0
IsOutside context.Start = Unit {0}
IsOutside context.After = Unit {0}
IsOutside (context.List many some) = ⊥

-- the first alternative of a list, and those behind it
list_parts_scan : (a : List Atom) (rest : List (List Atom)) (u v : List ℕ) → 0 < length a → 0 < length rest → AlternativeText a u
    → AlternativesText (124 ∷ []) rest v → Scans (at (context.List false false) token.Between) (u ++ (v ++ (41 ∷ [])))
    (map piece_of a ++ (barred rest ++ (piece.Close ∷ []))) (at context.After token.Between)
unfolding feed_of begin_of list_start_of
list_parts_scan a rest u v some two h k =
    scans_append _ u _ _ _ _ _ (alternative_scans false a u some h)
    (scans_append _ v _ _ _ _ _ (more_scan rest v two k) (scans_whole _ 41 piece.Close _ _ _ refl (scans_nothing _)))

-- a list is read
list_scans : (c : Context) → IsOutside c → (as' : List (List Atom)) (t : List ℕ) → ListText as' t
    → Scans (at c token.Between) t (listed as') (at context.After token.Between)
unfolding feed_of begin_of item_start_of
list_scans (context.List m s) outside as' t h = absurd outside
list_scans c outside [] t h = absurd (omega (arith, h.two))
list_scans context.Start outside (a ∷ rest) t h =
    let k = h.is_inside in
    rw (h.text, k.2) (scans_whole _ 40 piece.Open _ _ _ refl (rw (append_assoc k.0 k.1 (41 ∷ []))
    (list_parts_scan a rest k.0 k.1 k.3 (omega (arith, h.two)) k.4 k.5)))
list_scans context.After outside (a ∷ rest) t h =
    let k = h.is_inside in
    rw (h.text, k.2) (scans_whole _ 40 piece.Open _ _ _ refl (rw (append_assoc k.0 k.1 (41 ∷ []))
    (list_parts_scan a rest k.0 k.1 k.3 (omega (arith, h.two)) k.4 k.5)))

pub below : (a b : ℕ) → (a < b) ⊎ (b ≤ a)
below a b = below_by (nat_lt a b) refl
  where
    below_by : (x : Bool) → nat_lt a b ≡ x → (a < b) ⊎ (b ≤ a)
    below_by true e = inl (grind (arith, nat_tests))
    below_by false e = inr (grind (arith, nat_tests))

pub either : {P Q : Type 0} {C : Type 0} → P ⊎ Q → (P → C) → (Q → C) → C
either (inl p) f g = f p
either (inr q) f g = g q

-- a number is read of this text
abbrev Reads : ℕ → List ℕ → Type 0
Reads n t = n < 100000 → (c : Context) (least : Option ℕ) → Scans (at c (token.NumberStart least)) t [] (at c (token.Number least n))

digit_of : (v : ℕ) → v < 10 → decimal_of (48 + v) ≡ Some v
digit_of v h = grind (arith, nat_tests)

digit_reads : (n : ℕ) → n < 10 → Reads n ((48 + n) ∷ [])
unfolding feed_of go_on_of number_of
digit_reads n h few c least = scans_more _ (48 + n) (token.Number least n) _ _ _ (rw (digit_of n h) refl) (scans_nothing _)

-- a digit more is read
more_reads : (n : ℕ) (t : List ℕ) → 10 ≤ n → Reads (n / 10) t → Reads n (t ++ ((48 + n % 10) ∷ []))
unfolding feed_of go_on_of star_of
more_reads n t g front few c least =
    let digit : n % 10 < 10 = omega arith in
    let whole : n / 10 * 10 + n % 10 ≡ n = omega arith in
    let low : nat_lt 0 (n / 10) ≡ true = grind (arith, nat_tests) in
    let high : nat_lt (n / 10) 10000 ≡ true = grind (arith, nat_tests) in
    scans_append _ t [] _ _ [] _ (front (omega arith) c least)
    (scans_more _ (48 + n % 10) (token.Number least n) [] [] _ (rw (digit_of (n % 10) digit, low, high, whole) refl) (scans_nothing _))

number_scans : (c : Context) (least : Option ℕ) (n : ℕ) (t : List ℕ) → NumberText n t
    → Scans (at c (token.NumberStart least)) t [] (at c (token.Number least n))
number_scans c least n t h = rw h.digits (decimal_by_steps Reads digit_reads more_reads n (omega (arith, h.few)) h.few c least)

begin_gap : (c : Context) → IsOutside c → begin_of c 123 ≡ step.More (token.NumberStart None)
unfolding begin_of item_start_of
begin_gap context.Start outside = refl
begin_gap context.After outside = refl
begin_gap (context.List m s) outside = absurd outside

begin_star : (c : Context) → IsOutside c → begin_of c 42 ≡ step.Whole (piece.Gap 0 None)
unfolding begin_of item_start_of
begin_star context.Start outside = refl
begin_star context.After outside = refl
begin_star (context.List m s) outside = absurd outside

begin_any : (c : Context) → IsOutside c → begin_of c 63 ≡ step.More token.Question
unfolding begin_of item_start_of
begin_any context.Start outside = refl
begin_any context.After outside = refl
begin_any (context.List m s) outside = absurd outside

outside_part : (c : Context) → IsOutside c → behind_part c ≡ context.After
outside_part context.Start outside = refl
outside_part context.After outside = refl
outside_part (context.List m s) outside = absurd outside

-- a gap is read
pub gap_scans : (c : Context) → IsOutside c → (min : ℕ) (max : Option ℕ) (t : List ℕ) → GapText min max t
    → Scans (at c token.Between) t (piece.Gap min max ∷ []) (at (behind_part c) token.Between)
unfolding feed_of go_on_of star_of closed_gap_of number_of
gap_scans c outside min None t (inl h) = rw (h.0, h.1) (scans_whole _ 42 (piece.Gap 0 None) _ _ _ (begin_star c outside) (scans_nothing _))
gap_scans c outside min None t (inr h) =
    rw h.1 (scans_more _ 123 (token.NumberStart None) _ _ _ (begin_gap c outside)
    (scans_append _ h.0 [] _ _ _ _ (number_scans c None min h.0 h.2)
    (scans_more _ 45 (token.NumberStart (Some min)) _ _ _ refl
    (scans_more _ 42 (token.Star min) _ _ _ refl
    (scans_whole _ 125 (piece.Gap min None) _ _ _ refl (scans_nothing _))))))
gap_scans c outside min (Some max) t (inl h) =
    rw (h.1, h.3) (scans_more _ 123 (token.NumberStart None) _ _ _ (begin_gap c outside)
    (scans_append _ h.0 [] _ _ _ _ (number_scans c None max h.0 h.2)
    (scans_whole _ 125 (piece.Gap max (Some max)) _ _ _ refl (scans_nothing _))))
gap_scans c outside min (Some max) t (inr h) =
    rw h.2 (scans_more _ 123 (token.NumberStart None) _ _ _ (begin_gap c outside)
    (scans_append _ h.0 [] _ _ _ _ (number_scans c None min h.0 h.3)
    (scans_more _ 45 (token.NumberStart (Some min)) _ _ _ refl
    (scans_append _ h.1 [] _ _ _ _ (number_scans c (Some min) max h.1 h.4)
    (scans_whole _ 125 (piece.Gap min (Some max)) _ _ _ refl (scans_nothing _))))))

any_scans : (c : Context) → IsOutside c → Scans (at c token.Between) (63 ∷ 63 ∷ []) (piece.Any ∷ []) (at (behind_part c) token.Between)
unfolding feed_of go_on_of
any_scans c outside = scans_more _ 63 token.Question _ _ _ (begin_any c outside) (scans_whole _ 63 piece.Any _ _ _ refl (scans_nothing _))

-- an item is read
pub item_scans : (c : Context) → IsOutside c → (i : Item) (t : List ℕ) → ItemText i t
    → Scans (at c token.Between) t (pieces_of i) (at context.After token.Between)
item_scans c o (item.Byte b) t h = rw (← outside_part c o) (pair_scans c b t h)
item_scans c o item.Any t h = rw (← outside_part c o, h) (any_scans c o)
item_scans c o (item.Gap min max) t h = rw (← outside_part c o) (gap_scans c o min max t h)
item_scans c o (item.Alt as') t h = list_scans c o as' t h
item_scans c o (item.Range a b) t h = rw (← outside_part c o) (range_scans c a b t h)
item_scans c o (item.Not a) t h = rw (← outside_part c o) (not_scans c a t h)
item_scans c o (item.NotRange a b) t h = rw (← outside_part c o) (not_range_scans c a b t h)

items_scan : (e : List Item) (t : List ℕ) → Spells e t → Scans (at context.After token.Between) t (all_pieces e) (at context.After token.Between)
items_scan [] t h = rw h (scans_nothing _)
items_scan (i ∷ is) t h = rw h.2 (scans_append _ h.0 _ _ h.1 _ _ (item_scans context.After tt i h.0 h.3) (items_scan is h.1 h.4))

-- a text is read to its end, and has the pieces of its items
pub text_scans : (e : List Item) (t : List ℕ) → 0 < length e → Spells e t
    → Scans (at context.Start token.Between) t (all_pieces e) (at context.After token.Between)
text_scans [] t some h = absurd (omega arith)
text_scans (i ∷ is) t some h = rw h.2 (scans_append _ h.0 _ _ h.1 _ _ (item_scans context.Start tt i h.0 h.3) (items_scan is h.1 h.4))
