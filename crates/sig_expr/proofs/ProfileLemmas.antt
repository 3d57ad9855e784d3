-- Texts of the profile are read, and what is read is in the profile.
use Rattle.std.proofs.Common.{◌≡◌, ℕ, ◌+◌, ◌<◌, ◌≤◌, Bool, true, false, cond, List, [], ◌∷◌, ◌++◌, length, map, Option, Some, None, Ok, refl, sym, ◌∙◌, ap}
use Rattle.std.proofs.Common.{rules, arith, nat_eq, nat_lt, append_assoc, append-nil}
use Rattle.std.specs.Prelude.{◌&&◌, ⊤}
use Rattle.std.specs.Ordering.{nat_cmp}
use Rattle.std.specs.Cmp.Lexicographic.{slice_cmp}
use Rattle.std.specs.declared.cmp.Ordering.{Ordering}
use Rattle.std.specs.declared.cmp.Ordering.TheVariants.{Less, Equal, Greater}
use Rattle.std.proofs.lemmas.Bool.Decides.{nat_tests}
use Rattle.sig_expr.specs.declared.error.ExprError.{ExprError}
use Rattle.sig_expr.specs.declared.item.Item.{Item}
use Rattle.sig_expr.specs.declared.item.Item.TheVariants as item
use Rattle.sig_expr.specs.declared.item.Atom.{Atom}
use Rattle.sig_expr.specs.declared.item.Atom.TheVariants as atom
use Rattle.sig_expr.specs.declared.lexer.State.{State}
use Rattle.sig_expr.specs.declared.lexer.Piece.{Piece}
use Rattle.sig_expr.specs.declared.lexer.Piece.TheVariants as piece
use Rattle.sig_expr.specs.declared.lexer.Step.{Step}
use Rattle.sig_expr.specs.declared.lexer.Step.TheVariants as step
use Rattle.sig_expr.specs.Ends.{word_of}
use Rattle.sig_expr.specs.Faults.{are_all, is_less, order_fault, range_fault, not_fault, gap_fault, fault_of}
use Rattle.sig_expr.specs.Reading.{feed_of, next_of, start}
use Rattle.sig_expr.specs.Built.{Built, fresh, built_of}
use Rattle.sig_expr.specs.Passes.{stop_from, stop_at, stop_of, fault_from, fault_at, fault_in, opened_of, or_else, built_from, built_step, items_of}
use Rattle.sig_expr.specs.Texts.{expr_of}
use Rattle.sig_expr.specs.Profile.{GapSound, IsEnd, RangeSound, LeavesWord, AtomSound, AtomsSound, AlternativesSound, ItemSound, ItemsSound, InProfile}
use Rattle.sig_expr.specs.Spelling.{Spells, ItemText, AtomText, AlternativeText, AlternativesText, RangeText, NotText}
use Rattle.sig_expr.proofs.Scans.{run, run_at, pieces, pieces_in, end_of_word, piece_of, barred, listed, pieces_of, all_pieces}
use Rattle.sig_expr.proofs.EndLemmas.{len_of_word, word_of_end}
use Rattle.sig_expr.proofs.OrderLemmas.{leaves_word, leaves_no_all}
use Rattle.sig_expr.proofs.PairLemmas.{pair_small, range_sound, not_sound}
use Rattle.sig_expr.proofs.ScanLemmas.{text_scans}

stop_behind_at : (k : Step) (z : State) (n m : ℕ) (t u : List ℕ) (y : State) → m ≡ n + 1 + length t
    → (run z t ≡ Some y → stop_from z (n + 1) (t ++ u) ≡ stop_from y (n + 1 + length t) u) → run_at k (run z t) ≡ Some y
    → stop_at k n (stop_from z (n + 1) (t ++ u)) ≡ stop_from y m u
stop_behind_at step.Refused z n m t u y q later e = cc
stop_behind_at (step.More k) z n m t u y q later e = rw q (later e)
stop_behind_at (step.Whole p) z n m t u y q later e = rw q (later e)

-- a front that is read stops nothing
pub stop_behind : (s : State) (n : ℕ) (t u : List ℕ) (y : State) → run s t ≡ Some y → stop_from s n (t ++ u) ≡ stop_from y (n + length t) u
unfolding run stop_from
stop_behind s n [] u y e = let same : s ≡ y = cc in let none : n ≡ n + 0 = omega arith in rw (same, ← none) refl
stop_behind s n (b ∷ t) u y e = stop_behind_at (feed_of s b) (next_of s (feed_of s b)) n _ t u y (omega arith)
    (stop_behind (next_of s (feed_of s b)) (n + 1) t u y) e

-- what pieces build
abbrev pub built_all : Built → List Piece → Built
built_all u [] = u
built_all u (p ∷ ps) = built_all (built_of u p) ps

built_pieces_at : (k : Step) (u : Built) (z : State) (t : List ℕ) → ((v : Built) → built_from v z t ≡ built_all v (pieces z t))
    → built_from (built_step u k) z t ≡ built_all u (pieces_in k ++ pieces z t)
built_pieces_at step.Refused u z t later = later u
built_pieces_at (step.More k) u z t later = later u
built_pieces_at (step.Whole p) u z t later = later (built_of u p)

built_pieces : (u : Built) (s : State) (t : List ℕ) → built_from u s t ≡ built_all u (pieces s t)
unfolding built_from pieces
built_pieces u s [] = refl
built_pieces u s (b ∷ t) = built_pieces_at (feed_of s b) u (next_of s (feed_of s b)) t (λ v. built_pieces v (next_of s (feed_of s b)) t)

-- each piece has no fault where it stands
abbrev pub Clean : List Piece → Type 0
Clean [] = ⊤
Clean (p ∷ ps) = ((n : ℕ) × (fault_of p n ≡ None)) × Clean ps

-- no piece has a fault, wherever it stands
abbrev pub Quiet : List Piece → Type 0
Quiet [] = ⊤
Quiet (p ∷ ps) = ((n : ℕ) → fault_of p n ≡ None) × Quiet ps

or_else_none : (x y : Option ExprError) → or_else x y ≡ None → (x ≡ None) × (y ≡ None)
or_else_none None y e = (refl, e)
or_else_none (Some f) y e = absurd (cc)

clean_at : (k : Step) (z : State) (n m : ℕ) (t : List ℕ) → (fault_from z m (n + 1) t ≡ None → Clean (pieces z t))
    → fault_at k m (fault_from z m (n + 1) t) ≡ None → Clean (pieces_in k ++ pieces z t)
clean_at step.Refused z n m t later e = later e
clean_at (step.More k) z n m t later e = later e
clean_at (step.Whole p) z n m t later e = let both = or_else_none (fault_of p m) (fault_from z m (n + 1) t) e in ((m, both.0), later both.1)

pub clean_pieces : (s : State) (o n : ℕ) (t : List ℕ) → fault_from s o n t ≡ None → Clean (pieces s t)
unfolding fault_from pieces
clean_pieces s o n [] e = tt
clean_pieces s o n (b ∷ t) e = clean_at (feed_of s b) (next_of s (feed_of s b)) n (opened_of s o n) t
    (clean_pieces (next_of s (feed_of s b)) (opened_of s o n) (n + 1) t) e

quiet_at : (k : Step) (z : State) (n m : ℕ) (t : List ℕ) → (Quiet (pieces z t) → fault_from z m (n + 1) t ≡ None) → Quiet (pieces_in k ++ pieces z t)
    → fault_at k m (fault_from z m (n + 1) t) ≡ None
quiet_at step.Refused z n m t later h = later h
quiet_at (step.More k) z n m t later h = later h
quiet_at (step.Whole p) z n m t later h = rw (h.0 m) (later h.1)

quiet_pieces : (s : State) (o n : ℕ) (t : List ℕ) → Quiet (pieces s t) → fault_from s o n t ≡ None
unfolding fault_from pieces
quiet_pieces s o n [] h = refl
quiet_pieces s o n (b ∷ t) h = quiet_at (feed_of s b) (next_of s (feed_of s b)) n (opened_of s o n) t
    (quiet_pieces (next_of s (feed_of s b)) (opened_of s o n) (n + 1) t) h

clean_append : (ps qs : List Piece) → Clean (ps ++ qs) → Clean ps × Clean qs
clean_append [] qs h = (tt, h)
clean_append (p ∷ ps) qs h = let rest = clean_append ps qs h.1 in ((h.0, rest.0), rest.1)

quiet_append : (ps qs : List Piece) → Quiet ps → Quiet qs → Quiet (ps ++ qs)
quiet_append [] qs h k = k
quiet_append (p ∷ ps) qs h k = (h.0, quiet_append ps qs h.1 k)

-- what brackets and gaps with no fault say, and what says that there is none
none_if : (b : Bool) (f : ExprError) (x : Option ExprError) → cond b (Some f) x ≡ None → (b ≡ false) × (x ≡ None)
none_if true f x e = absurd (cc)
none_if false f x e = (refl, e)

some_else : (b : Bool) (f : ExprError) (x : Option ExprError) → cond b x (Some f) ≡ None → (b ≡ true) × (x ≡ None)
some_else true f x e = (refl, e)
some_else false f x e = absurd (cc)

less_is : (o : Ordering) → is_less o ≡ true → o ≡ Less
less_is Less e = refl
less_is Equal e = absurd (cc)
less_is Greater e = absurd (cc)

both_short : (a b : List ℕ) → (end_of_word a).len ≡ (end_of_word b).len → (end_of_word a).len ≤ 8 → (length a ≡ length b) × (length a ≤ 8)
both_short a b e h =
    let n = len_of_word a in
    let m = len_of_word b in
    (omega arith, omega arith)

-- what a bracket with two ends is refused for where no fault is found, and the other way round
sound_range : (not : Bool) (o a b t : List ℕ) → RangeText o a b t → (n : ℕ) → range_fault not (end_of_word a) (end_of_word b) n ≡ None → RangeSound a b
    × ((not && (are_all 0 a && are_all 255 b)) ≡ false)
unfolding range_fault order_fault
sound_range not o a b t h n e =
    let one = some_else (nat_eq (end_of_word a).len (end_of_word b).len) _ _ e in
    let two = none_if (nat_lt 8 (end_of_word a).len) _ _ one.1 in
    let same : (end_of_word a).len ≡ (end_of_word b).len = search (rules, one.0) in
    let few : (end_of_word a).len ≤ 8 = grind (arith, nat_tests, two.0) in
    let lengths = both_short a b same few in
    let short' : length b ≤ 8 = omega (arith, lengths.0, lengths.1) in
    let word = word_of_end a h.some_first lengths.1 in
    let word' = word_of_end b h.some_second short' in
    let words : order_fault not a b n ≡ None = rw (word, word') at two.1 in
    let three = some_else (is_less (slice_cmp nat_cmp a b)) _ _ words in
    let four = none_if (not && (are_all 0 a && are_all 255 b)) _ _ three.1 in
    (range_sound o a b t h lengths.0 lengths.1 (less_is _ three.0), four.0)

quiet_range : (not : Bool) (a b : List ℕ) (n : ℕ) → RangeSound a b → ((not && (are_all 0 a && are_all 255 b)) ≡ false)
    → range_fault not (end_of_word a) (end_of_word b) n ≡ None
unfolding range_fault order_fault
quiet_range not a b n h leaves =
    let p = len_of_word a in
    let q = len_of_word b in
    let short = h.first.short in
    let same : nat_eq (end_of_word a).len (end_of_word b).len ≡ true = grind (arith, nat_tests, h.same_length, short) in
    let few : nat_lt 8 (end_of_word a).len ≡ false = grind (arith, nat_tests, short) in
    rw (same, few, word_of_end a h.first.some short, word_of_end b h.second.some h.second.short, h.order, leaves) refl

sound_not : (a t : List ℕ) → NotText a t → (n : ℕ) → not_fault (end_of_word a) n ≡ None → IsEnd a
unfolding not_fault
sound_not a t h n e =
    let one = none_if (nat_lt 8 (end_of_word a).len) _ _ e in
    let few : (end_of_word a).len ≤ 8 = grind (arith, nat_tests, one.0) in
    not_sound a t h (omega (arith, len_of_word a))

quiet_not : (a : List ℕ) (n : ℕ) → IsEnd a → not_fault (end_of_word a) n ≡ None
unfolding not_fault
quiet_not a n h =
    let p = len_of_word a in
    let few : nat_lt 8 (end_of_word a).len ≡ false = grind (arith, nat_tests, h.short) in
    rw few refl

sound_gap : (least : ℕ) (max : Option ℕ) (n : ℕ) → gap_fault least max n ≡ None → GapSound least max
unfolding gap_fault
sound_gap least None n e = let one = none_if (nat_lt 65535 least) _ _ e in grind (arith, nat_tests, one.0)
sound_gap least (Some max) n e =
    let one = none_if (nat_lt 65535 least) _ _ e in
    let two = none_if (nat_lt 65535 max) _ _ one.1 in
    let three = none_if (nat_eq max 0) _ _ two.1 in
    let four = none_if (nat_lt max least) _ _ three.1 in
    let order : least ≤ max = grind (arith, nat_tests, four.0) in
    let few : max ≤ 65535 = grind (arith, nat_tests, two.0) in
    let some : 0 < max = grind (arith, nat_tests, three.0) in
    (order, few, some)

quiet_gap : (least : ℕ) (max : Option ℕ) (n : ℕ) → GapSound least max → gap_fault least max n ≡ None
unfolding gap_fault
quiet_gap least None n h = let few : nat_lt 65535 least ≡ false = grind (arith, nat_tests) in rw few refl
quiet_gap least (Some max) n h =
    let one : nat_lt 65535 least ≡ false = grind (arith, nat_tests, h.0, h.1) in
    let two : nat_lt 65535 max ≡ false = grind (arith, nat_tests, h.1) in
    let three : nat_eq max 0 ≡ false = grind (arith, nat_tests, h.2) in
    let four : nat_lt max least ≡ false = grind (arith, nat_tests, h.0) in
    rw (one, two, three, four) refl

sound_class : (a b t : List ℕ) → RangeText (91 ∷ 33 ∷ []) a b t → (n : ℕ) → range_fault true (end_of_word a) (end_of_word b) n ≡ None → RangeSound a b
    × LeavesWord a b
sound_class a b t h n e =
    let k = sound_range true _ a b t h n e in
    (k.0, leaves_word a b k.0.same_length k.0.second.bytes k.1)

quiet_class : (a b : List ℕ) (n : ℕ) → RangeSound a b × LeavesWord a b → range_fault true (end_of_word a) (end_of_word b) n ≡ None
quiet_class a b n k = quiet_range true a b n k.0 (leaves_no_all a b k.0.same_length k.1)

sound_atom : (p : Atom) (t : List ℕ) → AtomText p t → (n : ℕ) → fault_of (piece_of p) n ≡ None → AtomSound p
sound_atom (atom.Byte b) t h n e = pair_small b t h
sound_atom (atom.Range a b) t h n e = (sound_range false _ a b t h n e).0
sound_atom (atom.Not a) t h n e = sound_not a t h n e
sound_atom (atom.NotRange a b) t h n e = sound_class a b t h n e

pub quiet_atom : (p : Atom) → AtomSound p → (n : ℕ) → fault_of (piece_of p) n ≡ None
quiet_atom (atom.Byte b) k n = refl
quiet_atom (atom.Range a b) k n = quiet_range false a b n k refl
quiet_atom (atom.Not a) k n = quiet_not a n k
quiet_atom (atom.NotRange a b) k n = quiet_class a b n k

sound_atoms : (ps : List Atom) (t : List ℕ) → AlternativeText ps t → Clean (map piece_of ps) → AtomsSound ps
sound_atoms [] t h k = tt
sound_atoms (p ∷ ps) t h k = (sound_atom p h.0 h.3 k.0.0 k.0.1, sound_atoms ps h.1 h.4 k.1)

pub quiet_atoms : (ps : List Atom) → AtomsSound ps → Quiet (map piece_of ps)
quiet_atoms [] k = tt
quiet_atoms (p ∷ ps) k = (quiet_atom p k.0, quiet_atoms ps k.1)

sound_barred : (as' : List (List Atom)) (t : List ℕ) → AlternativesText (124 ∷ []) as' t → Clean (barred as') → AlternativesSound as'
sound_barred [] t h k = tt
sound_barred (a ∷ rest) t h k = let both = clean_append (map piece_of a) (barred rest) k.1 in
    (sound_atoms a h.0 h.4 both.0, sound_barred rest h.1 h.5 both.1, h.3)

quiet_barred : (as' : List (List Atom)) → AlternativesSound as' → Quiet (barred as')
quiet_barred [] k = tt
quiet_barred (a ∷ rest) k = ((λ n. refl), quiet_append (map piece_of a) (barred rest) (quiet_atoms a k.0) (quiet_barred rest k.1))

sound_list : (as' : List (List Atom)) (t : List ℕ) → AlternativesText (40 ∷ []) as' t → Clean (listed as') → AlternativesSound as'
sound_list [] t h k = tt
sound_list (a ∷ rest) t h k =
    let both = clean_append (map piece_of a) (barred rest ++ (piece.Close ∷ [])) k.1 in
    (sound_atoms a h.0 h.4 both.0, sound_barred rest h.1 h.5 (clean_append (barred rest) (piece.Close ∷ []) both.1).0, h.3)

quiet_list : (as' : List (List Atom)) → AlternativesSound as' → Quiet (listed as')
quiet_list [] k = tt
quiet_list (a ∷ rest) k = (
  (λ n. refl),
  quiet_append (map piece_of a) (barred rest ++ (piece.Close ∷ [])) (quiet_atoms a k.0)
      (quiet_append (barred rest) (piece.Close ∷ []) (quiet_barred rest k.1) ((λ n. refl), tt)),
)

sound_item : (i : Item) (t : List ℕ) → ItemText i t → Clean (pieces_of i) → ItemSound i
sound_item (item.Byte b) t h k = pair_small b t h
sound_item item.Any t h k = tt
sound_item (item.Gap least max) t h k = sound_gap least max k.0.0 k.0.1
sound_item (item.Alt as') t h k = (sound_list as' h.inside h.is_inside k, h.two)
sound_item (item.Range a b) t h k = (sound_range false _ a b t h k.0.0 k.0.1).0
sound_item (item.Not a) t h k = sound_not a t h k.0.0 k.0.1
sound_item (item.NotRange a b) t h k = sound_class a b t h k.0.0 k.0.1

pub quiet_item : (i : Item) → ItemSound i → Quiet (pieces_of i)
quiet_item (item.Byte b) k = ((λ n. refl), tt)
quiet_item item.Any k = ((λ n. refl), tt)
quiet_item (item.Gap least max) k = ((λ n. quiet_gap least max n k), tt)
quiet_item (item.Alt as') k = quiet_list as' k.0
quiet_item (item.Range a b) k = ((λ n. quiet_range false a b n k refl), tt)
quiet_item (item.Not a) k = ((λ n. quiet_not a n k), tt)
quiet_item (item.NotRange a b) k = ((λ n. quiet_class a b n k), tt)

-- items whose pieces have no fault have none
pub sound_items : (e : List Item) (t : List ℕ) → Spells e t → Clean (all_pieces e) → ItemsSound e
sound_items [] t h k = tt
sound_items (i ∷ is) t h k = let both = clean_append (pieces_of i) (all_pieces is) k in (sound_item i h.0 h.3 both.0, sound_items is h.1 h.4 both.1)

quiet_items : (e : List Item) → ItemsSound e → Quiet (all_pieces e)
quiet_items [] k = tt
quiet_items (i ∷ is) k = quiet_append (pieces_of i) (all_pieces is) (quiet_item i k.0) (quiet_items is k.1)

-- what is built

abbrev outside : List Item → Built
outside is = record { items = is; alternatives = []; alternative = []; inside = false }

abbrev within : List Item → List (List Atom) → List Atom → Built
within is as' a = record { items = is; alternatives = as'; alternative = a; inside = true }

built_append : (u : Built) (ps qs : List Piece) → built_all u (ps ++ qs) ≡ built_all (built_all u ps) qs
built_append u [] qs = refl
built_append u (p ∷ ps) qs = built_append (built_of u p) ps qs

word_range : (a b : List ℕ) → RangeSound a b → (word_of (end_of_word a) ≡ Some a) × (word_of (end_of_word b) ≡ Some b)
word_range a b h = (word_of_end a h.first.some h.first.short, word_of_end b h.second.some h.second.short)

builds_atom : (is : List Item) (as' : List (List Atom)) (a : List Atom) (p : Atom) → AtomSound p
    → built_of (within is as' a) (piece_of p) ≡ within is as' (a ++ p ∷ [])
builds_atom is as' a (atom.Byte b) k = refl
builds_atom is as' a (atom.Range x y) k = let w = word_range x y k in rw (w.0, w.1) refl
builds_atom is as' a (atom.Not x) k = rw (word_of_end x k.some k.short) refl
builds_atom is as' a (atom.NotRange x y) k = let w = word_range x y k.0 in rw (w.0, w.1) refl

builds_atoms : (is : List Item) (as' : List (List Atom)) (a ps : List Atom) → AtomsSound ps
    → built_all (within is as' a) (map piece_of ps) ≡ within is as' (a ++ ps)
builds_atoms is as' a [] k = rw append-nil refl
builds_atoms is as' a (p ∷ ps) k =
    ap (λ (u : Built). built_all u (map piece_of ps)) (builds_atom is as' a p k.0) ∙ builds_atoms is as' (a ++ p ∷ []) ps k.1 ∙ ap
    (λ (x : List Atom). within is as' x) (append_assoc a (p ∷ []) ps)

builds_barred : (is : List Item) (as' : List (List Atom)) (a : List Atom) (rest : List (List Atom)) → AlternativesSound rest
    → built_all (within is as' a) (barred rest ++ (piece.Close ∷ [])) ≡ outside (is ++ item.Alt (as' ++ a ∷ rest) ∷ [])
builds_barred is as' a [] k = refl
builds_barred is as' a (x ∷ rest) k =
    let first = builds_atoms is (as' ++ a ∷ []) [] x k.0 in
    let later = builds_barred is (as' ++ a ∷ []) x rest k.1 in
    ap (λ (ps : List Piece). built_all (within is (as' ++ a ∷ []) []) ps) (append_assoc (map piece_of x) (barred rest) (piece.Close ∷ []))
    ∙ built_append (within is (as' ++ a ∷ []) []) (map piece_of x) (barred rest ++ (piece.Close ∷ []))
    ∙ ap (λ (u : Built). built_all u (barred rest ++ (piece.Close ∷ []))) first
    ∙ later
    ∙ ap (λ (l : List (List Atom)). outside (is ++ item.Alt l ∷ [])) (append_assoc as' (a ∷ []) (x ∷ rest))

builds_list : (is : List Item) (as' : List (List Atom)) → 2 ≤ length as' → AlternativesSound as'
    → built_all (outside is) (listed as') ≡ outside (is ++ item.Alt as' ∷ [])
builds_list is [] two k = absurd (omega arith)
builds_list is (a ∷ rest) two k =
    built_append (within is [] []) (map piece_of a) (barred rest ++ (piece.Close ∷ []))
    ∙ ap (λ (u : Built). built_all u (barred rest ++ (piece.Close ∷ []))) (builds_atoms is [] [] a k.0)
    ∙ builds_barred is [] a rest k.1

builds_item : (is : List Item) (i : Item) → ItemSound i → built_all (outside is) (pieces_of i) ≡ outside (is ++ i ∷ [])
builds_item is (item.Byte b) k = refl
builds_item is item.Any k = refl
builds_item is (item.Gap least max) k = refl
builds_item is (item.Alt as') k = builds_list is as' k.1 k.0
builds_item is (item.Range a b) k = let w = word_range a b k in rw (w.0, w.1) refl
builds_item is (item.Not a) k = rw (word_of_end a k.some k.short) refl
builds_item is (item.NotRange a b) k = let w = word_range a b k.0 in rw (w.0, w.1) refl

builds_items : (is e : List Item) → ItemsSound e → built_all (outside is) (all_pieces e) ≡ outside (is ++ e)
builds_items is [] k = ap outside (sym (append-nil is))
builds_items is (i ∷ e) k =
    built_append (outside is) (pieces_of i) (all_pieces e)
    ∙ ap (λ (u : Built). built_all u (all_pieces e)) (builds_item is i k.0)
    ∙ builds_items (is ++ i ∷ []) e k.1
    ∙ ap outside (append_assoc is (i ∷ []) e)

-- a text that spells an item is read to its end
pub text_goes_on : (e : List Item) (t : List ℕ) → 0 < length e → Spells e t → stop_of t ≡ None
unfolding stop_from
text_goes_on e t some h =
    let scans = text_scans e t some h in
    let whole : t ++ [] ≡ t = append-nil t in
    rw whole at (stop_behind start 0 t [] _ scans.ran)

-- items with no fault are read
pub quiet_text : (e : List Item) (t : List ℕ) → 0 < length e → Spells e t → ItemsSound e → fault_in t ≡ None
quiet_text e t some h k =
    let scans = text_scans e t some h in
    quiet_pieces start 0 0 t (rw scans.found (quiet_items e k))

-- where no fault is found, there is none
pub sound_text : (e : List Item) (t : List ℕ) → 0 < length e → Spells e t → fault_in t ≡ None → ItemsSound e
sound_text e t some h quiet =
    let scans = text_scans e t some h in
    sound_items e t h (rw scans.found at (clean_pieces start 0 0 t quiet))

-- the items that are built are those that are spelled
pub items_text : (e : List Item) (t : List ℕ) → 0 < length e → Spells e t → ItemsSound e → items_of t ≡ e
items_text e t some h k =
    let scans = text_scans e t some h in
    let all : built_from fresh start t ≡ outside e = built_pieces fresh start t ∙ ap (λ (ps : List Piece). built_all fresh ps) scans.found ∙ builds_items [] e k
    in
    ap (λ (u : Built). u.items) all

pub some_items : (e e' : List Item) (t : List ℕ) → 0 < length e → Spells e t → Spells e' t → 0 < length e'
unfolding stop_from
some_items e [] t some h h' = let never = rw h' at (text_goes_on e t some h) in absurd (cc)
some_items e (i ∷ is) t some h h' = omega arith

-- a text of the profile is read as what it spells
pub read_text : (e : List Item) (t : List ℕ) → InProfile t → Spells e t → expr_of t ≡ Ok e
unfolding expr_of
read_text e t p h =
    let some = some_items p.items e t p.some p.spells h in
    let quiet = quiet_text p.items t p.some p.spells p.sound in
    let short : nat_lt 8192 (length t) ≡ false = grind (arith, nat_tests, p.short) in
    rw (short, text_goes_on e t some h, quiet, items_text e t some h (sound_text e t some h quiet)) refl
