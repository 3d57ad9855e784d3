-- The first fault of a text is the one that is answered.
use Rattle.std.proofs.Common.{◌≡◌, ◌⊎◌, inl, inr, ℕ, ◌+◌, ◌<◌, ◌≤◌, Bool, true, false, List, [], ◌∷◌, ◌++◌, length, map, Option, Some, None, Result, Ok, Err}
use Rattle.std.proofs.Common.{refl, ap, arith, nat_lt, append_assoc, length-append}
use Rattle.std.proofs.lemmas.Bool.Decides.{nat_tests}
use Rattle.sig_expr.specs.declared.error.ExprError.{ExprError}
use Rattle.sig_expr.specs.declared.item.Item.{Item}
use Rattle.sig_expr.specs.declared.item.Item.TheVariants as item
use Rattle.sig_expr.specs.declared.item.Atom.{Atom}
use Rattle.sig_expr.specs.declared.item.Atom.TheVariants as atom
use Rattle.sig_expr.specs.declared.lexer.Context.{Context}
use Rattle.sig_expr.specs.declared.lexer.Context.TheVariants as context
use Rattle.sig_expr.specs.declared.lexer.Token.{Token}
use Rattle.sig_expr.specs.declared.lexer.Token.TheVariants as token
use Rattle.sig_expr.specs.declared.lexer.State.{State}
use Rattle.sig_expr.specs.declared.lexer.Piece.{Piece}
use Rattle.sig_expr.specs.declared.lexer.Piece.TheVariants as piece
use Rattle.sig_expr.specs.declared.lexer.Step.{Step}
use Rattle.sig_expr.specs.declared.lexer.Step.TheVariants as step
use Rattle.sig_expr.specs.Faults.{fault_of}
use Rattle.sig_expr.specs.Reading.{feed_of, next_of, is_between, context_of, begin_of, item_start_of, list_start_of}
use Rattle.sig_expr.specs.Passes.{stop_of, fault_from, fault_at, fault_in, opened_of}
use Rattle.sig_expr.specs.Texts.{expr_of}
use Rattle.sig_expr.specs.Spelling.{AtomText, AlternativeText, AlternativesText, ItemText, Spells}
use Rattle.sig_expr.specs.Profile.{AtomsSound, AlternativesSound, ItemSound, ItemsSound}
use Rattle.sig_expr.proofs.Scans.{run, run_at, pieces, pieces_in, Scans, piece_of}
use Rattle.sig_expr.specs.FirstFaults.{AtomHas, IsRefused, FirstOfAtoms, FirstOfAlternatives, FirstOfItem, FirstOfItems, IsFirstFault}
use Rattle.sig_expr.specs.Refusals.{IsFaulty}
use Rattle.sig_expr.proofs.ScanLemmas.{at, IsOutside, either, scans_nothing, scans_whole, atom_scans, alternative_scans, gap_scans, range_scans, not_scans}
use Rattle.sig_expr.proofs.ScanLemmas.{not_range_scans, item_scans}
use Rattle.sig_expr.proofs.FrontLemmas.{TokenText, TokenLegal, Good, feed_good, stops_nowhere}
use Rattle.sig_expr.proofs.ProfileLemmas.{Quiet, quiet_atom, quiet_atoms, quiet_item, quiet_text, text_goes_on, read_text}
use Rattle.sig_expr.proofs.RefusedLemmas.{atom_refused, gap_refused, range_text_refused, not_text_refused, judged_atom, judged_gap}
use Rattle.sig_expr.proofs.PairLemmas.{pair_small}

-- this fault is found in a text that is read from a state on
abbrev FindsFault : State → ℕ → List ℕ → ExprError → Type 0
FindsFault s n t f = (o : ℕ) → fault_from s o n t ≡ Some f

inside_token : (k : Token) (w : List ℕ) (b : ℕ) → TokenText k (w ++ b ∷ []) → is_between k ≡ false
inside_token token.Between w b h = absurd (omega (arith, ap length h, length-append w (b ∷ [])))
inside_token k w b h = refl

-- the first piece of a text is faulty
abbrev FaultyPiece : List ℕ → Type 0
FaultyPiece u =
    (v : List ℕ) (c : Context) (k : Token) (w : List ℕ) (o n : ℕ) (p : Piece) (ps : List Piece) (y : State) (f : ExprError)
    → TokenText k w → TokenLegal c k → run (at c k) u ≡ Some y → pieces (at c k) u ≡ p ∷ ps → fault_of p (opened_of (at c k) o n) ≡ Some f
    → fault_from (at c k) o n (u ++ v) ≡ Some f

faulty_at : (s : Step) (u v : List ℕ) (c : Context) (k : Token) (w : List ℕ) (b m n : ℕ) (p : Piece) (ps : List Piece) (y : State) (f : ExprError)
    → Good c (w ++ b ∷ []) s → FaultyPiece u → run_at s (run (next_of (at c k) s) u) ≡ Some y → pieces_in s ++ pieces (next_of (at c k) s) u ≡ p ∷ ps
    → fault_of p m ≡ Some f
    → fault_at s m (fault_from (next_of (at c k) s) m n (u ++ v)) ≡ Some f
faulty_at step.Refused u v c k w b m n p ps y f good later ran found faulty = absurd (cc)
faulty_at (step.More k') u v c k w b m n p ps y f good later ran found faulty =
    later v c k' (w ++ b ∷ []) m n p ps y f good.0 good.1 ran found (rw (inside_token k' w b good.0) faulty)
faulty_at (step.Whole q) u v c k w b m n p ps y f good later ran found faulty =
    let same : q ≡ p = cc in
    rw (same, faulty) refl

faulty_piece : (u : List ℕ) → FaultyPiece u
unfolding run pieces fault_from
faulty_piece [] v c k w o n p ps y f text legal ran found faulty = absurd (cc)
faulty_piece (b ∷ u) v c k w o n p ps y f text legal ran found faulty =
    faulty_at (feed_of (at c k) b) u v c k w b _ (n + 1) p ps y f (feed_good c k b w text legal) (faulty_piece u) ran found faulty

-- a text whose first piece is faulty
faulty_scan : (c : Context) (u v : List ℕ) (n : ℕ) (p : Piece) (ps : List Piece) (y : State) (f : ExprError) → Scans (at c token.Between) u (p ∷ ps) y
    → fault_of p n ≡ Some f → FindsFault (at c token.Between) n (u ++ v) f
faulty_scan c u v n p ps y f scans faulty o = faulty_piece u v c token.Between [] o n p ps y f refl tt scans.ran scans.found faulty

quiet_behind_at : (s : Step) (u v : List ℕ) (z : State) (m n l : ℕ) (y : State) (f : ExprError) → l ≡ n + length u
    → (run z u ≡ Some y → Quiet (pieces z u) → FindsFault y (n + length u) v f → fault_from z m n (u ++ v) ≡ Some f)
    → run_at s (run z u) ≡ Some y → Quiet (pieces_in s ++ pieces z u) → FindsFault y l v f → fault_at s m (fault_from z m n (u ++ v)) ≡ Some f
quiet_behind_at step.Refused u v z m n l y f e later ran quiet found_so = absurd (cc)
quiet_behind_at (step.More k) u v z m n l y f e later ran quiet found_so = later ran quiet (rw e at found_so)
quiet_behind_at (step.Whole p) u v z m n l y f e later ran quiet found_so = rw (quiet.0 m) (later ran quiet.1 (rw e at found_so))

-- behind a front with no fault, the fault of the rest is found
quiet_behind : (u v : List ℕ) (s : State) (o n : ℕ) (y : State) (f : ExprError) → run s u ≡ Some y → Quiet (pieces s u) → FindsFault y (n + length u) v f
    → fault_from s o n (u ++ v) ≡ Some f
unfolding run pieces fault_from
quiet_behind [] v s o n y f ran quiet found_so =
    let same : s ≡ y = cc in
    let none : n + 0 ≡ n = omega arith in
    rw (same) (rw none at (found_so o))
quiet_behind (b ∷ u) v s o n y f ran quiet found_so =
    quiet_behind_at (feed_of s b) u v (next_of s (feed_of s b)) (opened_of s o n) (n + 1) _ y f (omega arith)
    (quiet_behind u v (next_of s (feed_of s b)) (opened_of s o n) (n + 1) y f) ran quiet found_so

-- the same of a front whose pieces are known
past : (s : State) (u v : List ℕ) (ps : List Piece) (n : ℕ) (y : State) (f : ExprError) → Scans s u ps y → Quiet ps → FindsFault y (n + length u) v f
    → FindsFault s n (u ++ v) f
past s u v ps n y f scans quiet found_so o = quiet_behind u v s o n y f scans.ran (rw scans.found quiet) found_so

-- behind a sign of a list
past_sign : (c : Context) (b : ℕ) (p : Piece) (t : List ℕ) (n : ℕ) (f : ExprError) → feed_of (at c token.Between) b ≡ step.Whole p
    → ((m : ℕ) → fault_of p m ≡ None) → FindsFault (at (context_of c p) token.Between) (n + 1) t f → FindsFault (at c token.Between) n (b ∷ t) f
past_sign c b p t n f feeds quiet found_so = past (at c token.Between) (b ∷ []) t (p ∷ []) n _ f (scans_whole _ b p [] [] _ feeds (scans_nothing _)) (quiet, tt)
    found_so

-- a faulty part
faulty_atom : (c : Context) (p : Atom) (u v : List ℕ) (n : ℕ) (f : ExprError) → length u ≤ 8192 → AtomText p u → IsRefused n (AtomHas p) f
    → FindsFault (at c token.Between) n (u ++ v) f
faulty_atom c p u v n f short h refused = faulty_scan c u v n (piece_of p) [] _ f (atom_scans c p u h) (atom_refused p u n f h short refused)

cut_short : (t u v : List ℕ) → t ≡ u ++ v → length t ≤ 8192 → (length u ≤ 8192) × (length v ≤ 8192)
cut_short t u v e short = (omega (arith, ap length e, length-append u v), omega (arith, ap length e, length-append u v))

-- parts, one of which is faulty
faulty_atoms : (ps : List Atom) (many some : Bool) (t v : List ℕ) (n : ℕ) (f : ExprError) → length t ≤ 8192 → FirstOfAtoms ps t n f
    → FindsFault (at (context.List many some) token.Between) n (t ++ v) f
faulty_atoms [] many some t v n f short h = absurd h
faulty_atoms (p ∷ ps) many some t v n f short h =
    let shorts = cut_short t h.0 h.1 h.2 short in
    rw (h.2, append_assoc h.0 h.1 v) (either h.5 (λ refused. faulty_atom (context.List many some) p h.0 (h.1 ++ v) n f shorts.0 h.3 refused)
    (λ later. past _ h.0 (h.1 ++ v) (piece_of p ∷ []) n _ f (atom_scans (context.List many some) p h.0 h.3) (quiet_atom p later.0, tt)
    (faulty_atoms ps many true h.1 v (n + length h.0) f shorts.1 later.1)))

feeds_bar : (many : Bool) → feed_of (at (context.List many true) token.Between) 124 ≡ step.Whole piece.Bar
unfolding feed_of begin_of list_start_of
feeds_bar many = refl

feeds_open : (c : Context) → IsOutside c → feed_of (at c token.Between) 40 ≡ step.Whole piece.Open
unfolding feed_of begin_of item_start_of
feeds_open context.Start o = refl
feeds_open context.After o = refl
feeds_open (context.List many some) o = absurd o

bar_short : (t u v : List ℕ) (b : ℕ) → t ≡ b ∷ u ++ v → length t ≤ 8192 → (length u ≤ 8192) × (length v ≤ 8192)
bar_short t u v b e short = (omega (arith, ap length e, length-append u v), omega (arith, ap length e, length-append u v))

-- alternatives behind bars, one of which is faulty
faulty_bars : (as' : List (List Atom)) (many : Bool) (t v : List ℕ) (n : ℕ) (f : ExprError) → length t ≤ 8192 → FirstOfAlternatives (124 ∷ []) as' t n f
    → FindsFault (at (context.List many true) token.Between) n (t ++ v) f
faulty_bars [] many t v n f short h = absurd h
faulty_bars (a ∷ rest) many t v n f short h =
    let shorts = bar_short t h.0 h.1 124 h.2 short in
    rw (h.2, append_assoc h.0 h.1 v) (past_sign (context.List many true) 124 piece.Bar (h.0 ++ (h.1 ++ v)) n f (feeds_bar many) (λ m. refl)
    (either h.6 (λ first. faulty_atoms a true false h.0 (h.1 ++ v) (n + 1) f shorts.0 first)
    (λ later. past _ h.0 (h.1 ++ v) (map piece_of a) (n + 1) _ f (alternative_scans true a h.0 h.3 h.4) (quiet_atoms a later.0)
    (faulty_bars rest true h.1 v (n + 1 + length h.0) f shorts.1 later.1))))

-- alternatives of a list, one of which is faulty
faulty_list : (as' : List (List Atom)) (c : Context) (t v : List ℕ) (n : ℕ) (f : ExprError) → IsOutside c → length t ≤ 8192
    → FirstOfAlternatives (40 ∷ []) as' t n f → FindsFault (at c token.Between) n (t ++ v) f
faulty_list [] c t v n f o short h = absurd h
faulty_list (a ∷ rest) c t v n f o short h =
    let shorts = bar_short t h.0 h.1 40 h.2 short in
    rw (h.2, append_assoc h.0 h.1 v) (past_sign c 40 piece.Open (h.0 ++ (h.1 ++ v)) n f (feeds_open c o) (λ m. refl)
    (either h.6 (λ first. faulty_atoms a false false h.0 (h.1 ++ v) (n + 1) f shorts.0 first)
    (λ later. past _ h.0 (h.1 ++ v) (map piece_of a) (n + 1) _ f (alternative_scans false a h.0 h.3 h.4) (quiet_atoms a later.0)
    (faulty_bars rest false h.1 v (n + 1 + length h.0) f shorts.1 later.1))))

-- a faulty item
faulty_item : (i : Item) (c : Context) (u v : List ℕ) (n : ℕ) (f : ExprError) → IsOutside c → length u ≤ 8192 → ItemText i u → FirstOfItem i u n f
    → FindsFault (at c token.Between) n (u ++ v) f
faulty_item (item.Byte b) c u v n f o short text h = absurd h
faulty_item item.Any c u v n f o short text h = absurd h
faulty_item (item.Gap least max) c u v n f o short text h = faulty_scan c u v n _ [] _ f (gap_scans c o least max u text) (gap_refused least max n f h)
faulty_item (item.Alt as') c u v n f o short text h =
    let front = cut_short u h.0 (41 ∷ []) h.1 short in
    rw (h.1, append_assoc h.0 (41 ∷ []) v) (faulty_list as' c h.0 (41 ∷ v) n f o front.0 h.2)
faulty_item (item.Range a b) c u v n f o short text h = faulty_scan c u v n _ [] _ f (range_scans c a b u text)
    (range_text_refused false (91 ∷ []) a b u n f text short h)
faulty_item (item.Not a) c u v n f o short text h = faulty_scan c u v n _ [] _ f (not_scans c a u text) (not_text_refused a u n f text short h)
faulty_item (item.NotRange a b) c u v n f o short text h = faulty_scan c u v n _ [] _ f (not_range_scans c a b u text)
    (range_text_refused true (91 ∷ 33 ∷ []) a b u n f text short h)

-- items, one of which is faulty
faulty_items : (e : List Item) (c : Context) (t : List ℕ) (n : ℕ) (f : ExprError) → IsOutside c → length t ≤ 8192 → FirstOfItems e t n f
    → FindsFault (at c token.Between) n t f
faulty_items [] c t n f o short h = absurd h
faulty_items (i ∷ e) c t n f o short h =
    let shorts = cut_short t h.0 h.1 h.2 short in
    rw h.2 (either h.5 (λ first. faulty_item i c h.0 h.1 n f o shorts.0 h.3 first)
    (λ later. past _ h.0 h.1 _ n _ f (item_scans c o i h.0 h.3) (quiet_item i later.0)
    (faulty_items e context.After h.1 (n + length h.0) f tt shorts.1 later.1)))

-- items with a first fault are spelled, and there is one
first_spells : (e : List Item) (t : List ℕ) (n : ℕ) (f : ExprError) → FirstOfItems e t n f → Spells e t × (0 < length e)
first_spells [] t n f h = absurd h
first_spells (i ∷ e) t n f h = ((h.0, h.1, h.2, h.3, h.4), omega arith)

-- the first fault is answered
pub first_answered : (f : ExprError) (t : List ℕ) → IsFirstFault f t → expr_of t ≡ Err f
unfolding expr_of
first_answered f t h =
    let text = first_spells h.items t 0 f h.first in
    let short : nat_lt 8192 (length t) ≡ false = grind (arith, nat_tests, h.short) in
    let faulty : fault_in t ≡ Some f = faulty_items h.items context.Start t 0 f tt h.short h.first 0 in
    rw (short, text_goes_on h.items t text.1 text.0, faulty) refl

ok_or_err : {A E : Type 0} (e : A) (f : E) (r : Result A E) → r ≡ Ok e → r ≡ Err f → ⊥
ok_or_err e f r p q = absurd (cc)

-- a text with a first fault is of the grammar and not in the profile
pub first_faulty : (f : ExprError) (t : List ℕ) → IsFirstFault f t → IsFaulty t
first_faulty f t h =
    let text = first_spells h.items t 0 f h.first in
    record {
      short = h.short;
      is_text = (h.items, text.1, text.0);
      outside = λ p. ok_or_err p.items f (expr_of t) (read_text p.items t p p.spells) (first_answered f t h);
    }

judged_atoms : (ps : List Atom) (t : List ℕ) (n : ℕ) → AlternativeText ps t → AtomsSound ps ⊎ ((f : ExprError) × FirstOfAtoms ps t n f)
judged_atoms [] t n h = inl tt
judged_atoms (p ∷ ps) t n h =
    either (judged_atom p h.0 n h.3)
    (λ sound. either (judged_atoms ps h.1 (n + length h.0) h.4) (λ s. inl (sound, s)) (λ k. inr (k.0, (h.0, h.1, h.2, h.3, h.4, inr (sound, k.1)))))
    (λ k. inr (k.0, (h.0, h.1, h.2, h.3, h.4, inl k.1)))

judged_alternatives : (sign : List ℕ) (as' : List (List Atom)) (t : List ℕ) (n : ℕ) → AlternativesText sign as' t → AlternativesSound as'
    ⊎ ((f : ExprError) × FirstOfAlternatives sign as' t n f)
judged_alternatives sign [] t n h = inl tt
judged_alternatives sign (a ∷ rest) t n h =
    either (judged_atoms a h.0 (n + 1) h.4)
    (λ sound. either (judged_alternatives (124 ∷ []) rest h.1 (n + 1 + length h.0) h.5) (λ s. inl (sound, s, h.3))
    (λ k. inr (k.0, (h.0, h.1, h.2, h.3, h.4, h.5, inr (sound, k.1)))))
    (λ k. inr (k.0, (h.0, h.1, h.2, h.3, h.4, h.5, inl k.1)))

judged_item : (i : Item) (t : List ℕ) (n : ℕ) → ItemText i t → ItemSound i ⊎ ((f : ExprError) × FirstOfItem i t n f)
judged_item (item.Byte b) t n h = inl (pair_small b t h)
judged_item item.Any t n h = inl tt
judged_item (item.Gap least max) t n h = judged_gap least max n
judged_item (item.Alt as') t n h = either (judged_alternatives (40 ∷ []) as' h.inside n h.is_inside) (λ s. inl (s, h.two))
    (λ k. inr (k.0, (h.inside, h.text, k.1)))
judged_item (item.Range a b) t n h = judged_atom (atom.Range a b) t n h
judged_item (item.Not a) t n h = judged_atom (atom.Not a) t n h
judged_item (item.NotRange a b) t n h = judged_atom (atom.NotRange a b) t n h

-- items that are spelled have no fault or a first one
judged_items : (e : List Item) (t : List ℕ) (n : ℕ) → Spells e t → ItemsSound e ⊎ ((f : ExprError) × FirstOfItems e t n f)
judged_items [] t n h = inl tt
judged_items (i ∷ e) t n h =
    either (judged_item i h.0 n h.3)
    (λ sound. either (judged_items e h.1 (n + length h.0) h.4) (λ s. inl (sound, s)) (λ k. inr (k.0, (h.0, h.1, h.2, h.3, h.4, inr (sound, k.1)))))
    (λ k. inr (k.0, (h.0, h.1, h.2, h.3, h.4, inl k.1)))

same_fault : (f g : ExprError) (x : Option ExprError) → x ≡ Some f → x ≡ Some g → f ≡ g
same_fault f g x p q = cc

-- a text of the grammar that is not in the profile has a first fault
pub faulty_first : (t : List ℕ) → IsFaulty t → (f : ExprError) × IsFirstFault f t
faulty_first t h =
    either (judged_items h.is_text.0 t 0 h.is_text.2)
    (λ sound. absurd (h.outside (record { items = h.is_text.0; some = h.is_text.1; short = h.short; spells = h.is_text.2; sound = sound })))
    (λ k. (k.0, record { short = h.short; items = h.is_text.0; first = k.1 }))

-- the fault that is found is the first
pub found_first : (f : ExprError) (t : List ℕ) → length t ≤ 8192 → stop_of t ≡ None → fault_in t ≡ Some f → IsFirstFault f t
found_first f t short stops faulty =
    let text = stops_nowhere t stops in
    either (judged_items text.0 t 0 text.2)
    (λ sound. let quiet = quiet_text text.0 t text.1 text.2 sound in absurd (cc))
    (λ k.
    let found_so : fault_in t ≡ Some k.0 = faulty_items text.0 context.Start t 0 k.0 tt short k.1 0 in
    let same : k.0 ≡ f = same_fault k.0 f (fault_in t) found_so faulty in
    record { short = short; items = text.0; first = rw same at k.1 })
