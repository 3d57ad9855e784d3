-- What is read and what is refused, in plain words.
use Rattle.std.proofs.Common.{◌≡◌, ◌≢◌, ℕ, ◌+◌, ◌-◌, ◌<◌, ◌≤◌, Bool, true, false, cond, List, [], ◌∷◌, ◌++◌, length, take, suc, length-append, Option, Some}
use Rattle.std.proofs.Common.{None, Result, Ok, Err, refl, sym, ◌∙◌, ap, arith, nat_lt, append_assoc, append-nil}
use Rattle.std.specs.Prelude.{IsOk}
use Rattle.std.proofs.lemmas.Bool.Decides.{nat_tests}
use Rattle.std.proofs.Math.Seq.{take-append_seam, take-append-add}
use Rattle.sig_expr.specs.declared.end.End.{End}
use Rattle.sig_expr.specs.declared.item.Item.{Item}
use Rattle.sig_expr.specs.declared.error.ExprError.{ExprError}
use Rattle.sig_expr.specs.declared.error.ExprError.TheVariants as error
use Rattle.sig_expr.specs.declared.lexer.Context.{Context}
use Rattle.sig_expr.specs.declared.lexer.Context.TheVariants as context
use Rattle.sig_expr.specs.declared.lexer.Token.{Token}
use Rattle.sig_expr.specs.declared.lexer.Token.TheVariants as token
use Rattle.sig_expr.specs.declared.lexer.State.{State}
use Rattle.sig_expr.specs.declared.lexer.Step.{Step}
use Rattle.sig_expr.specs.declared.lexer.Step.TheVariants as step
use Rattle.sig_expr.specs.Reading.{feed_of, next_of, is_end_of, start, behind_part, is_between, begin_of, item_start_of, list_start_of, part_of, go_on_of}
use Rattle.sig_expr.specs.Reading.{number_of, star_of, closed_gap_of, end_of, closed_bracket_of}
use Rattle.sig_expr.proofs.Scans.{run, run_at}
use Rattle.sig_expr.specs.Passes.{stop_of, stop_from, stop_at, fault_in, items_of}
use Rattle.sig_expr.specs.Texts.{expr_of, unless_stop, unless_fault}
use Rattle.sig_expr.specs.Spelling.{Spells, IsText}
use Rattle.sig_expr.specs.Profile.{InProfile}
use Rattle.sig_expr.specs.Refusals.{Begins, IsLongestFront, IsNoText, Means}
use Rattle.sig_expr.proofs.FaultLemmas.{fault_means}
use Rattle.sig_expr.proofs.FirstFaultLemmas.{found_first}
use Rattle.sig_expr.proofs.ProfileLemmas.{sound_text, items_text, stop_behind, text_goes_on}
use Rattle.sig_expr.proofs.FrontLemmas.{stops_nowhere}

some_never : {A : Type 0} {P : Type 0} (x : A) → Some x ≡ None → P
some_never x e = absurd (cc)

-- a text with no refusal is in the profile, and spells what is built
pub spells_built : (t : List ℕ) → length t ≤ 8192 → stop_of t ≡ None → fault_in t ≡ None → InProfile t × Spells (items_of t) t
spells_built t short stops quiet =
    let text = stops_nowhere t stops in
    let sound = sound_text text.0 t text.1 text.2 quiet in
    let same : items_of t ≡ text.0 = items_text text.0 t text.1 text.2 sound in
    (record { items = text.0; some = text.1; short = short; spells = text.2; sound = sound }, rw same text.2)

spelled_by : (x : Option ExprError) (built e : List Item) → unless_fault x built ≡ Ok e → (x ≡ None) × (built ≡ e)
spelled_by None built e q = (refl, cc)
spelled_by (Some f) built e q = absurd (cc)

not_stopped : (x : Option ℕ) (answer : Result (List Item) ExprError) (e : List Item) → unless_stop x answer ≡ Ok e → (x ≡ None) × (answer ≡ Ok e)
not_stopped None answer e q = (refl, q)
not_stopped (Some n) answer e q = absurd (cc)

not_long : (b : Bool) (answer : Result (List Item) ExprError) (e : List Item) → cond b (Err error.TooLong) answer ≡ Ok e → (b ≡ false) × (answer ≡ Ok e)
not_long true answer e q = absurd (cc)
not_long false answer e q = (refl, q)

-- what is read is in the profile and spelled
pub read_spells : (e : List Item) (t : List ℕ) → expr_of t ≡ Ok e → InProfile t × Spells e t
unfolding expr_of
read_spells e t answer =
    let one = not_long (nat_lt 8192 (length t)) _ e answer in
    let two = not_stopped (stop_of t) _ e one.1 in
    let three = spelled_by (fault_in t) (items_of t) e two.1 in
    let short : length t ≤ 8192 = grind (arith, nat_tests, one.0) in
    rw three.1 at (spells_built t short two.0 three.0)

-- where something is read, the text is in the profile
pub read_in_profile : (r : Result (List Item) ExprError) (t : List ℕ) → expr_of t ≡ r → IsOk r → InProfile t
read_in_profile (Ok e) t q h = (read_spells e t q).0
read_in_profile (Err f) t q h = absurd (cc)

abbrev at : Context → Token → State
at c k = record { context = c; token = k }

-- what completes an end of a bracket
abbrev end_rest : Bool → Option End → List ℕ
end_rest true None = 93 ∷ []
end_rest false None = 58 ∷ 48 ∷ 48 ∷ 93 ∷ []
end_rest not (Some f) = 93 ∷ []

-- what completes a piece
abbrev token_rest : Token → List ℕ
token_rest token.Between = []
token_rest (token.Half x) = 48 ∷ []
token_rest token.Question = 63 ∷ []
token_rest (token.NumberStart m) = 48 ∷ 125 ∷ []
token_rest (token.Number m n) = 125 ∷ []
token_rest (token.Star m) = 125 ∷ []
token_rest token.Bracket = 33 ∷ 48 ∷ 48 ∷ 93 ∷ []
token_rest (token.EndStart not f) = 48 ∷ 48 ∷ end_rest not f
token_rest (token.EndHalf not f e x) = 48 ∷ end_rest not f
token_rest (token.EndPair not f e) = end_rest not f

-- what completes a text between pieces
abbrev context_rest : Context → List ℕ
context_rest context.Start = 48 ∷ 48 ∷ []
context_rest context.After = []
context_rest (context.List true true) = 41 ∷ []
context_rest (context.List true false) = 48 ∷ 48 ∷ 41 ∷ []
context_rest (context.List false true) = 124 ∷ 48 ∷ 48 ∷ 41 ∷ []
context_rest (context.List false false) = 48 ∷ 48 ∷ 124 ∷ 48 ∷ 48 ∷ 41 ∷ []

context_done : (c : Context) (n : ℕ) → stop_from (at c token.Between) n (context_rest c) ≡ None
unfolding stop_from feed_of begin_of item_start_of list_start_of part_of go_on_of
context_done context.Start n = refl
context_done context.After n = refl
context_done (context.List true true) n = refl
context_done (context.List true false) n = refl
context_done (context.List false true) n = refl
context_done (context.List false false) n = refl

token_done : (c : Context) (k : Token) → is_between k ≡ false → run (at c k) (token_rest k) ≡ Some (at (behind_part c) token.Between)
unfolding run feed_of go_on_of number_of star_of closed_gap_of end_of closed_bracket_of
token_done c token.Between e = absurd (cc)
token_done c (token.Half x) e = refl
token_done c token.Question e = refl
token_done c (token.NumberStart None) e = refl
token_done c (token.NumberStart (Some m)) e = refl
token_done c (token.Number None n) e = refl
token_done c (token.Number (Some m) n) e = refl
token_done c (token.Star m) e = refl
token_done c token.Bracket e = refl
token_done c (token.EndStart true None) e = refl
token_done c (token.EndStart false None) e = refl
token_done c (token.EndStart true (Some f)) e = refl
token_done c (token.EndStart false (Some f)) e = refl
token_done c (token.EndHalf true None g x) e = refl
token_done c (token.EndHalf false None g x) e = refl
token_done c (token.EndHalf true (Some f) g x) e = refl
token_done c (token.EndHalf false (Some f) g x) e = refl
token_done c (token.EndPair true None g) e = refl
token_done c (token.EndPair false None g) e = refl
token_done c (token.EndPair true (Some f) g) e = refl
token_done c (token.EndPair false (Some f) g) e = refl

abbrev Completes : State → ℕ → Type 0
Completes s n = (u : List ℕ) × (stop_from s n u ≡ None)

completes_by : (c : Context) (k : Token) (n : ℕ) (b : Bool) → is_between k ≡ b → Completes (at c k) n
completes_by c token.Between n b e = (context_rest c, context_done c n)
completes_by c k n true e = absurd (cc)
completes_by c k n false e = (
  token_rest k ++ context_rest (behind_part c),
  stop_behind (at c k) n (token_rest k) (context_rest (behind_part c)) (at (behind_part c) token.Between) (token_done c k e) ∙ context_done (behind_part c) _,
)

-- a front that is read, and a byte behind it that is refused, unless the text ends there
record Stopped (s : State) (n : ℕ) (t : List ℕ) (m : ℕ) : Type 0 where
  front : List ℕ
  rest : List ℕ
  state : State
  cut : t ≡ front ++ rest
  place : m ≡ n + length front
  ran : run s front ≡ Some state
  refuses : (b : ℕ) (z : List ℕ) → rest ≡ b ∷ z → feed_of state b ≡ step.Refused

stopped_end : (b : Bool) (n m : ℕ) → cond b None (Some n) ≡ Some m → m ≡ n
stopped_end true n m e = absurd (cc)
stopped_end false n m e = cc

stopped_on : (s : State) (b : ℕ) (t : List ℕ) (n m : ℕ) (k : Step) → feed_of s b ≡ k → k ≢ step.Refused → Stopped (next_of s k) (n + 1) t m
    → Stopped s n (b ∷ t) m
unfolding run
stopped_on s b t n m k e goes h = record {
  front = b ∷ h.front;
  rest = h.rest;
  state = h.state;
  cut = ap (λ (x : List ℕ). b ∷ x) h.cut;
  place = omega (arith, h.place);
  ran = rw e (ran_on k (run (next_of s k) h.front) h.state goes h.ran);
  refuses = h.refuses;
}
  where
    ran_on : (k : Step) (r : Option State) (y : State) → k ≢ step.Refused → r ≡ Some y → run_at k r ≡ Some y
    ran_on step.Refused r y goes q = absurd (goes refl)
    ran_on (step.More k) r y goes q = q
    ran_on (step.Whole p) r y goes q = q

same_head : (b c : ℕ) (t z : List ℕ) → b ∷ t ≡ c ∷ z → b ≡ c
same_head b c t z e = cc

stopped_at : (s : State) (b : ℕ) (t : List ℕ) (n m : ℕ) (k : Step) → feed_of s b ≡ k → ((z : State) → stop_from z (n + 1) t ≡ Some m → Stopped z (n + 1) t m)
    → stop_at k n (stop_from (next_of s k) (n + 1) t) ≡ Some m → Stopped s n (b ∷ t) m
unfolding run
stopped_at s b t n m step.Refused e later q =
    let same : n ≡ m = cc in
    record { front = []; rest = b ∷ t; state = s; cut = refl; place = omega arith; ran = refl; refuses = λ c z r. rw (← same_head b c t z r) e }
stopped_at s b t n m (step.More k) e later q = stopped_on s b t n m (step.More k) e (λ r. cc) (later _ q)
stopped_at s b t n m (step.Whole p) e later q = stopped_on s b t n m (step.Whole p) e (λ r. cc) (later _ q)

stopped : (t : List ℕ) (s : State) (n m : ℕ) → stop_from s n t ≡ Some m → Stopped s n t m
unfolding stop_from run
stopped [] s n m e = let same = stopped_end (is_end_of s) n m e in
    record { front = []; rest = []; state = s; cut = refl; place = omega (arith, same); ran = refl; refuses = λ b z r. absurd (cc) }
stopped (b ∷ t) s n m e = stopped_at s b t n m (feed_of s b) refl (λ z q. stopped t z (n + 1) m q) e

take_on : (front z : List ℕ) (b m : ℕ) → length front < m → (w : List ℕ) × (take m (front ++ b ∷ z) ≡ front ++ b ∷ w)
take_on front z b m h =
    let far : m ≡ length front + suc (m - length front - 1) = omega arith in
    (take (m - length front - 1) z, ap (λ (k : ℕ). take k (front ++ b ∷ z)) far ∙ take-append-add front (b ∷ z) (suc (m - length front - 1)))

-- no text goes on from a refused byte
no_text_on : (y : State) (front w : List ℕ) (b : ℕ) → run start front ≡ Some y → feed_of y b ≡ step.Refused → IsText (front ++ b ∷ w) → ⊥
unfolding stop_from
no_text_on y front w b ran refused text =
    let stops : stop_from y (0 + length front) (b ∷ w) ≡ None = sym (stop_behind start 0 front (b ∷ w) y ran) ∙ text_goes_on text.0 _ text.1 text.2 in
    some_never _ (rw refused at stops)

no_longer : (t : List ℕ) (n m : ℕ) (h : Stopped start 0 t n) → n < m → m ≤ length t → Begins (take m t) → ⊥
no_longer t n m h over within begins = by_rest h.rest refl
  where
    by_rest : (r : List ℕ) → h.rest ≡ r → ⊥
    by_rest [] e =
        let same : t ≡ h.front = h.cut ∙ rw e (append-nil h.front) in
        absurd (omega (arith, ap length same, h.place))
    by_rest (b ∷ z) e =
        let place : length h.front < m = omega (arith, h.place) in
        let on = take_on h.front z b m place in
        let whole : t ≡ h.front ++ b ∷ z = h.cut ∙ rw e refl in
        let text : IsText ((h.front ++ b ∷ on.0) ++ begins.0) = rw (← on.1, ← whole) begins.1 in
        no_text_on h.state h.front (on.0 ++ begins.0) b h.ran (h.refuses b z e) (rw (← append_assoc h.front (b ∷ on.0) begins.0) text)

front_of : (t : List ℕ) (n : ℕ) (h : Stopped start 0 t n) → take n t ≡ h.front
front_of t n h =
    let place : n ≡ length h.front = omega (arith, h.place) in
    ap (λ (x : List ℕ). take n x) h.cut ∙ ap (λ (k : ℕ). take k (h.front ++ h.rest)) place ∙ take-append_seam h.front h.rest

front_within : (t : List ℕ) (n : ℕ) (h : Stopped start 0 t n) → n ≤ length t
front_within t n h = omega (arith, h.place, ap length h.cut, length-append h.front h.rest)

-- the place of a refusal is that of the longest front that begins a text
pub longest_front : (t : List ℕ) (n : ℕ) → stop_of t ≡ Some n → IsLongestFront t n
longest_front t n e =
    let h = stopped t start 0 n e in
    let rest = completes_by h.state.context h.state.token (0 + length h.front) _ refl in
    let on : stop_of (h.front ++ rest.0) ≡ None = stop_behind start 0 h.front rest.0 h.state h.ran ∙ rest.1 in
    let front : take n t ≡ h.front = front_of t n h in
    record {
      within = front_within t n h;
      begins = (rest.0, rw front (stops_nowhere (h.front ++ rest.0) on));
      longest = λ m over within begins. no_longer t n m h over within begins;
    }

-- a text with a place of refusal is outside the grammar
pub no_text : (t : List ℕ) (n : ℕ) → length t ≤ 8192 → stop_of t ≡ Some n → IsNoText t n
no_text t n short e = record {
  short = short;
  no_text = λ text. some_never n (sym e ∙ text_goes_on text.0 t text.1 text.2);
  front = longest_front t n e;
}

means_fault : (f : ExprError) (t : List ℕ) (x : Option ExprError) → length t ≤ 8192 → stop_of t ≡ None → fault_in t ≡ x → unless_fault x (items_of t) ≡ Err f
    → Means f t
means_fault f t None short stops faulty answer = absurd (cc)
means_fault f t (Some g) short stops faulty answer =
    let same : g ≡ f = cc in
    let found : fault_in t ≡ Some f = rw same at faulty in
    fault_means start 0 0 t f found t (found_first f t short stops found)

means_stop : (f : ExprError) (t : List ℕ) (x : Option ℕ) → length t ≤ 8192 → stop_of t ≡ x → unless_stop x (unless_fault (fault_in t) (items_of t)) ≡ Err f
    → Means f t
means_stop f t None short stops answer = means_fault f t (fault_in t) short stops refl answer
means_stop f t (Some n) short stops answer =
    let same : error.Syntax n ≡ f = cc in
    rw (← same) (no_text t n short stops)

means_long : (f : ExprError) (t : List ℕ) (b : Bool) → nat_lt 8192 (length t) ≡ b
    → cond b (Err error.TooLong) (unless_stop (stop_of t) (unless_fault (fault_in t) (items_of t))) ≡ Err f → Means f t
means_long f t true e answer =
    let same : error.TooLong ≡ f = cc in
    let long : 8192 < length t = grind (arith, nat_tests, e) in
    rw (← same) long
means_long f t false e answer =
    let short : length t ≤ 8192 = grind (arith, nat_tests, e) in
    means_stop f t (stop_of t) short refl answer

-- a refusal means what it says
pub refusal_means : (f : ExprError) (t : List ℕ) → expr_of t ≡ Err f → Means f t
unfolding expr_of
refusal_means f t answer = means_long f t (nat_lt 8192 (length t)) refl answer
