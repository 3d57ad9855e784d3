-- Where the runs of a file end, byte by byte.
use Rattle.sig_auto.proofs.Common.{◌≡◌, ℕ, ◌≤◌, List, [], ◌∷◌, ◌++◌, subst, sym, ap, refl, arith, eq-eqb, ne_eqb, EndsIn, Run, Steps, Follows, Tree, Takes}
use Rattle.sig_auto.proofs.Common.{slots_of}
use Rattle.sig_auto.proofs.LocalLemmas.{IsSlot, is_first-slot, follows-slots}
use Rattle.sig_auto.proofs.RunLemmas.{follows_shown, only_last, run_states}

-- a run of the empty file is the start
pub begin_only : (tree : Tree) (q : ℕ) (front : List ℕ) → Run tree [] (front ++ q ∷ []) → q ≡ 0
begin_only tree q [] run = run.0
begin_only tree q (p ∷ []) run = absurd run.1
begin_only tree q (p ∷ (x ∷ front)) run = absurd run.1

-- one more byte, and one more state
one_more : (tree : Tree) (p : ℕ) (file states front : List ℕ) (r b q : ℕ) → Steps tree p file states → p ∷ states ≡ front ++ r ∷ [] → Follows tree r q
    → Takes tree q b → Steps tree p (file ++ b ∷ []) (states ++ q ∷ [])
one_more tree p [] [] front r b q steps e follows takes = (subst (λ x. Follows tree x q) (only_last p r front e) follows, takes, tt)
one_more tree p [] (x ∷ states) front r b q steps e follows takes = absurd steps
one_more tree p (c ∷ file) [] front r b q steps e follows takes = absurd steps
one_more tree p (c ∷ file) (x ∷ states) [] r b q steps e follows takes = absurd (cc)
one_more tree p (c ∷ file) (x ∷ states) (y ∷ front) r b q steps e follows takes = grind (arith, one_more tree x file states front r b q steps.2)

pub ends_further : (tree : Tree) (file : List ℕ) (r b q : ℕ) → EndsIn tree file r → Follows tree r q → Takes tree q b → EndsIn tree (file ++ b ∷ []) q
ends_further tree file r b q ends follows takes =
    let states = run_states tree file (ends.front ++ r ∷ []) ends.run in
    record {
      front = 0 ∷ states.0;
      run = (refl, one_more tree 0 file states.0 ends.front r b q states.2 states.1 follows takes);
    }

-- a run of one more byte, without its last state
record Before (tree : Tree) (p : ℕ) (file : List ℕ) (b q : ℕ) : Type 0 where
  states : List ℕ
  front : List ℕ
  last : ℕ
  steps : Steps tree p file states
  ends : p ∷ states ≡ front ++ last ∷ []
  follows : Follows tree last q
  takes : Takes tree q b

one_less : (tree : Tree) (p : ℕ) (file states front : List ℕ) (b q : ℕ) → Steps tree p (file ++ b ∷ []) states → p ∷ states ≡ front ++ q ∷ []
    → Before tree p file b q
one_less tree p [] [] front b q steps e = absurd steps
one_less tree p [] (x ∷ []) [] b q steps e = absurd (cc)
one_less tree p [] (x ∷ []) (y ∷ front) b q steps e =
    let rest : x ∷ [] ≡ front ++ q ∷ [] = cc in
    let same : q ≡ x = only_last x q front rest in
    record {
      states = [];
      front = [];
      last = p;
      steps = tt;
      ends = refl;
      follows = subst (λ z. Follows tree p z) (sym same) steps.0;
      takes = subst (λ z. Takes tree z b) (sym same) steps.1;
    }
one_less tree p [] (x ∷ (y ∷ states)) front b q steps e = absurd steps.2
one_less tree p (c ∷ file) [] front b q steps e = absurd steps
one_less tree p (c ∷ file) (x ∷ states) [] b q steps e = absurd (cc)
one_less tree p (c ∷ file) (x ∷ states) (y ∷ front) b q steps e =
    let rest : x ∷ states ≡ front ++ q ∷ [] = cc in
    let before : Before tree x file b q = one_less tree x file states front b q steps.2 rest in
    record {
      states = x ∷ before.states;
      front = p ∷ before.front;
      last = before.last;
      steps = (steps.0, steps.1, before.steps);
      ends = ap (λ l. p ∷ l) before.ends;
      follows = before.follows;
      takes = before.takes;
    }

pub ends_before : (tree : Tree) (file : List ℕ) (b q : ℕ) → EndsIn tree (file ++ b ∷ []) q → (p : ℕ) × EndsIn tree file p × Follows tree p q × Takes tree q b
ends_before tree file b q ends =
    let states = run_states tree (file ++ b ∷ []) (ends.front ++ q ∷ []) ends.run in
    let before : Before tree 0 file b q = one_less tree 0 file states.0 ends.front b q states.2 states.1 in
    let run : Run tree file (before.front ++ before.last ∷ []) = subst (λ l. Run tree file l) before.ends (refl, before.steps) in
    (before.last, record { front = before.front; run = run }, before.follows, before.takes)

-- only slots follow a state
pub next_is_slot : (tree : Tree) (p q : ℕ) → Follows tree p q → IsSlot tree 0 q
next_is_slot tree p q f = grind (arith, is_first-slot tree 0 q, eq-eqb, follows_shown tree p q f, follows-slots tree 0 p q, ne_eqb)

-- so the last state is one, or the first
pub last_is_slot : (tree : Tree) (p : ℕ) (file states front : List ℕ) (q : ℕ) → p ≤ slots_of tree → Steps tree p file states → p ∷ states ≡ front ++ q ∷ []
    → q ≤ slots_of tree
last_is_slot tree p [] [] front q within steps e = subst (λ x. x ≤ slots_of tree) (sym (only_last p q front e)) within
last_is_slot tree p [] (x ∷ states) front q within steps e = absurd steps
last_is_slot tree p (c ∷ file) [] front q within steps e = absurd steps
last_is_slot tree p (c ∷ file) (x ∷ states) [] q within steps e = absurd (cc)
last_is_slot tree p (c ∷ file) (x ∷ states) (y ∷ front) q within steps e = grind (arith, next_is_slot tree p x steps.0, last_is_slot tree x file states front q)
