-- From the bytes at hand to the file: what a sequence waits for behind an attempt.
use Rattle.sig_scan.proofs.Common.{◌≡◌, ℕ, ◌+◌, ◌-◌, ◌≤◌, ◌<◌, inl, inr, List, [], ◌∷◌, ◌++◌, length, max, take, drop, drop-cons, get_or, add-one, suc, ap, ◌∙◌}
use Rattle.sig_scan.proofs.Common.{subst, sym, arith, length-append, Option, Some, None, rules, ◌↔◌, Bool, IsTrue, is_some, leb, cases_lt, le-leb, leb-true}
use Rattle.sig_scan.proofs.Common.{length-take-le, Item, IsAtMost, IsLeastEnd, AreBounded, span, IsLiteralOf, LiteralView, StandsAt, Lies, HasLastBytes}
use Rattle.sig_scan.proofs.Common.{InTurnAt, IsFirstOf, IsShort, TailIsShort, WaitsAt, IsFirstEnd, StageView, TailStands, TailView, Waits, SequenceView, false}
use Rattle.sig_scan.proofs.Common.{true, get_or_default, WaitsOn, HasSight, Stands}
use Rattle.sig_scan.proofs.LiesLemmas.{Lies-behind}
use Rattle.sig_scan.proofs.AttemptLemmas.{Lies-take, Lies-taken}
use Rattle.sig_scan.proofs.TurnLemmas.{TailStands-last, TailStands-near}
use Rattle.sig_scan.proofs.WaitLemmas.{Waits-advanced, Waits-judged, Waits-past}

-- the offsets of the bytes at hand below `until` are those at which the stage may begin
abbrev pub MayBegin : StageView → List ℕ → List ℕ → ℕ → Type 0
MayBegin t before bytes until = (x : ℕ) → x < length bytes + 1 → (x < until) ↔ IsAtMost t.until (length before + x)

-- a word of the file that lies in the bytes at hand
pub Lies-at_hand : (items : List Item) (before bytes : List ℕ) (start end : ℕ) → length before ≤ start → Lies items (before ++ bytes) start end
    → Lies items bytes (start - length before) (end - length before)
Lies-at_hand items before bytes start end order l =
    let upright = l.in_order in
    let one : start ≡ length before + (start - length before) = omega arith in
    let two : end ≡ length before + (end - length before) = omega arith in
    (Lies-behind items before bytes (start - length before) (end - length before)).1
    (subst (λ (a : ℕ). Lies items (before ++ bytes) a (length before + (end - length before))) one (subst (Lies items (before ++ bytes) start) two l))

-- the first end in the bytes at hand is that of the file
pub IsFirstEnd-at_hand : (t : StageView) (before bytes : List ℕ) (from until limit e : ℕ) → MayBegin t before bytes until
    → IsFirstOf t.items bytes from until limit (Some e) → IsFirstEnd t (before ++ bytes) (length before + from) (length before + e)
IsFirstEnd-at_hand t before bytes from until limit e may found =
    let h = found.0 in
    let low = h.first in
    let upright = h.lies.in_order in
    let within = h.lies.within in
    let x : ℕ = h.start in
    record {
      ends = record {
        start = length before + x;
        not_before = omega arith;
        not_behind = (may x (omega arith)).0 h.last;
        lies = (Lies-behind t.items before bytes x e).0 h.lies;
      };
      first = λ other w.
          let behind = w.not_before in
          let order = w.lies.in_order in
          let inside = w.lies.within in
          let len = length-append before bytes in
          let y : ℕ = w.start - length before in
          let at : length before + y ≡ w.start = omega arith in
          let least = found.1 (other - length before) (record {
            start = y;
            first = omega arith;
            last = (may y (omega arith)).1 (subst (IsAtMost t.until) (sym at) w.not_behind);
            lies = Lies-at_hand t.items before bytes w.start other (omega arith) w.lies;
          }) in
          omega arith;
    }

-- where a word was found, the sequence waits for the next stage behind its end
pub Waits-ended : (is_last : Bool) (s : SequenceView) (t : StageView) (before bytes : List ℕ) (from until limit e : ℕ) (later : List StageView)
    (tail : Option TailView) → MayBegin t before bytes until → IsFirstOf t.items bytes from until limit (Some e)
    → WaitsOn is_last s before bytes from (t ∷ later) tail → WaitsOn is_last s before bytes (e + t.delay) later tail
Waits-ended is_last s t before bytes from until limit e later tail may found waits =
    let next = Waits-advanced is_last s t (before ++ bytes) (length before + from) (length before + e) later tail
    (IsFirstEnd-at_hand t before bytes from until limit e may found) waits in
    let sum : length before + e + t.delay ≡ length before + (e + t.delay) = omega arith in
    subst (λ (n : ℕ). Waits is_last s (before ++ bytes) n later tail) sum next

-- what is in sight of the bytes at hand is so in the file, also for shorter words and below
sight-at : (is_last : Bool) (before bytes : List ℕ) (to reach few : ℕ) → few ≤ reach → HasSight is_last to reach (length bytes)
    → HasSight is_last (length before + to) few (length (before ++ bytes))
sight-at false before bytes to reach few less sight = let len = length-append before bytes in omega arith
sight-at true before bytes to reach few less sight = tt

pub sight-below : (is_last : Bool) (limit to reach len : ℕ) → to ≤ limit → HasSight is_last limit reach len → HasSight is_last to reach len
sight-below false limit to reach len below sight = omega arith
sight-below true limit to reach len below sight = tt

-- where no word begins, it waits from behind the offsets
pub Waits-skipped : (is_last : Bool) (s : SequenceView) (t : StageView) (before bytes : List ℕ) (from to reach : ℕ) (later : List StageView)
    (tail : Option TailView) → IsShort reach t → from ≤ to → HasSight is_last to reach (length bytes)
    → ((x end : ℕ) → from ≤ x → x < to → IsAtMost t.until (length before + x) → ¬ Lies t.items bytes x end)
    → WaitsOn is_last s before bytes from (t ∷ later) tail → WaitsOn is_last s before bytes to (t ∷ later) tail
Waits-skipped is_last s t before bytes from to reach later tail short order sight none waits =
    Waits-past is_last s t (before ++ bytes) (length before + from) (length before + to) later tail short.bounded (omega arith)
    (sight-at is_last before bytes to reach (span t.items) short.few sight)
    (λ start end low high at l.
    let x : ℕ = start - length before in
    let is : length before + x ≡ start = omega arith in
    none x (end - length before) (omega arith) (omega arith) (subst (IsAtMost t.until) (sym is) at)
    (Lies-at_hand t.items before bytes start end (omega arith) l)) waits

-- where none of those that may begin does, it waits from behind the offsets that were tried
pub Waits-tried : (is_last : Bool) (s : SequenceView) (t : StageView) (before bytes : List ℕ) (from until limit reach : ℕ) (later : List StageView)
    (tail : Option TailView) → IsShort reach t → from ≤ limit → HasSight is_last limit reach (length bytes) → MayBegin t before bytes until
    → IsFirstOf t.items bytes from until limit None → WaitsOn is_last s before bytes from (t ∷ later) tail
    → WaitsOn is_last s before bytes limit (t ∷ later) tail
Waits-tried is_last s t before bytes from until limit reach later tail short order sight may none waits =
    Waits-skipped is_last s t before bytes from limit reach later tail short order sight
    (λ x end low high at l. let inside = l.within in let upright = l.in_order in none x end low ((may x (omega arith)).1 at) high l) waits

-- a sequence of which all stages have ended waits for its tail alone, from each offset on that is far enough from the end
pub Waits-tail : (s : SequenceView) (before bytes : List ℕ) (from limit reach : ℕ) (tail : Option TailView) → TailIsShort reach tail → from ≤ limit
    → limit + reach ≤ length bytes → WaitsAt s before bytes from [] tail → WaitsAt s before bytes limit [] tail
Waits-tail s before bytes from limit reach None short order sight waits =
    let len = length-append before bytes in
    record {
      residual = λ more later.
          let known = waits.residual more later in
          let all = length-append (before ++ bytes) more in
          (λ _. omega arith, λ _. known.1 (omega arith));
    }
Waits-tail s before bytes from limit reach (Some t) short order sight waits =
    let len = length-append before bytes in
    let few = short.1 in
    record {
      residual = λ more later.
          let known = waits.residual more later in
          let all = length-append (before ++ bytes) more in
          let near = TailStands-near ((before ++ bytes) ++ more) t (length before + from) (length before + limit) short.0 (omega arith) (omega arith) in
          (λ stands. near.0 (known.0 stands), λ tail. known.1 (near.1 tail));
    }

-- the stage at an index, and those behind it
pub stages-next : (stages : List StageView) (k : ℕ) (t : StageView) → k < length stages → t ≡ get_or stages k t → drop k stages ≡ t ∷ drop (k + 1) stages
stages-next stages k t inside is = rw (add-one) (drop-cons stages k t inside ∙ ap (λ v. v ∷ drop (suc k) stages) (sym is))

-- at the end of the file no stage is left that stands behind it
pub InTurn-beyond : (before bytes : List ℕ) (from done : ℕ) (stages : List StageView) (tail : Option TailView) → length bytes < from → done < length stages
    → ¬ InTurnAt before bytes from (drop done stages) tail
InTurn-beyond before bytes from done stages tail behind some =
    let t = get_or stages done (record { items = []; until = None; delay = 0 }) in
    let len = length-append before bytes in
    subst (λ (l : List StageView). ¬ InTurnAt before bytes from l tail)
    (sym (stages-next stages done t some (sym (get_or_default stages done t (record { items = []; until = None; delay = 0 }) some))))
    (λ turn.
    let ends = turn.1 in
    let low = ends.not_before in
    let upright = ends.lies.in_order in
    let within = ends.lies.within in
    omega arith)

-- at the end of the file: the tail is judged in the bytes at hand
pub TailStands-at_hand : (before bytes : List ℕ) (from reach : ℕ) (t : TailView) → TailIsShort reach (Some t) → HasLastBytes reach before bytes
    → TailStands t (before ++ bytes) (length before + from) ↔ TailStands t bytes from
TailStands-at_hand before bytes from reach t short (inl none) =
    let zero : from ≡ length {A = ℕ} [] + from = omega arith in
    let same : TailStands t bytes (length {A = ℕ} [] + from) ↔ TailStands t bytes from =
    subst (λ (n : ℕ). TailStands t bytes n ↔ TailStands t bytes from) zero (λ w. w, λ w. w) in
    subst (λ (b : List ℕ). TailStands t (b ++ bytes) (length b + from) ↔ TailStands t bytes from) (sym none) same
TailStands-at_hand before bytes from reach t short (inr enough) =
    let few = short.1 in
    let is : length before + from - length before ≡ from = omega arith in
    subst (λ (n : ℕ). TailStands t (before ++ bytes) (length before + from) ↔ TailStands t bytes n) is
    (TailStands-last before bytes t (length before + from) short.0 (omega arith))

-- the tail stands where a word of it ends neither too near the end nor too far from it
pub TailStands-found : (t : TailView) (bytes : List ℕ) (from last least e : ℕ) → t.min ≤ length bytes → last ≡ length bytes - t.min
    → least ≡ length bytes - t.max → IsLeastEnd t.items (take last bytes) from (last + 1) least (Some e) → TailStands t bytes from
TailStands-found t bytes from last least e fits last_is least_is found =
    let h = found.1 in
    let low = found.0 in
    let inside : last ≤ length bytes = omega arith in
    let within = h.lies.within in
    let len = length-take-le last bytes inside in
    record {
      start = h.start;
      end = e;
      not_before = h.first;
      lies = Lies-taken t.items bytes last h.start e inside h.lies;
      least = omega arith;
      greatest = omega arith;
    }

-- and it does not where none does
pub TailStands-never : (t : TailView) (bytes : List ℕ) (from last least : ℕ) → t.min ≤ length bytes → last ≡ length bytes - t.min
    → least ≡ length bytes - t.max → IsLeastEnd t.items (take last bytes) from (last + 1) least None → ¬ TailStands t bytes from
TailStands-never t bytes from last least fits last_is least_is none w =
    let near = w.least in
    let far = w.greatest in
    let order = w.lies.in_order in
    none w.end (omega arith) (record {
      start = w.start;
      first = w.not_before;
      last = omega arith;
      lies = Lies-take t.items bytes last w.start w.end (omega arith) (omega arith) w.lies;
    })

-- both
pub TailStands-judged : (t : TailView) (bytes : List ℕ) (from last least : ℕ) (found : Option ℕ) → t.min ≤ length bytes → last ≡ length bytes - t.min
    → least ≡ length bytes - t.max → IsLeastEnd t.items (take last bytes) from (last + 1) least found → IsTrue (is_some found) ↔ TailStands t bytes from
TailStands-judged t bytes from last least (Some e) fits last_is least_is found =
    (λ _. TailStands-found t bytes from last least e fits last_is least_is found, λ _. search rules)
TailStands-judged t bytes from last least None fits last_is least_is none =
    (λ no. search rules, λ w. absurd (TailStands-never t bytes from last least fits last_is least_is none w))

-- at the end of the file, what stands in turn where no stage is left: the tail, judged in the bytes at hand
pub InTurn-tail : (before bytes : List ℕ) (from reach : ℕ) (stages : List StageView) (tail : Option TailView) (t : TailView) (b : Bool) → stages ≡ []
    → tail ≡ Some t → TailIsShort reach tail → HasLastBytes reach before bytes → (AreBounded t.items → IsTrue b ↔ TailStands t bytes from)
    → IsTrue b ↔ InTurnAt before bytes from stages tail
InTurn-tail before bytes from reach stages tail t b none some short last judged =
    let t_short : TailIsShort reach (Some t) = subst (TailIsShort reach) some short in
    let at_hand = TailStands-at_hand before bytes from reach t t_short last in
    let is = judged t_short.0 in
    let both : IsTrue b ↔ InTurnAt before bytes from [] (Some t) = (λ yes. at_hand.1 (is.0 yes), λ turn. is.1 (at_hand.0 turn)) in
    subst (λ (l : List StageView). IsTrue b ↔ InTurnAt before bytes from l tail) (sym none)
    (subst (λ (o : Option TailView). IsTrue b ↔ InTurnAt before bytes from [] o) (sym some) both)

-- what is left of a sequence judges it
pub Stands-left : (s : SequenceView) (before bytes : List ℕ) (from : ℕ) (stages : List StageView) (tail : Option TailView) (b : Bool)
    → WaitsOn true s before bytes from stages tail → IsTrue b ↔ InTurnAt before bytes from stages tail → IsTrue b ↔ Stands s (before ++ bytes)
Stands-left s before bytes from stages tail b waits is =
    let judged = Waits-judged true s (before ++ bytes) (length before + from) stages tail waits in
    (λ yes. judged.1 (is.0 yes), λ stands. is.1 (judged.0 stands))

-- or nothing, which stands where the offset is one of the file
pub InTurn-end : (before bytes : List ℕ) (from : ℕ) (stages : List StageView) (tail : Option TailView) → stages ≡ [] → tail ≡ None
    → IsTrue (leb from (length bytes)) ↔ InTurnAt before bytes from stages tail
InTurn-end before bytes from stages tail none lacks =
    let len = length-append before bytes in
    let both : IsTrue (leb from (length bytes)) ↔ InTurnAt before bytes from [] None =
    (λ yes. let le = leb-true from (length bytes) yes in omega arith, λ fits. le-leb from (length bytes) (omega arith)) in
    subst (λ (l : List StageView). IsTrue (leb from (length bytes)) ↔ InTurnAt before bytes from l tail) (sym none)
    (subst (λ (o : Option TailView). IsTrue (leb from (length bytes)) ↔ InTurnAt before bytes from [] o) (sym lacks) both)

-- the tail stands where a word of it does that begins near enough to the end
pub TailStands-close : (t : TailView) (bytes : List ℕ) (from near far : ℕ) → AreBounded t.items → far ≡ length bytes - t.max - span t.items
    → near ≡ max from far → TailStands t bytes from ↔ TailStands t bytes near
TailStands-close t bytes from near far bounded far_is near_is =
    elim (cases_lt from far) [
      | inr behind ↦ (
          let same : from ≡ near = omega arith in
          subst (λ (n : ℕ). TailStands t bytes from ↔ TailStands t bytes n) same (λ w. w, λ w. w))
      | inl before ↦ TailStands-near bytes t from near bounded (omega arith) (omega arith)
    ]

-- and where its literal does
pub TailStands-literal : (t : TailView) (literal : LiteralView) (bytes : List ℕ) (from first last : ℕ) → IsLiteralOf t.items literal
    → last ≤ length bytes → last + t.min ≡ length bytes → from ≤ first
    → ((x : ℕ) → from ≤ x → x < first → ¬ StandsAt literal (take last bytes) (x + literal.at)) → TailStands t bytes from ↔ TailStands t bytes first
TailStands-literal t literal bytes from first last is inside last_is order none = (
  λ w.
      let near = w.least in
      let before = w.not_before in
      let behind : first ≤ w.start =
      elim (cases_lt w.start first) [
        | inl early ↦ absurd (none w.start before early
            (is.stands (take last bytes) w.start w.end (Lies-take t.items bytes last w.start w.end inside (omega arith) w.lies)))
        | inr late ↦ late
      ] in
      record { start = w.start; end = w.end; not_before = behind; lies = w.lies; least = w.least; greatest = w.greatest },
  λ w.
      let behind = w.not_before in
      record { start = w.start; end = w.end; not_before = omega arith; lies = w.lies; least = w.least; greatest = w.greatest },
)

pub TailStands-nowhere : (t : TailView) (literal : LiteralView) (bytes : List ℕ) (from last : ℕ) → IsLiteralOf t.items literal
    → last ≤ length bytes → last + t.min ≡ length bytes
    → ((x : ℕ) → from ≤ x → x < last + 1 → ¬ StandsAt literal (take last bytes) (x + literal.at)) → ¬ TailStands t bytes from
TailStands-nowhere t literal bytes from last is inside last_is none w =
    let near = w.least in
    let order = w.lies.in_order in
    none w.start w.not_before (omega arith)
    (is.stands (take last bytes) w.start w.end (Lies-take t.items bytes last w.start w.end inside (omega arith) w.lies))
