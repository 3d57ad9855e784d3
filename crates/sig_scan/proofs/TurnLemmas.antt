-- Stages in turn: from an earlier offset on, and behind the first end of the first one.
use Rattle.sig_scan.proofs.Common.{◌≡◌, ℕ, ◌+◌, ◌-◌, ◌≤◌, ◌<◌, List, [], ◌∷◌, ◌++◌, length, length-append, Option, None, Some, subst, inl, inr, arith, ◌↔◌}
use Rattle.sig_scan.proofs.Common.{cases_lt, IsAtMost, AreBounded, span, Lies, InTurn, IsFirstEnd, TailStandsIfAny, StageEnds, StageView, TailStands, TailView}
use Rattle.sig_scan.proofs.LengthLemmas.{Lies-span}
use Rattle.sig_scan.proofs.LiesLemmas.{Lies-behind, Lies-seen_both}

-- what ends behind a later offset ends behind an earlier one
StageEnds-earlier : (s : StageView) (file : List ℕ) (from later end : ℕ) → from ≤ later → StageEnds s file later end → StageEnds s file from end
StageEnds-earlier s file from later end before ends =
    let behind = ends.not_before in record { start = ends.start; not_before = omega arith; not_behind = ends.not_behind; lies = ends.lies }

TailStandsIfAny-earlier : (file : List ℕ) (from later : ℕ) (tail : Option TailView) → from ≤ later → TailStandsIfAny file later tail
    → TailStandsIfAny file from tail
TailStandsIfAny-earlier file from later None before rest = omega arith
TailStandsIfAny-earlier file from later (Some t) before rest =
    let behind = rest.not_before in
    record { start = rest.start; end = rest.end; not_before = omega arith; lies = rest.lies; least = rest.least; greatest = rest.greatest }

pub InTurn-earlier : (file : List ℕ) (stages : List StageView) (tail : Option TailView) (from later : ℕ) → from ≤ later → InTurn file later stages tail
    → InTurn file from stages tail
InTurn-earlier file [] tail from later before turn = TailStandsIfAny-earlier file from later tail before turn
InTurn-earlier file (s ∷ stages) tail from later before (end, ends, turn) = (end, StageEnds-earlier s file from later end before ends, turn)

-- behind the first end
pub InTurn-first : (file : List ℕ) (s : StageView) (stages : List StageView) (tail : Option TailView) (from end : ℕ) → IsFirstEnd s file from end
    → InTurn file from (s ∷ stages) tail ↔ InTurn file (end + s.delay) stages tail
InTurn-first file s stages tail from end first = (
  λ turn. (let least = first.first turn.0 turn.1 in InTurn-earlier file stages tail (end + s.delay) (turn.0 + s.delay) (omega arith) turn.2),
  λ turn. (end, first.ends, turn),
)

-- past offsets at which no word of the first stage begins
pub InTurn-past : (file : List ℕ) (s : StageView) (stages : List StageView) (tail : Option TailView) (from later : ℕ) → from ≤ later
    → ((start end : ℕ) → from ≤ start → start < later → IsAtMost s.until start → ¬ Lies s.items file start end)
    → InTurn file from (s ∷ stages) tail ↔ InTurn file later (s ∷ stages) tail
InTurn-past file s stages tail from later before none = (
  λ turn.
      let ends = turn.1 in
      let behind : later ≤ ends.start =
      elim (cases_lt ends.start later) [
        | inl low ↦ absurd (none ends.start turn.0 ends.not_before low ends.not_behind ends.lies)
        | inr high ↦ high
      ] in
      (turn.0, record { start = ends.start; not_before = behind; not_behind = ends.not_behind; lies = ends.lies }, turn.2),
  λ turn. InTurn-earlier file (s ∷ stages) tail from later before turn,
)

-- the first end in the bytes that are seen
pub IsFirstEnd-seen : (s : StageView) (file more : List ℕ) (from end : ℕ) → IsFirstEnd s file from end → IsFirstEnd s (file ++ more) from end
IsFirstEnd-seen s file more from end first =
    let e = first.ends in
    let within = e.lies.within in
    record {
      ends = record {
        start = e.start;
        not_before = e.not_before;
        not_behind = e.not_behind;
        lies =
            ((Lies-seen_both s.items file more e.start end).0 e.lies).0;
      };
      first = λ other o.
          elim (cases_lt (length file) other) [
            | inl unseen ↦ omega arith
            | inr seen ↦ first.first other (record {
              start = o.start;
              not_before = o.not_before;
              not_behind = o.not_behind;
              lies =
                  (Lies-seen_both s.items file more o.start other).1 (o.lies, seen);
            })
          ];
    }

-- a tail whose longest word can still be behind a later offset
pub TailStands-near : (file : List ℕ) (tail : TailView) (from later : ℕ) → AreBounded tail.items → from ≤ later
    → later + span tail.items + tail.max ≤ length file → TailStands tail file from ↔ TailStands tail file later
TailStands-near file tail from later bounded before near = (
  λ t.
      let short = Lies-span tail.items file t.start t.end bounded t.lies in
      let greatest = t.greatest in
      record { start = t.start; end = t.end; not_before = omega arith; lies = t.lies; least = t.least; greatest = greatest },
  λ t. let behind = t.not_before in record { start = t.start; end = t.end; not_before = omega arith; lies = t.lies; least = t.least; greatest = t.greatest },
)

-- a tail whose longest word, with what may stand behind it, is in the last bytes
pub TailStands-last : (before file : List ℕ) (tail : TailView) (from : ℕ) → AreBounded tail.items → span tail.items + tail.max ≤ length file
    → TailStands tail (before ++ file) from ↔ TailStands tail file (from - length before)
TailStands-last before file tail from bounded near =
    let len = length-append before file in (
      λ t.
          let short = Lies-span tail.items (before ++ file) t.start t.end bounded t.lies in
          let least = t.least in
          let greatest = t.greatest in
          let not_before = t.not_before in
          let order = t.lies.in_order in
          let b : ℕ = length before in
          let start : t.start ≡ b + (t.start - b) = omega arith in
          let end : t.end ≡ b + (t.end - b) = omega arith in
          let moved : Lies tail.items (before ++ file) (b + (t.start - b)) (b + (t.end - b)) =
          subst (λ (n : ℕ). Lies tail.items (before ++ file) n (b + (t.end - b))) start
          (subst (λ (n : ℕ). Lies tail.items (before ++ file) t.start n) end t.lies) in
          record {
            start = t.start - b;
            end = t.end - b;
            not_before = omega arith;
            lies = (Lies-behind tail.items before file (t.start - b) (t.end - b)).1 moved;
            least = omega arith;
            greatest = omega arith;
          },
      λ t.
          let least = t.least in
          let greatest = t.greatest in
          let not_before = t.not_before in
          record {
            start = length before + t.start;
            end = length before + t.end;
            not_before = omega arith;
            lies = (Lies-behind tail.items before file t.start t.end).0 t.lies;
            least = omega arith;
            greatest = omega arith;
          },
    )
