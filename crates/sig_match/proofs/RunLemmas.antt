-- Where runs of bytes stand in a file.
use Rattle.std.proofs.Common.{◌≡◌, ℕ, ◌+◌, ◌-◌, ◌≤◌, ◌<◌, List, length, get_or, take, drop, ap, ◌∙◌, sym, refl, arith, Option, Some, None, true, false}
use Rattle.std.specs.Prelude.{is_some, slice_range}
use Rattle.std.proofs.lemmas.Bool.{false≢true}
use Rattle.std.proofs.lemmas.List.{get_or-take, get_or-drop}
use Rattle.memchr.specs.Find.{FindsNeedle, IsFirst, OccursAt}
use Rattle.memchr.proofs.lemmas.MatchLemmas.{OccursAt-part, OccursAt-from_part}
use Rattle.sig_match.specs.declared.whole.frontier.Interval.{Interval}
use Rattle.sig_match.specs.Frontiers.{IsWithin, Meets}
use Rattle.sig_match.specs.Runs.{IsThis}
use Rattle.sig_match.proofs.FrontierLemmas.{IsIn-at, nowhere}
use Rattle.sig_match.proofs.ReachLemmas.{length-slice_range}

-- the bytes of a part of a file
get_or-slice_range : (file : List ℕ) (a e k : ℕ) → k < e - a → get_or (slice_range file a e) k 0 ≡ get_or file (a + k) 0
get_or-slice_range file a e k h = get_or-take (e - a) (drop a file) k 0 h ∙ get_or-drop a file k 0

-- what occurs in a part of a file occurs in the file
pub OccursAt-in_file : (file run : List ℕ) (a e n : ℕ) → a ≤ e → e ≤ length file → OccursAt (slice_range file a e) run n → OccursAt file run (a + n)
OccursAt-in_file file run a e n order within occurs =
    let len : length (slice_range file a e) ≡ e - a = length-slice_range file a e order within in
    let fits = occurs.fits in
    record {
      fits = omega arith;
      reads = λ j below.
          let there : (a + n) + j ≡ a + (n + j) = omega arith in
          ap (λ k. get_or file k 0) there ∙ sym (get_or-slice_range file a e (n + j) (omega arith)) ∙ occurs.reads j below;
    }

-- the converse
pub OccursAt-in_part : (file run : List ℕ) (a e k : ℕ) → a ≤ k → k + length run ≤ e → e ≤ length file → OccursAt file run k
    → OccursAt (slice_range file a e) run (k - a)
OccursAt-in_part file run a e k low high within occurs =
    let len : length (slice_range file a e) ≡ e - a = length-slice_range file a e (omega arith) within in
    record {
      fits = omega arith;
      reads = λ j below.
          let there : a + ((k - a) + j) ≡ k + j = omega arith in
          get_or-slice_range file a e ((k - a) + j) (omega arith) ∙ ap (λ i. get_or file i 0) there ∙ occurs.reads j below;
    }

-- an occurrence is a word in its place
pub IsThis-from_OccursAt : (file run : List ℕ) (k e : ℕ) → e ≡ k + length run → OccursAt file run k → IsThis run (slice_range file k e)
IsThis-from_OccursAt file run k e end occurs =
    let len : e - k ≡ length run = omega arith in
    ap (λ n. take n (drop k file)) len ∙ OccursAt-part file run k occurs

-- the converse
pub OccursAt-from_IsThis : (file run : List ℕ) (k e : ℕ) → e ≡ k + length run → e ≤ length file → IsThis run (slice_range file k e) → OccursAt file run k
OccursAt-from_IsThis file run k e end within is =
    let len : length run ≡ e - k = omega arith in
    OccursAt-from_part file run k (omega arith) (ap (λ n. take n (drop k file)) len ∙ is)

-- nothing found in a part of a file, whose end cuts off no occurrence, is nowhere before
pub IsFirst-none : (file run : List ℕ) (a e to : ℕ) → a ≤ e → e ≤ length file → ((k : ℕ) → k ≤ to → k + length run ≤ length file → k + length run ≤ e)
    → FindsNeedle (slice_range file a e) run 0 None → IsFirst (OccursAt file run) a (to + 1) None
IsFirst-none file run a e to order within room none = λ k low high occurs.
    let fits = occurs.fits in
    let here : k + length run ≤ e = room k (omega arith) fits in
    let len : length (slice_range file a e) ≡ e - a = length-slice_range file a e order within in
    none (k - a) (omega arith) (omega arith) (OccursAt-in_part file run a e k low here within occurs)

-- the first that is found there is the first
pub IsFirst-some : (file run : List ℕ) (a e to n : ℕ) → a ≤ e → e ≤ length file → e ≤ to + length run
    → ((k : ℕ) → k ≤ to → k + length run ≤ length file → k + length run ≤ e) → FindsNeedle (slice_range file a e) run 0 (Some n)
    → IsFirst (OccursAt file run) a (to + 1) (Some (a + n))
IsFirst-some file run a e to n order within end room found =
    let len : length (slice_range file a e) ≡ e - a = length-slice_range file a e order within in
    let fits = found.1.fits in (
      record {
        low = omega arith;
        high = omega arith;
        before = λ k low high occurs. (
            let in_file = occurs.fits in
            let here : k + length run ≤ e = room k (omega arith) in_file in
            found.0.before (k - a) (omega arith) (omega arith) (OccursAt-in_part file run a e k low here within occurs)
            );
      },
      OccursAt-in_file file run a e n order within found.1,
    )

-- a run has one length
pub IsThis-Fixed : (run : List ℕ) (w : List ℕ) → IsThis run w → length w ≡ length run
IsThis-Fixed run w is = ap length is

-- the run is found in an interval of a frontier
pub Meets-first : (file run : List ℕ) (frontier : List Interval) (i : ℕ) (r : Option ℕ) → i < length frontier → is_some r ≡ true
    → IsFirst (OccursAt file run) (get_or frontier i nowhere).from ((get_or frontier i nowhere).to + 1) r → Meets (OccursAt file run) frontier
Meets-first file run frontier i None at some first = absurd (false≢true some)
Meets-first file run frontier i (Some k) at some first =
    let low = first.0.low in
    let high = first.0.high in
    record { offset = k; is_in = IsIn-at frontier i (get_or frontier i nowhere) k at refl (omega arith, omega arith); is_offset = first.1 }

-- the run is not found in an interval
pub none_first : (file run : List ℕ) (x : Interval) (r : Option ℕ) → is_some r ≡ false → IsFirst (OccursAt file run) x.from (x.to + 1) r → (o : ℕ)
    → IsWithin x o → OccursAt file run o → ⊥
none_first file run x None some first = λ o within occurs. (let high = within.1 in first o within.0 (omega arith) occurs)
none_first file run x (Some k) some first = λ o within occurs. false≢true (sym some)
