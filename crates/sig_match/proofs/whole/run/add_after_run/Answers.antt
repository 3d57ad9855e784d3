use Rattle.std.proofs.Common.{◌≡◌, ◌+◌, ℕ, length, ap, arith, refl}
use Rattle.std.specs.Prelude.{slice_range}
use Rattle.sig_match.specs.Frontiers.{IsWithin}
use Rattle.sig_match.specs.Runs.{IsThis}
use Rattle.sig_match.proofs.PartLemmas.{Gains-here, Gains-none, Gains-passed}
use Rattle.sig_match.proofs.RunLemmas.{IsThis-Fixed, IsThis-from_OccursAt, OccursAt-from_IsThis}
use Rattle.sig_match.proofs.whole.run.add_after_run.Goals as goal

pub found-preserved : goal.found-preserved
found-preserved c =
    let file = c.args.file.now in
    let run = c.args.run.now in
    let m = length run in
    let at = c.found.left.from in
    let start = c.in-Some.start in
    let inv = c.found.invariant in
    let first = c.in-Some.ensures.0 in
    let occurs = c.in-Some.ensures.1 in
    let low = first.low in
    let high = first.high in
    let fits = occurs.fits in
    let len : length c.needle-len.result.now ≡ m = ap length c.needle-len.ensures in
    let e : ℕ = start + length c.needle-len.result.now in
    let x = c.args.interval in
    let within : IsWithin x start = (omega arith, omega arith) in
    let word : IsThis run (slice_range file start e) = IsThis-from_OccursAt file run start e (omega arith) occurs in
    record {
      low = omega arith;
      to = inv.to;
      added = Gains-here (IsThis run) m (IsThis-Fixed run) file x start e _ _ _ within (omega arith) (omega arith) word
          (Gains-none (IsThis run) m (IsThis-Fixed run) file x at start _ _ low
          (λ k above below _ room stands. first.before k above below (OccursAt-from_IsThis file run k (k + m) refl room stands)) inv.added)
          c.in_ok-add.ensures;
    }

pub returns : goal.returns
returns c =
    let file = c.args.file.now in
    let run = c.args.run.now in
    let m = length run in
    let x = c.args.interval in
    let at = c.found.left.from in
    let inv = c.found.invariant in
    let until = at + (x.to + 1) in
    Gains-passed (IsThis run) m (IsThis-Fixed run) file x until _ c.found.ends.items (λ a low room. omega arith)
    (Gains-none (IsThis run) m (IsThis-Fixed run) file x at until _ c.found.ends.items (omega arith)
    (λ k low high within room word. c.in_default.ensures k low (omega arith) (OccursAt-from_IsThis file run k (k + m) refl room word)) inv.added)
