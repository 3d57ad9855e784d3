use Rattle.std.proofs.Common.{◌+◌, ◌≤◌, ℕ, length, ap, arith}
use Rattle.sig_match.proofs.RunLemmas.{IsFirst-none, IsFirst-some}
use Rattle.sig_match.proofs.whole.run.first_of.Goals as goal

pub returns-in_err-n : goal.returns-in_err-n
returns-in_err-n c =
    let file = c.args.file.now in
    let run = c.args.run.now in
    let from = c.args.interval.from in
    let to = c.args.interval.to in
    let end = c.min-end.result in
    let room : (k : ℕ) → k ≤ to → k + length run ≤ length file → k + length run ≤ end =
    λ k low fits. (let needle = ap length c.needle.ensures in omega arith) in
    rw c.from_residual.ensures (IsFirst-none file run from end to (omega arith) (omega arith) room c.in_err-n.ensures)

pub returns : goal.returns
returns c =
    let file = c.args.file.now in
    let run = c.args.run.now in
    let from = c.args.interval.from in
    let to = c.args.interval.to in
    let end = c.min-end.result in
    let room : (k : ℕ) → k ≤ to → k + length run ≤ length file → k + length run ≤ end =
    λ k low fits. (let needle = ap length c.needle.ensures in omega arith) in
    IsFirst-some file run from end to c.in_ok-n.n (omega arith) (omega arith) (let needle = ap length c.needle.ensures in omega arith) room c.in_ok-n.ensures
