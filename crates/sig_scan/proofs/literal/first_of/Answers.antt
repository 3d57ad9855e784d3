use Rattle.sig_scan.proofs.Common.{◌+◌, ◌≤◌, ℕ, length, arith}
use Rattle.sig_scan.proofs.LiteralLemmas.{IsFirst-none, IsFirst-some}
use Rattle.sig_scan.proofs.literal.first_of.Goals as goal

pub returns-in_err-n : goal.returns-in_err-n
returns-in_err-n c =
    let file = c.args.bytes.now in
    let run = c.args.text.now in
    let from = c.args.from in
    let to = c.args.last in
    let end = c.min-end.result in
    let room : (k : ℕ) → k ≤ to → k + length run ≤ length file → k + length run ≤ end = λ k low fits. omega arith in
    rw c.from_residual.ensures (IsFirst-none file run from end to (omega arith) (omega arith) room c.in_err-n.ensures)

pub returns : goal.returns
returns c =
    let file = c.args.bytes.now in
    let run = c.args.text.now in
    let from = c.args.from in
    let to = c.args.last in
    let end = c.min-end.result in
    let room : (k : ℕ) → k ≤ to → k + length run ≤ length file → k + length run ≤ end = λ k low fits. omega arith in
    IsFirst-some file run from end to c.in_ok-n.n (omega arith) (omega arith) (omega arith) room c.in_ok-n.ensures
