use Rattle.sig_scan.proofs.Common.{arith}
use Rattle.sig_scan.proofs.AttemptLemmas.{IsFirstOf-second}
use Rattle.sig_scan.proofs.attempt.attempt.Goals as goal

pub returns-in_err-end-clause-first : goal.returns-in_err-end-clause-first
returns-in_err-end-clause-first c bounded few =
    let least = c.in_err-end.ensures.least bounded few in
    rw c.from_residual.ensures (λ start end low under below l. least end (omega arith) (record { start = start; first = low; last = omega arith; lies = l }))

pub returns-clause-first : goal.returns-clause-first
returns-clause-first c bounded few =
    let e = c.in_ok-end.end in
    let within = c.in_ok-end.ensures.within in
    rw c.unwrap_or.ensures (IsFirstOf-second c.args.items.now c.args.bytes.now c.args.from c.args.until c.args.limit c.min.result c.min-2.result e
    c.first_end-first.result (omega arith) (omega arith) (omega arith) (c.in_ok-end.ensures.least bounded few) c.first_end-first.ensures.end)
