use Rattle.sig_scan.proofs.Common.{ℕ, ◌+◌, ◌≤◌, ◌⊎◌, inl, inr, length, arith, cases_lt}
use Rattle.sig_scan.proofs.AttemptLemmas.{IsLeastEnd-sight}
use Rattle.sig_scan.proofs.attempt.least_end.Goals as goal

pub returns-clause-least : goal.returns-clause-least
returns-clause-least c bounded few =
    let n : ℕ = c.min-sight.result in
    let file = c.args.bytes.now in
    let sum = c.saturating_add.ensures in
    let fits : n ≤ length file = omega arith in
    let sight : (length file ≤ n) ⊎ (c.args.to + c.args.reach ≤ n) =
    elim (cases_lt n (length file)) [ inr all ↦ inl all | inl less ↦ inr (omega arith) ] in
    IsLeastEnd-sight c.args.items.now file n c.args.from c.args.to c.args.reach c.first_end.result bounded few fits sight c.first_end.ensures.end
