use Rattle.std.proofs.Common.{◌≡◌, ◌≤◌, ◌-◌, drop, length}
use Rattle.sig_expr.specs.Passes.{fault_in, fault_from}
use Rattle.sig_expr.proofs.parser.first_fault.Given as goal

-- what is said of the rest is said of the text
abbrev pub invariant-text : goal.invariant-text
invariant-text l = record {
  within : l.place ≤ length l.text;
  same : fault_from l.state l.opened l.place (drop l.place l.text) ≡ fault_in l.text;
}

abbrev pub decreases-text : goal.decreases-text
decreases-text l = length l.text - l.place
