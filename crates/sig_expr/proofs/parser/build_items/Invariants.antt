use Rattle.std.proofs.Common.{◌≡◌, ◌≤◌, ◌-◌, drop, length}
use Rattle.sig_expr.specs.Built.{built, fresh}
use Rattle.sig_expr.specs.Reading.{start}
use Rattle.sig_expr.specs.Passes.{built_from}
use Rattle.sig_expr.proofs.parser.build_items.Given as goal

-- what is built so far and of the rest is what is built of the text
abbrev pub invariant-text : goal.invariant-text
invariant-text l = record {
  within : l.place ≤ length l.text;
  same : built_from (built l.builder) l.state (drop l.place l.text) ≡ built_from fresh start l.text;
}

abbrev pub decreases-text : goal.decreases-text
decreases-text l = length l.text - l.place
