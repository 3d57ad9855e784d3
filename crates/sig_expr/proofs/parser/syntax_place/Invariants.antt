use Rattle.std.proofs.Common.{◌≡◌, ◌≤◌, ◌-◌, drop, length}
use Rattle.sig_expr.specs.Passes.{stop_of, stop_from}
use Rattle.sig_expr.proofs.parser.syntax_place.Given as goal

-- what is said of the rest is said of the text
abbrev pub invariant-text : goal.invariant-text
invariant-text l = record {
  within : l.place ≤ length l.text;
  same : stop_from l.state l.place (drop l.place l.text) ≡ stop_of l.text;
}

abbrev pub decreases-text : goal.decreases-text
decreases-text l = length l.text - l.place
