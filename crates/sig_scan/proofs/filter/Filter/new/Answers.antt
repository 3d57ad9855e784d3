use Rattle.sig_scan.proofs.Common.{ap, arith, length, rules, slice_get_within}
use Rattle.sig_scan.proofs.filter.Filter.new.Goals as goal

pub invariant_of-result : goal.invariant_of-result
invariant_of-result c = record {
  marks_len = search rules;
  slots_len = search rules;
  each = λ place e at. (let within = slice_get_within c.new.result.items place e at in absurd (omega (arith, ap length c.new.ensures.items)));
}
