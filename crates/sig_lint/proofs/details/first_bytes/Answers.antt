use Rattle.std.proofs.Common.{sym, arith}
use Rattle.std.proofs.lemmas.List.{length-take-le, take_all}
use Rattle.sig_lint.proofs.details.first_bytes.Goals as goal

pub slice_bounds-result-end : goal.slice_bounds-result-end
slice_bounds-result-end c = sym (length-take-le 60 c.args.text.now (omega arith))

pub returns-else-text-gt-MOST_SHOWN : goal.returns-else-text-gt-MOST_SHOWN
returns-else-text-gt-MOST_SHOWN c = sym (take_all 60 c.args.text.now (omega arith))
