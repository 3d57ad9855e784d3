use Rattle.std.proofs.Common.{◌*◌, ◌/◌, ap, ◌∙◌}
use Rattle.sig_cert.proofs.PairLemmas.{length-format_pairs}
use Rattle.sig_cert.proofs.checker.pair_count.Goals as goal

pub returns : goal.returns
returns c = ap (λ k. c.args.formats * k / 2) c.saturating_sub.ensures ∙ length-format_pairs c.args.formats
