use Rattle.std.proofs.Common.{◌∙◌, ap}
use Rattle.sig_table.proofs.DraftLemmas.{puid_eq-is}
use Rattle.sig_table.proofs.table.is_same.Goals as goal

pub returns : goal.returns
returns c = c.eq.ensures ∙ ap (λ e. e c.args.a.now c.args.b.now) puid_eq-is
