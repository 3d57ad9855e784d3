use Rattle.sig_lint.proofs.ReportLemmas.{name_is}
use Rattle.sig_lint.proofs.reporter.put_signature.Goals as goal

pub returns : goal.returns
returns c =
    rw (name_is c.args.table.now c.args.signature.0 c.number_of-number.result c.format_of.result.0 c.puid-puid.result c.number_of-number.ensures.number
    c.format_of.ensures.format c.puid-puid.ensures) c.put_name.ensures
