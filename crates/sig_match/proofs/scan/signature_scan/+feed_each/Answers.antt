use Rattle.std.proofs.lemmas.List.{nil_from_length}
use Rattle.sig_match.proofs.ScanLemmas.{fed_cons, fed_nil}
use Rattle.sig_match.proofs.scan.signature_scan.+feed_each.Goals as goal

pub returns-in_default : goal.returns-in_default
returns-in_default t c = fed_nil _ _ (nil_from_length _ c.in_default.ensures.cases)

pub returns : goal.returns
returns t c = fed_cons _ _ _ _ _ _ c.in-Some.ensures.cases.0 c.feed.ensures c.feed_each.ensures
