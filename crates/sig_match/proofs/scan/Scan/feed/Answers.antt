use Rattle.std.proofs.Common.{◌∙◌, ◌++◌, drop, length, take}
use Rattle.sig_match.proofs.GapLemmas.{IsBytes-from_slice}
use Rattle.sig_match.proofs.ScanLemmas.{scan_goes_on, written}
use Rattle.sig_match.proofs.scan.Scan.feed.Goals as goal

pub returns-clause-goes_on : goal.returns-clause-goes_on
returns-clause-goes_on c file =
    let signatures = c.self.inside.signatures in
    let fed = c.feed_each.new.signatures in
    let back = drop (length fed) signatures.items in
    scan_goes_on file c.args.piece.now _ _ c.deref_mut.result.now fed (take signatures.len (fed ++ back)) c.self.view_is c.deref_mut.ensures.value
    (written fed back signatures.len (c.feed_each.auto.signatures ∙ c.deref_mut.ensures.len)) (IsBytes-from_slice c.args.piece.now c.type_inv.piece)
    c.feed_each.ensures
