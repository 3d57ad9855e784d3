use Rattle.std.proofs.Common.{All, length}
use Rattle.std.proofs.lemmas.List.Elements.{All-get_or}
use Rattle.sig_lint.proofs.EqualRowsLemmas.{ArePlaces, equal_within}
use Rattle.sig_lint.proofs.reporter.put_equal_rows.Goals as goal

pub put_equal_line-requires : goal.put_equal_line-requires
put_equal_line-requires c =
    let pairs = c.as_slice-pair-items.result.now in
    let n = length c.args.table.now.signatures in
    let all : All (ArePlaces n) pairs = rw (c.as_slice-pair-items.ensures.keys, c.in_ok-found.ensures) (equal_within c.args.table.now) in
    let both : ArePlaces n _ = All-get_or (ArePlaces n) pairs c.loop-pair.pair-index _ c.loop-pair-test.true all in
    record { later = both.0; first = both.1 }
