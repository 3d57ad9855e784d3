use Rattle.std.proofs.Common.{sym}
use Rattle.std.proofs.lemmas.Result.{err_from_is_err_and}
use Rattle.sig_table.proofs.PairLemmas.{with_pair_row-faulty, with_pair_row-more, with_pair_row-unread}
use Rattle.sig_table.proofs.loader.PairRowsFromRows.with_row.Goals as goal

pub returns-in_err-pair : goal.returns-in_err-pair
returns-in_err-pair c =
    let p = err_from_is_err_and c.from_residual.result c.from_residual.ensures.1 in
    rw (p.1, p.2, ← c.self.view_is) (with_pair_row-unread _ _ _ _ c.in_err-pair.ensures.no_read (sym c.in_err-pair.ensures.pair))

pub returns-in_err-ranking : goal.returns-in_err-ranking
returns-in_err-ranking c =
    let p = err_from_is_err_and c.from_residual-in_err-ranking.result c.from_residual-in_err-ranking.ensures.1 in
    rw (p.1, p.2, ← c.self.view_is) (with_pair_row-faulty c.self.inside.formats.now.keys _ c.self.inside.ranking _ c.in_ok-pair.pair _
    (sym c.in_ok-pair.ensures.pair) c.in_err-ranking.ensures)

pub returns : goal.returns
returns c =
    rw (← c.self.view_is) (with_pair_row-more c.self.inside.formats.now.keys _ c.self.inside.ranking _ c.in_ok-pair.pair c.in_ok-ranking.ranking
    (sym c.in_ok-pair.ensures.pair) c.in_ok-ranking.ensures)
