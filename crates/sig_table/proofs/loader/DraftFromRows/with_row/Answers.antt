use Rattle.std.proofs.lemmas.Result.{err_from_is_err_and}
use Rattle.sig_table.proofs.FaultLemmas.{IsFault-map}
use Rattle.sig_table.proofs.LoadLemmas.{with_record-added, with_record-unread}
use Rattle.sig_table.proofs.RowLemmas.{IsRow-row_of}
use Rattle.sig_table.proofs.loader.DraftFromRows.with_row.Goals as goal

pub add-requires : goal.add-requires
add-requires c = IsRow-row_of _ _ c.in_ok-row.row c.in_ok-row.ensures

pub returns-in_err-row : goal.returns-in_err-row
returns-in_err-row c =
    let p = err_from_is_err_and c.from_residual.result c.from_residual.ensures.1 in
    rw (p.1, p.2) (IsFault-map _ _ _ (λ read. with_record-unread _ _ _ _ read) c.in_err-row.ensures)

pub returns : goal.returns
returns c = with_record-added _ _ _ _ c.add.result c.in_ok-row.ensures c.add.ensures
