use Rattle.std.proofs.Common.{◌≡◌, ◌∙◌, sym, false}
use Rattle.sig_table.proofs.PassingLemmas.{passed-row, passed-unread}
use Rattle.sig_table.proofs.RowLemmas.{IsRow-row_of}
use Rattle.sig_table.specs.Judging.{is_memory}
use Rattle.sig_table.proofs.passing.take_row.Goals as goal

pub take-requires : goal.take-requires
take-requires c = IsRow-row_of _ _ c.in-Ok.row c.in-Ok.ensures

pub returns-in-Ok : goal.returns-in-Ok
returns-in-Ok c = rw (passed-row _ _ _ _ c.in-Ok.ensures) at c.take.ensures

pub returns-in-Err-2 : goal.returns-in-Err-2
returns-in-Err-2 c =
    let judged : is_memory c.in-Err.fault ≡ false = sym c.is_memory.ensures ∙ c.if-is_memory.false in
    passed-unread _ _ _ _ (rw judged at c.in-Err.ensures.exact)
