use Rattle.sig_scan.proofs.Common.{◌++◌, subst, sym, BufferView, IsScanOf, Knows}
use Rattle.sig_scan.proofs.ScanLemmas.{Knows-added}
use Rattle.sig_scan.proofs.scan.Scan.read_on.Goals as goal
use Rattle.sig_scan.proofs.scan.Scan.read_on.Goals.{else-is_full, then-is_full}

pub returns-clause-read : goal.returns-clause-read
returns-clause-read g c table file of =
    let self = c.self-2.inside in
    let filled = c.in_ok-fill.ensures.filled in
    let free : IsScanOf table file c.if-is_full.self =
    elim c.if-is_full.branch [
      | then-is_full w ↦ subst (IsScanOf table file) (sym w.self-is) (w.settle.ensures.settled table file of)
      | else-is_full w ↦ subst (IsScanOf table file) (sym w.self-is) of
    ] in
    let added = Knows-added table file filled.piece self.program.now self.keep self.base self.buffer.bytes self.states.items self.may_hit.items filled.bytes
    (subst (IsScanOf table file) (sym c.self-2.view_is) free) in
    let P : BufferView → Type 0 = λ b. Knows table (file ++ filled.piece) self.program.now self.keep self.base b.bytes self.states.items self.may_hit.items in
    record { piece = filled.piece; bytes = filled.bytes; given = filled.given; is_of = subst P (sym filled.added) added }
