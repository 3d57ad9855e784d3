use Rattle.std.proofs.Common.{◌∙◌, sym, []}
use Rattle.sig_table.specs.Views.{TableView}
use Rattle.sig_table.proofs.DraftLemmas.{fault_in-found, fault_in-new}
use Rattle.sig_table.proofs.draft.Draft.fault.Goals as goal

pub returns-in-None-clause-fault : goal.returns-in-None-clause-fault
returns-in-None-clause-fault c =
    let t : TableView = record { formats = c.self.inside.puids.keys; signatures = c.self.inside.signatures.items; priorities = [] } in
    rw (← c.self.view_is) (rw (← c.self.view_is) at c.fault_of_new.ensures.fault ∙ sym
    (fault_in-new t c.args.row_number c.args.row.now c.self.inside.numbers.keys c.self.invariant.numbers (sym c.in-None.ensures.index)))

pub returns-in-Some-clause-fault : goal.returns-in-Some-clause-fault
returns-in-Some-clause-fault c =
    let t : TableView = record { formats = c.self.inside.puids.keys; signatures = c.self.inside.signatures.items; priorities = [] } in
    rw (← c.self.view_is) (rw (← c.self.view_is) at c.fault_of_more.ensures.fault ∙ sym
    (fault_in-found t c.args.row_number c.args.row.now c.self.inside.numbers.keys c.in-Some.place c.index.result.now c.self.invariant.numbers
    (sym c.in-Some.ensures.index) c.index.ensures))
