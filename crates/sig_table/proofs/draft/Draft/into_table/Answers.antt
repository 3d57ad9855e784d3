use Rattle.std.proofs.Common.{◌≡◌, sym, subst, rules}
use Rattle.sig_table.specs.Views.{TableView}
use Rattle.sig_table.specs.Tables.{HasAllSignatures}
use Rattle.sig_table.proofs.draft.Draft.into_table.Goals as goal

pub returns-clause-whole : goal.returns-clause-whole
returns-clause-whole c =
    let t : TableView = record c.args.self { priorities = c.new-2.result.priorities } in
    let is : c.new-2.result ≡ t = search rules in
    let all : HasAllSignatures c.args.self = rw (← c.self.view_is) c.self.invariant.has_all in
    subst HasAllSignatures (sym is) all
