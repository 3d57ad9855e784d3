use Rattle.std.proofs.Common.{IfOk, subst, sym}
use Rattle.sig_command.specs.Requests.{MakesOut, ShowsAsked}
use Rattle.sig_command.specs.declared.args.Request.{Request}
use Rattle.sig_command.proofs.requests.answer.Goals as goal

pub returns-in-Find-clause-made : goal.returns-in-Find-clause-made
returns-in-Find-clause-made g c =
    let store = g.S.Store.held c.args.store.now in
    let before = g.W.Output.written c.args.out.now in
    let after = g.W.Output.written c.find_in_table.new.out in
    subst (λ (r : Request). IfOk c.find_in_table.result (λ is_yes. MakesOut g.S.Store.name_of g.S.Writer.Output.written g.S.Writer.Output.failed store r is_yes
    before after)) (sym c.in-Find.is) c.find_in_table.ensures.made

pub returns-in-Conflicts-clause-made : goal.returns-in-Conflicts-clause-made
returns-in-Conflicts-clause-made g c =
    let store = g.S.Store.held c.args.store.now in
    let before = g.W.Output.written c.args.out.now in
    let after = g.W.Output.written c.settle_pairs.new.out in
    subst (λ (r : Request). IfOk c.settle_pairs.result (λ is_yes. MakesOut g.S.Store.name_of g.S.Writer.Output.written g.S.Writer.Output.failed store r is_yes
    before after)) (sym c.in-Conflicts.is) c.settle_pairs.ensures.made

pub returns-in-Conflicts-clause-progress : goal.returns-in-Conflicts-clause-progress
returns-in-Conflicts-clause-progress g c = subst (λ (r : Request). IfOk c.settle_pairs.result
    (λ is_yes. ShowsAsked (g.S.Store.held c.args.store.now) r is_yes (g.W.Output.written c.args.out.now) (g.W.Output.written c.settle_pairs.new.out)
    (g.E.Output.failed c.settle_pairs.new.err) c.args.err.now c.settle_pairs.new.err (g.E.Output.written c.args.err.now)
    (g.E.Output.written c.settle_pairs.new.err))) (sym c.in-Conflicts.is) c.settle_pairs.ensures.progress

pub returns-in-MatchMany-clause-progress : goal.returns-in-MatchMany-clause-progress
returns-in-MatchMany-clause-progress g c = subst (λ (r : Request). IfOk c.match_many.result
    (λ is_yes. ShowsAsked (g.S.Store.held c.args.store.now) r is_yes (g.W.Output.written c.args.out.now) (g.W.Output.written c.match_many.new.out)
    (g.E.Output.failed c.match_many.new.err) c.args.err.now c.match_many.new.err (g.E.Output.written c.args.err.now) (g.E.Output.written c.match_many.new.err)))
    (sym c.in-MatchMany.is) c.match_many.ensures.progress
