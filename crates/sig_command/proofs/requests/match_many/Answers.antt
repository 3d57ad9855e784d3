use Rattle.std.proofs.Common.{rules}
use Rattle.sig_command.specs.declared.args.Request.TheVariants.{MatchMany}
use Rattle.sig_command.proofs.FaultLemmas.{has_answer, has_fault}
use Rattle.sig_command.proofs.SeveralLemmas.{asks_each, if_answered, if_shown, if_told, if_whole}
use Rattle.sig_command.proofs.requests.match_many.Goals as goal

pub returns-clause-told : goal.returns-clause-told
returns-clause-told g c =
    if_told g.S.Reader.Input.failed (g.S.Store.held c.args.store.now) c.args.options c.match_ask-ask.result c.args.table c.args.names _ _
    c.prepared-core.ensures c.in_ok-table.ensures.read
    (asks_each _ c.args.options c.match_ask-ask.result _ c.match_ask-ask.ensures.all c.match_ask-ask.ensures.csv c.match_ask-ask.ensures.recursive
    c.match_ask-ask.ensures.progress c.match_ask-ask.ensures.summary c.match_ask-ask.ensures.names c.in_ok-format_names.ensures.names)
    g.W.Output.written c.args.out.now c.match_named.new.out g.E.Output.failed g.E.Output.written c.args.err.now c.match_named.new.err c.match_named.result
    c.match_named.ensures.quiet c.match_named.ensures.answers c.match_named.ensures.told

pub returns-clause-answered : goal.returns-clause-answered
returns-clause-answered g c =
    has_answer (g.S.Store.held c.args.store.now) (MatchMany c.args.options c.args.table c.args.names) g.W.Output.failed g.W.Output.written c.args.out.now
    c.match_named.new.out c.match_named.result
    (if_answered g.S.Reader.Input.failed (g.S.Store.held c.args.store.now) c.args.options c.match_ask-ask.result c.args.table c.args.names _ _
    c.prepared-core.ensures c.in_ok-table.ensures.read
    (asks_each _ c.args.options c.match_ask-ask.result _ c.match_ask-ask.ensures.all c.match_ask-ask.ensures.csv c.match_ask-ask.ensures.recursive
    c.match_ask-ask.ensures.progress c.match_ask-ask.ensures.summary c.match_ask-ask.ensures.names c.in_ok-format_names.ensures.names)
    _ _ _ _ _ c.match_named.result c.match_named.ensures.answers) c.match_named.ensures.shown

pub returns-clause-progress : goal.returns-clause-progress
returns-clause-progress g c =
    if_shown g.S.Reader.Input.failed (g.S.Store.held c.args.store.now) c.args.options c.match_ask-ask.result c.args.table c.args.names _ _
    c.prepared-core.ensures c.in_ok-table.ensures.read
    (asks_each _ c.args.options c.match_ask-ask.result _ c.match_ask-ask.ensures.all c.match_ask-ask.ensures.csv c.match_ask-ask.ensures.recursive
    c.match_ask-ask.ensures.progress c.match_ask-ask.ensures.summary c.match_ask-ask.ensures.names c.in_ok-format_names.ensures.names)
    _ _ _ _ _ _ _ c.match_named.result c.match_named.ensures.quiet c.match_named.ensures.answers

pub returns-clause-refused : goal.returns-clause-refused
returns-clause-refused g c =
    has_fault g.S.Reader.Input.failed g.S.Writer.Output.failed (g.S.Store.held c.args.store.now) (MatchMany c.args.options c.args.table c.args.names)
    g.W.Output.failed g.W.Output.written c.args.out.now c.match_named.new.out c.match_named.result (search rules) c.match_named.ensures.write (search rules)
    (λ fault. tt)
    (if_whole g.S.Reader.Input.failed (g.S.Store.held c.args.store.now) c.args.options c.match_ask-ask.result c.args.table c.args.names _ _
    c.prepared-core.ensures c.in_ok-table.ensures.read
    (asks_each _ c.args.options c.match_ask-ask.result _ c.match_ask-ask.ensures.all c.match_ask-ask.ensures.csv c.match_ask-ask.ensures.recursive
    c.match_ask-ask.ensures.progress c.match_ask-ask.ensures.summary c.match_ask-ask.ensures.names c.in_ok-format_names.ensures.names)
    g.W.Output.failed g.W.Output.written c.args.out.now c.match_named.new.out g.E.Output.failed g.E.Output.written c.args.err.now c.match_named.new.err
    c.match_named.result c.match_named.ensures.write c.match_named.ensures.told)
