use Rattle.std.proofs.Common.{Err, inl}
use Rattle.sig_engines.proofs.ManyLemmas.{files_as, one_printed}
use Rattle.sig_engines.proofs.TellingLemmas.{adds_nothing}
use Rattle.sig_engines.specs.Visits.{AreOf, IsOne, to_match}
use Rattle.sig_engines.specs.declared.error.FileFault.TheVariants.{CannotOpen}
use Rattle.sig_engines.specs.declared.error.NameFault.TheVariants.{File}
use Rattle.sig_engines.proofs.many_engine.match_listed.Goals as goal

pub returns-in-Err-clause-answers : goal.returns-in-Err-clause-answers
returns-in-Err-clause-answers g c =
    let out = g.W.Output.written c.args.out.now in
    let before = g.E.Output.written c.args.err.now in
    let after = g.E.Output.written c.tell.new.err in
    let visit = to_match c.args.name.now in
    rw c.tell.ensures.counts (files_as _ _ (IsOne visit) (AreOf c.args.run.now.ask.recursive (g.S.Store.held c.args.run.now.store.now) c.args.name.now) _ _ _ _
    _ _ _ _
    (λ v is. inl (is, λ text. absurd (c.in-Err.ensures.cases.0 text)))
    (one_printed _ visit (Err (File CannotOpen)) _ c.args.tally out out (g.E.Output.failed c.tell.new.err) before after
    (λ text. absurd (c.in-Err.ensures.cases.0 text)) (adds_nothing out) c.tell.ensures.reports))
