use Rattle.std.proofs.Common.{◌≡◌, Err, false, inr, refl, subst}
use Rattle.sig_bits.specs.Device.{Adds}
use Rattle.sig_engines.specs.FileProgress.{told_text}
use Rattle.sig_engines.specs.ManyFiles.{file_fault_line}
use Rattle.sig_engines.specs.Tallies.{done_of, with_fault}
use Rattle.sig_engines.proofs.ManyLemmas.{files_as, one_printed}
use Rattle.sig_engines.proofs.TellingLemmas.{adds_nothing}
use Rattle.sig_engines.specs.Visits.{AreOf, IsOne, to_tell}
use Rattle.sig_engines.specs.declared.error.NameFault.TheVariants.{IsFolder}
use Rattle.sig_engines.proofs.many_engine.match_name.Goals as goal

pub returns-clause-answers : goal.returns-clause-answers
returns-clause-answers g c =
    let held = g.S.Store.held c.args.run.now.store.now in
    let name = c.args.name.now in
    let out = g.W.Output.written c.args.out.now in
    let before = g.E.Output.written c.args.err.now in
    let after = g.E.Output.written c.tell.new.err in
    let visit = to_tell name IsFolder in
    let line = subst (λ n. g.E.Output.failed c.tell.new.err ≡ false
    → Adds before (told_text c.args.run.now.ask.progress (done_of (with_fault c.args.tally)) (file_fault_line n IsFolder)) after) c.as_bytes.ensures.value
    c.tell.ensures.reports in
    rw c.tell.ensures.counts (files_as _ _ (IsOne visit) (AreOf c.args.run.now.ask.recursive held name) _ _ _ _ _ _ _ _
    (λ v is. inr (c.is_folder.ensures.has c.if-not-is_folder.false, rw c.if-run.false is))
    (one_printed _ visit (Err IsFolder) _ c.args.tally out out _ before after refl (adds_nothing out) line))
