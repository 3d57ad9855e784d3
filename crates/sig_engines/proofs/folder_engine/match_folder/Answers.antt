use Rattle.std.proofs.Common.{◌≡◌, [], Err, arith, false, inl, refl, rules, subst, ◌∙◌}
use Rattle.std.proofs.lemmas.Result.{err_from_is_err_and}
use Rattle.sig_engines.proofs.FolderLemmas.{covers_all, covers_more, covers_then, folder_leads, leads_covers, worth_next}
use Rattle.sig_engines.proofs.ManyLemmas.{files_as, files_cut, files_none, files_then, first_failed, one_printed}
use Rattle.sig_engines.proofs.TellingLemmas.{adds_nothing}
use Rattle.sig_bits.specs.Device.{Adds}
use Rattle.sig_engines.specs.FileProgress.{told_text}
use Rattle.sig_engines.specs.ManyFiles.{IsPrinted, file_fault_line}
use Rattle.sig_engines.specs.Tallies.{done_of, with_fault}
use Rattle.sig_engines.specs.Visits.{AreIn, AreMet, IsOne, greatest_depth, to_tell}
use Rattle.sig_engines.specs.Waiting.{AreMetOf, Covers, Leads, Pushes}
use Rattle.sig_engines.specs.declared.error.NameFault.TheVariants.{File}
use Rattle.sig_engines.proofs.folder_engine.match_folder.Goals as goal

pub returns-in-Err-clause-answers : goal.returns-in-Err-clause-answers
returns-in-Err-clause-answers g c =
    let held = g.S.Store.held c.args.run.now.store.now in
    let name = c.args.folder.now in
    let out = g.W.Output.written c.args.out.now in
    let before = g.E.Output.written c.args.err.now in
    let after = g.E.Output.written c.tell.new.err in
    let visit = to_tell name (File c.in-Err.fault) in
    let line = subst (λ n. g.E.Output.failed c.tell.new.err ≡ false
    → Adds before (told_text c.args.run.now.ask.progress (done_of (with_fault c.args.tally)) (file_fault_line n (File c.in-Err.fault))) after)
    c.as_bytes.ensures.value c.tell.ensures.reports in
    rw c.tell.ensures.counts (files_as _ _ (IsOne visit) (AreIn (AreMet held greatest_depth) held name) _ _ _ _ _ _ _ _
    (λ v is. inl (c.in-Err.fault, c.in-Err.ensures.fault, is))
    (one_printed _ visit (Err (File c.in-Err.fault)) _ c.args.tally out out _ before after refl (adds_nothing out) line))

pub entries-init : goal.entries-init
entries-init g c =
    let held = g.S.Store.held c.args.run.now.store.now in
    let name = c.args.folder.now in
    let pushed = c.in_default.ensures.pushes in
    let pushes = subst (λ l. Pushes greatest_depth pushed.0 l c.push_folder.new.waiting.items) c.new-waiting.ensures.items pushed.2 in
    let leads = folder_leads held greatest_depth name pushed.0 [] c.push_folder.new.waiting.items pushed.1 pushes in
    record {
      adds = files_none _ _ _ _ _ _ _ _ _ (leads_covers held (AreIn (AreMet held greatest_depth) held name) _ leads) (adds_nothing _);
      quiet = λ no_progress none. refl;
      writes = λ sound. sound;
      stays_failed = λ sound. sound;
    }

pub returns-in_err-tally-clause-cut : goal.returns-in_err-tally-clause-cut
returns-in_err-tally-clause-cut g c =
    let p = err_from_is_err_and c.from_residual.result c.from_residual.ensures.1 in
    let held = g.S.Store.held c.args.run.now.store.now in
    let name = c.args.folder.now in
    let are = AreIn (AreMet held greatest_depth) held name in
    let next = c.in-Some.next in
    rw p.1 (files_cut _ (IsPrinted g.S.Reader.Input.failed c.args.run.now.ask (g.K.DroidCore.lists c.args.run.now.core.now) held)
    (λ v. Covers held are v c.entries.waiting.items) (AreMetOf held next) are _ _ _ _ _ _ _ _ _ _ _
    (λ v w covers is. covers_more held are next c.pop.new.self.items c.entries.waiting.items v w c.in-Some.ensures.items covers is)
    c.entries.invariant.adds c.in_err-tally.ensures.refused.cut c.match_entry.ensures.stays_failed)

pub entries-smaller : goal.entries-smaller
entries-smaller g c =
    let popped = worth_next c.pop.new.self.items c.entries.waiting.items c.in-Some.next c.in-Some.ensures.items in
    let lower = c.in_ok-tally.ensures.lowers in
    omega (arith, popped, lower)

pub entries-preserved : goal.entries-preserved
entries-preserved g c =
    let held = g.S.Store.held c.args.run.now.store.now in
    let name = c.args.folder.now in
    let are = AreIn (AreMet held greatest_depth) held name in
    let next = c.in-Some.next in
    let before = c.entries.invariant in
    let told = c.in_ok-tally.ensures in
    record {
      adds = files_then _ (IsPrinted g.S.Reader.Input.failed c.args.run.now.ask (g.K.DroidCore.lists c.args.run.now.core.now) held)
          (λ v. Covers held are v c.entries.waiting.items) (λ w. Leads held (AreMetOf held next) w c.pop.new.self.items c.match_entry.new.waiting.items)
          (λ v. Covers held are v c.match_entry.new.waiting.items) _ _ _ _ _ _ _ _ _ _ _ _
          (λ v w covers leads. covers_then held are next c.pop.new.self.items c.entries.waiting.items c.match_entry.new.waiting.items v w
          c.in-Some.ensures.items covers leads)
          before.adds told.answers c.match_entry.ensures.stays_failed;
      quiet = λ no_progress none. told.quiet no_progress none ∙ before.quiet no_progress (first_failed _ _ _ _ _ _ _ _ _ _ told.answers none);
      writes = λ sound. told.writes (before.writes sound);
      stays_failed = λ sound. before.stays_failed (c.match_entry.ensures.stays_failed sound);
    }

pub returns-clause-answers : goal.returns-clause-answers
returns-clause-answers g c =
    let held = g.S.Store.held c.args.run.now.store.now in
    let are = AreIn (AreMet held greatest_depth) held c.args.folder.now in
    let none : c.entries.waiting.items ≡ [] = search rules in
    files_as _ _ (λ v. Covers held are v c.entries.waiting.items) are _ _ _ _ _ _ _ _ (λ v covers. covers_all held are c.entries.waiting.items v none covers)
    c.entries.invariant.adds
