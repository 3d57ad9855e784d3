use Rattle.std.proofs.Common.{◌≡◌, ◌<◌, ◌+◌, ◌-◌, ◌∷◌, [], Err, OnOk, Ok, Result, ap, false, map, refl, subst, sym, ◌∙◌}
use Rattle.std.specs.Prelude.{string_bytes}
use Rattle.sig_engines.proofs.FolderLemmas.{deep_met, file_met, folder_leads, folder_lowers, folder_met, leads_as, nothing_leads, some_room, unlisted_met}
use Rattle.sig_engines.proofs.FolderLemmas.{worth_less}
use Rattle.sig_engines.proofs.ManyLemmas.{files_as, files_none, if_both, if_cut_as, if_files_as, one_printed}
use Rattle.sig_engines.proofs.TellingLemmas.{adds_nothing}
use Rattle.sig_bits.specs.Device.{Adds}
use Rattle.sig_engines.specs.FileProgress.{told_text}
use Rattle.sig_engines.specs.Stores.{IsUnlisted, Lists, item_of}
use Rattle.sig_engines.specs.Tallies.{done_of, with_fault}
use Rattle.sig_engines.specs.Visits.{IsOne, to_match, to_tell}
use Rattle.sig_engines.specs.ManyFiles.{AddsFiles, IsPrinted, file_fault_line}
use Rattle.sig_engines.specs.Waiting.{AreMetOf, Leads, worth, worth_of}
use Rattle.sig_engines.proofs.folder_engine.match_entry.Given.{Over}
use Rattle.sig_engines.proofs.folder_engine.match_entry.Goals.{in-NotRegular, in-NotText, in-Folder, in-Folder-2+in-Err}
use Rattle.sig_engines.proofs.folder_engine.match_entry.Goals as goal

always : {A E : Type 0} (result : Result A E) (P : Type 0) → P → OnOk result P
always (Ok x) P is = is
always (Err e) P is = tt

pub returns-in-File-clause-answers : goal.returns-in-File-clause-answers
returns-in-File-clause-answers g c =
    let held = g.S.Store.held c.args.run.now.store.now in
    let next = c.args.next.now in
    let name = string_bytes next.entry.name in
    let waiting = c.args.waiting.now.items in
    if_files_as _ _ (IsOne (to_match name)) (λ visits. Leads held (AreMetOf held next) visits waiting waiting) _ _ _ _ _ _ _ c.match_file.result
    (λ v is. nothing_leads held (AreMetOf held next) v waiting waiting refl (file_met held next.room name next.entry.kind v c.in-File.is is))
    (rw c.as_str-name.ensures.value at c.match_file.ensures.answers)

pub returns-in-File-clause-lowers : goal.returns-in-File-clause-lowers
returns-in-File-clause-lowers g c = always c.match_file.result _ (worth_less c.args.waiting.now.items c.args.next.now.room)

pub returns-in-File-clause-refused : goal.returns-in-File-clause-refused
returns-in-File-clause-refused g c =
    let held = g.S.Store.held c.args.run.now.store.now in
    let next = c.args.next.now in
    let name = string_bytes next.entry.name in
    if_both c.match_file.result _ _ _ (λ e write cut. record { is = write.0; failed = write.1; cut = cut }) c.match_file.ensures.write
    (if_cut_as _ _ (IsOne (to_match name)) (AreMetOf held next) _ _ _ _ _ _ _ c.match_file.result
    (λ v is. file_met held next.room name next.entry.kind v c.in-File.is is)
    (rw c.as_str-name.ensures.value at c.match_file.ensures.cut))

pub returns-in-Ok-clause-answers : goal.returns-in-Ok-clause-answers
returns-in-Ok-clause-answers g c =
    let held = g.S.Store.held c.args.run.now.store.now in
    let next = c.args.next.now in
    let name = string_bytes next.entry.name in
    let pushed = c.in-Ok.ensures.pushes in
    let lists : Lists held name (map item_of pushed.0) = subst (λ n. Lists held n (map item_of pushed.0)) c.as_str-name.ensures.value pushed.1 in
    let leads = folder_leads held (next.room - 1) name pushed.0 c.args.waiting.now.items c.push_folder.new.waiting.items lists pushed.2 in
    files_none _ _ _ _ _ _ _ _ _ (leads_as held _ (AreMetOf held next) [] _ _
    (λ v are. folder_met held next.room name next.entry.kind v (some_room next.room c.if-next-eq0.false) c.in-Folder-2.is are) leads) (adds_nothing _)

pub returns-in-Ok-clause-lowers : goal.returns-in-Ok-clause-lowers
returns-in-Ok-clause-lowers g c =
    let pushed = c.in-Ok.ensures.pushes in
    folder_lowers c.args.next.now.room pushed.0 c.args.waiting.now.items c.push_folder.new.waiting.items (some_room c.args.next.now.room c.if-next-eq0.false)
    pushed.2

-- what is told of something that stands in a folder
told : (g : Over) (c : goal.After-tell g) → c.match-next.waiting.items ≡ c.args.waiting.now.items
    → AreMetOf (g.S.Store.held c.args.run.now.store.now) c.args.next.now (to_tell (string_bytes c.args.next.now.entry.name) c.match-next.fault ∷ [])
    → AddsFiles [] (IsPrinted g.S.Reader.Input.failed c.args.run.now.ask (g.K.DroidCore.lists c.args.run.now.core.now)
    (g.S.Store.held c.args.run.now.store.now)) (λ visits. Leads (g.S.Store.held c.args.run.now.store.now)
    (AreMetOf (g.S.Store.held c.args.run.now.store.now) c.args.next.now) visits c.args.waiting.now.items c.match-next.waiting.items) c.args.run.now.ask.progress
    c.args.tally (g.W.Output.written c.args.out.now) (g.W.Output.written c.args.out.now) (g.E.Output.failed c.tell.new.err) (g.E.Output.written c.args.err.now)
    (g.E.Output.written c.tell.new.err) c.tell.result
told g c same met =
    let held = g.S.Store.held c.args.run.now.store.now in
    let next = c.args.next.now in
    let name = string_bytes next.entry.name in
    let out = g.W.Output.written c.args.out.now in
    let before = g.E.Output.written c.args.err.now in
    let after = g.E.Output.written c.tell.new.err in
    let progress = c.args.run.now.ask.progress in
    let line = subst (λ n. g.E.Output.failed c.tell.new.err ≡ false
    → Adds before (told_text progress (done_of (with_fault c.args.tally)) (file_fault_line n c.match-next.fault)) after)
    (c.as_bytes.ensures.value ∙ c.as_str-name.ensures.value) c.tell.ensures.reports in
    rw c.tell.ensures.counts (files_as _ _ (IsOne (to_tell name c.match-next.fault)) _ _ _ _ _ _ _ _ _
    (λ v is. nothing_leads held (AreMetOf held next) v _ _ same (rw is met))
    (one_printed _ (to_tell name c.match-next.fault) (Err c.match-next.fault) progress c.args.tally out out _ before after refl (adds_nothing out) line))

pub returns-clause-answers : goal.returns-clause-answers
returns-clause-answers g c =
    let held = g.S.Store.held c.args.run.now.store.now in
    let next = c.args.next.now in
    let name = string_bytes next.entry.name in
    elim c.match-next.branch [
      | in-NotRegular w ↦ told g c (ap (λ x. x.items) w.waiting-is) (rw (w.fault-is, w.in-NotRegular.is) refl)
      | in-NotText w ↦ told g c (ap (λ x. x.items) w.waiting-is) (rw (w.fault-is, w.in-NotText.is) refl)
      | in-Folder w ↦
          told g c (ap (λ x. x.items) w.waiting-is)
          (subst (λ f. AreMetOf held next (to_tell name f ∷ [])) (sym w.fault-is)
          (deep_met held next.room name next.entry.kind w.if-next-eq0.true w.in-Folder.is))
      | in-Folder-2+in-Err w ↦
          told g c (ap (λ x. x.items) w.waiting-is ∙ w.in-Err.ensures.unchanged)
          (subst (λ f. AreMetOf held next (to_tell name f ∷ [])) (sym w.fault-is)
          (unlisted_met held next.room name next.entry.kind w.in-Err.fault (some_room next.room w.if-next-eq0.false) w.in-Folder-2.is
          (subst (λ n. IsUnlisted held n w.in-Err.fault) c.as_str-name.ensures.value w.in-Err.ensures.fault)))
    ]

pub returns-clause-lowers : goal.returns-clause-lowers
returns-clause-lowers g c =
    elim c.match-next.branch [
      | in-NotRegular w ↦ less (ap (λ x. x.items) w.waiting-is)
      | in-NotText w ↦ less (ap (λ x. x.items) w.waiting-is)
      | in-Folder w ↦ less (ap (λ x. x.items) w.waiting-is)
      | in-Folder-2+in-Err w ↦ less (ap (λ x. x.items) w.waiting-is ∙ w.in-Err.ensures.unchanged)
    ]
  where
    less : c.match-next.waiting.items ≡ c.args.waiting.now.items
        → worth_of c.match-next.waiting.items < worth_of c.args.waiting.now.items + worth c.args.next.now.room
    less same = rw same (worth_less c.args.waiting.now.items c.args.next.now.room)
