use Rattle.std.proofs.Common.{◌∙◌, Ok, Err, ap, false, subst}
use Rattle.std.specs.Prelude.{◌≡◌}
use Rattle.sig_bits.specs.Device.{Adds, AddsFront}
use Rattle.sig_engines.proofs.ManyLemmas.{one_cut, one_printed}
use Rattle.sig_engines.proofs.TellingLemmas.{adds_nothing}
use Rattle.sig_engines.specs.FileProgress.{done_text, told_text}
use Rattle.sig_engines.specs.ManyFiles.{Answer, Printed, file_fault_line}
use Rattle.sig_engines.specs.Tallies.{done_of, with_fault}
use Rattle.sig_engines.specs.Visits.{to_match}
use Rattle.sig_engines.specs.declared.error.NameFault.TheVariants.{File}
use Rattle.sig_engines.proofs.named_file.match_file.Goals as goal

pub returns-in-Ok-write_all-clause-answers : goal.returns-in-Ok-write_all-clause-answers
returns-in-Ok-write_all-clause-answers g c =
    let answer : Answer = record { text = c.in-Ok.answer.text.items; hits = c.in-Ok.answer.hits; bytes = c.in-Ok.answer.bytes } in
    let printed : Printed = Ok answer in
    let progress = c.args.run.now.ask.progress in
    let before = g.E.Output.written c.args.err.now in
    let told = g.E.Output.written c.show_done.new.err in
    let is = c.done.ensures ∙ ap done_of c.with_file-tally.ensures in
    rw c.with_file-tally.ensures (one_printed _ (to_match c.args.name.now) printed progress c.args.tally _ (g.W.Output.written c.write_all.new.self) _ before
    told c.in-Ok.ensures.text
    (subst (λ l. Adds (g.W.Output.written c.args.out.now) l (g.W.Output.written c.write_all.new.self)) c.deref.ensures.value c.in-Ok-write_all.ensures.adds)
    (subst (λ n. g.E.Output.failed c.show_done.new.err ≡ false → Adds before (done_text progress n) told) is c.show_done.ensures.reports))

pub returns-in-Err-clause-answers : goal.returns-in-Err-clause-answers
returns-in-Err-clause-answers g c =
    let progress = c.args.run.now.ask.progress in
    let out = g.W.Output.written c.args.out.now in
    let before = g.E.Output.written c.args.err.now in
    let told = g.E.Output.written c.tell.new.err in
    let fault = File c.in-Err.fault in
    let line = subst (λ n. g.E.Output.failed c.tell.new.err ≡ false
    → Adds before (told_text progress (done_of (with_fault c.args.tally)) (file_fault_line n fault)) told) c.as_bytes.ensures.value c.tell.ensures.reports
    in
    rw c.tell.ensures.counts (one_printed _ (to_match c.args.name.now) (Err fault) progress c.args.tally out out _ before told c.in-Err.ensures.fault
    (adds_nothing out) line)

pub returns-clause-cut : goal.returns-clause-cut
returns-clause-cut g c =
    let answer : Answer = record { text = c.in-Ok.answer.text.items; hits = c.in-Ok.answer.hits; bytes = c.in-Ok.answer.bytes } in
    let progress = c.args.run.now.ask.progress in
    let before = g.E.Output.written c.args.err.now in
    let told = g.E.Output.written c.show_done.new.err in
    let is = c.done.ensures ∙ ap done_of c.with_file-tally.ensures in
    one_cut _ (to_match c.args.name.now) answer progress c.args.tally _ (g.W.Output.written c.write_all.new.self) _ before told c.in-Ok.ensures.text
    (subst (λ l. AddsFront (g.W.Output.written c.args.out.now) l (g.W.Output.written c.write_all.new.self)) c.deref.ensures.value
    c.in-Err-write_all.ensures.front.0)
    (subst (λ n. g.E.Output.failed c.show_done.new.err ≡ false → Adds before (done_text progress n) told) is c.show_done.ensures.reports)
