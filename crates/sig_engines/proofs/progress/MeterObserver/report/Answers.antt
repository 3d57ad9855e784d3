use Rattle.std.proofs.Common.{arith, refl, subst}
use Rattle.sig_engines.specs.Progress.{AddsReports}
use Rattle.sig_engines.proofs.WriteLemmas.{printed}
use Rattle.sig_engines.proofs.ProgressLemmas.{one_report, reports_then}
use Rattle.sig_engines.proofs.progress.MeterObserver.report.Goals as goal

pub returns-clause-told : goal.returns-clause-told
returns-clause-told g c =
    let before = g.E.Output.written c.args.self.now.err.now in
    let after = g.E.Output.written c.write_report.new.err in
    record {
      same_reference = refl;
      same_things = refl;
      sound = c.write_report.ensures.sound;
      adds = λ is things same start told.
          reports_then things start before after told
          (subst (λ t. AddsReports t before after) same
          (one_report c.args.self.now.things c.args.done c.args.all before after
          (printed c.write_report.result _ before after _ c.write_report.ensures.prints is)));
    }

pub returns-clause-shows : goal.returns-clause-shows
returns-clause-shows g c =
    let before = g.E.Output.written c.args.self.now.err.now in
    let after = g.E.Output.written c.write_report.new.err in
    record {
      shows = λ due is. printed c.write_report.result _ before after _ c.write_report.ensures.prints is;
      waits = λ early. absurd (omega arith);
      ends = λ some within. c.next_report-self.ensures some;
    }
