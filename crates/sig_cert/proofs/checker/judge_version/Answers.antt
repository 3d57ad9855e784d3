use Rattle.sig_cert.proofs.GrowingLemmas.{version_passed}
use Rattle.sig_cert.proofs.checker.judge_version.Goals as goal

pub returns-clause-memory : goal.returns-clause-memory
returns-clause-memory c short =
    let more = c.judge_count.ensures.memory short in (
      version_passed c.args.table.now c.args.view.now c.field.new.view c.in_ok-field.field.now c.version_of.result c.in_ok-version.version c.in_ok-field.ensures
          c.in_ok-version.ensures.ok_part c.version_of.ensures more.0,
      more.1,
    )
