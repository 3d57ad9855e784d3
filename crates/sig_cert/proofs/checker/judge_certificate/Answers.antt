use Rattle.sig_cert.proofs.GrowingLemmas.{head_passed}
use Rattle.sig_cert.proofs.checker.judge_certificate.Goals as goal

pub returns-clause-memory : goal.returns-clause-memory
returns-clause-memory c short =
    let more = c.judge_version.ensures.memory short in
    record {
      head = head_passed c.args.table.now c.args.view.now c.field.new.view c.in_ok-magic.magic.now c.as_slice.result.now c.ne.result c.in_ok-magic.ensures
          c.ne.ensures c.if-ne.false c.as_slice.ensures more.0;
      pair = more.1;
    }
