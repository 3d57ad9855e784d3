use Rattle.std.proofs.Common.{◌<◌, ◌≤◌, length, arith}
use Rattle.sig_core.specs.Hits.{Left}
use Rattle.sig_cert.proofs.WitnessLemmas.{left_are_formats, two_are_left}
use Rattle.sig_cert.proofs.witness.check_witness.Goals as goal

pub returns-in-len2-up-clause-known : goal.returns-in-len2-up-clause-known
returns-in-len2-up-clause-known c =
    let left : Left c.args.table.now c.args.file.now c.hits.result.now = rw c.hits.ensures c.in_ok-left.ensures.left in
    let each = left_are_formats _ _ c.hits.result.now c.in_ok-left.ensures.table left in
    let two : 2 ≤ length c.hits.result.now = c.in-len2-up.len_at_least in
    (each 0 _ (omega arith), each 1 _ (omega arith))

pub returns-clause-ambiguous : goal.returns-clause-ambiguous
returns-clause-ambiguous c =
    let left : Left c.args.table.now c.args.file.now c.hits.result.now = rw c.hits.ensures c.in_ok-left.ensures.left in (
      λ is. cc,
      λ ambiguous. absurd (let two : 2 ≤ length c.hits.result.now = two_are_left _ _ c.hits.result.now left ambiguous in
          let fewer : length c.hits.result.now < 2 = c.in_default.len_below in omega arith),
    )
