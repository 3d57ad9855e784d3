use Rattle.std.proofs.Common.{◌≤◌, length, arith, inl, inr, subst}
use Rattle.sig_find.specs.Unblocked.{IsMeeting}
use Rattle.sig_find.proofs.direct.direct_witness.Goals as goal

pub returns-then-branch : goal.returns-then-branch
returns-then-branch c =
    let meeting : IsMeeting c.args.table.now c.args.s.0 c.args.t.0 c.in_ok-file.file.items =
    subst (IsMeeting c.args.table.now c.args.s.0 c.args.t.0) c.deref.ensures.value (c.in_ok-meets.ensures c.if-branch.true) in
    let short = c.is_as_short.ensures c.if-not-is_as_short.false in
    record {
      is_file = meeting.is_file;
      leaves = meeting.leaves;
      shortest = λ other bytes leaves. (
          let below : c.len-else-len-budget.result ≤ length other = elim short
          [ inl first ↦ first other leaves.first | inr second ↦ second other leaves.second ] in
          omega arith
          );
      few = omega arith;
    }
