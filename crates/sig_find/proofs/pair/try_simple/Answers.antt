use Rattle.std.proofs.Common.{subst}
use Rattle.sig_match.proofs.Exports.{left_there}
use Rattle.sig_find.specs.Unblocked.{IsMeeting}
use Rattle.sig_find.proofs.LeavingLemmas.{leaves_formats}
use Rattle.sig_find.proofs.pair.try_simple.Goals as goal

pub returns-then-branch : goal.returns-then-branch
returns-then-branch c =
    let table = c.args.table.now in
    let meeting : IsMeeting table c.args.s.0 c.args.t.0 c.in_ok-file.file.items =
    subst (IsMeeting table c.args.s.0 c.args.t.0) c.deref.ensures.value (c.in_ok-meets.ensures c.if-branch.true) in
    let left = left_there table c.in_ok-file.file.items c.of.ensures meeting.is_file in
    record {
      is_file = meeting.is_file;
      first = meeting.leaves.first;
      second = meeting.leaves.second;
      leaves = leaves_formats table c.in_ok-file.file.items c.args.a.0 c.args.b.0 c.args.s.0 c.args.t.0 left.0 left.1 c.requires.first c.requires.second
          meeting.leaves;
    }
