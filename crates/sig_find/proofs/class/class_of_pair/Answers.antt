use Rattle.sig_find.proofs.ClassLemmas.{class_tells}
use Rattle.sig_find.proofs.class.class_of_pair.Goals as goal

pub contain_format-requires : goal.contain_format-requires
contain_format-requires c = c.requires.lives.each c.args.a.0 c.of.result.now c.of.ensures

pub contain_format-requires-2 : goal.contain_format-requires-2
contain_format-requires-2 c = c.requires.lives.each c.args.b.0 c.of-2.result.now c.of-2.ensures

pub returns : goal.returns
returns c =
    rw c.class_by.ensures
    (class_tells c.args.table.now c.args.budget c.args.a.0 c.args.b.0 c.in_ok-there.there c.in_ok-back.back c.in_ok-there.ensures c.in_ok-back.ensures)
