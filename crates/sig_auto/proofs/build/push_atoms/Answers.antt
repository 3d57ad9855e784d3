use Rattle.sig_auto.proofs.Common.{arith, refl, atoms_tree, part_tree}
use Rattle.sig_auto.proofs.BuildLemmas.{atoms_on}
use Rattle.sig_auto.proofs.build.push_atoms.Goals as goal

pub loop-j-preserved : goal.loop-j-preserved
loop-j-preserved c = atoms_on (atoms_tree c.args.atoms.now) (part_tree c.in_ok-part.part) c.args.atoms.now c.loop-j.j c.args.n c.args.front c.args.behind
    c.args.cells.now.items c.loop-j.cells.items c.push_part.new.cells.items c.as_slice.result.now c.loop-j.slots c.loop-j.from c.in_ok-slots.slots
    c.joint_behind-next.result c.count-count.result c.index-atoms-j.result _ c.loop-j.invariant (omega arith) c.requires.sound c.index-atoms-j.is
    c.in_ok-part.ensures c.count-count.ensures refl c.as_slice.ensures.value c.joint_behind-next.ensures c.in_ok-slots.ensures
