use Rattle.sig_auto.proofs.Common.{arith}
use Rattle.sig_auto.proofs.BuildLemmas.{alternative_is_sound, alternatives_on}
use Rattle.sig_auto.proofs.build.push_alternatives.Goals as goal

pub push_atoms-requires-clause-sound : goal.push_atoms-requires-clause-sound
push_atoms-requires-clause-sound c = alternative_is_sound (λ v. v.items) c.args.alternatives.now c.loop-j.j c.index-alternatives-j.result c.as_slice.result.now
    (omega arith) c.requires.sound c.index-alternatives-j.is c.as_slice.ensures.value

pub loop-j-preserved : goal.loop-j-preserved
loop-j-preserved c = alternatives_on (λ v. v.items) _ c.args.alternatives.now c.loop-j.j c.args.n c.args.front c.args.behind c.args.cells.now.items
    c.loop-j.cells.items c.push_atoms.new.cells.items c.loop-j.slots c.in_ok-slots.slots c.index-alternatives-j.result c.as_slice.result.now c.loop-j.invariant
    (omega arith) c.index-alternatives-j.is c.as_slice.ensures.value c.in_ok-slots.ensures
