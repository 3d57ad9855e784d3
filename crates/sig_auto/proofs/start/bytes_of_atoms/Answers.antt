use Rattle.sig_auto.proofs.BeginLemmas.{atoms_answer}
use Rattle.sig_auto.proofs.start.bytes_of_atoms.Goals as goal

pub returns-in-Some : goal.returns-in-Some
returns-in-Some c b small =
    atoms_answer c.args.atoms.now c.in-Some.atom.now _ b c.in-Some.ensures.cases.0 c.requires (c.bytes_of_atom.ensures b small)
