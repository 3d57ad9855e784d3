use Rattle.sig_engines.proofs.Exports.{prints_then}
use Rattle.sig_command.proofs.fault.write_text.Goals as goal

pub returns-in_ok-put-in-CannotOpen-clause-prints : goal.returns-in_ok-put-in-CannotOpen-clause-prints
returns-in_ok-put-in-CannotOpen-clause-prints g c =
    rw c.in-CannotOpen.is (prints_then _ _ _ _ _ _ _ c.in_ok-put-in-CannotOpen.ensures.prints.0 c.put-in-CannotOpen-2.ensures.prints)

pub returns-in_ok-put-in-NoFile-clause-prints : goal.returns-in_ok-put-in-NoFile-clause-prints
returns-in_ok-put-in-NoFile-clause-prints g c =
    rw c.in-NoFile.is (prints_then _ _ _ _ _ _ _ c.in_ok-put-in-NoFile.ensures.prints.0 c.put_path.ensures.prints)
