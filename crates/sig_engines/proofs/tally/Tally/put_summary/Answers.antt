use Rattle.std.proofs.Common.{◌++◌, codes, decimal}
use Rattle.sig_engines.specs.Tallies.{done_of}
use Rattle.sig_engines.proofs.WriteLemmas.{adds_then, prints_then}
use Rattle.sig_engines.proofs.tally.Tally.put_summary.Goals as goal

pub returns-clause-prints : goal.returns-clause-prints
returns-clause-prints g c =
    let tally = c.args.self in
    let files = codes "files " ++ decimal (done_of tally) in
    let identified = codes " identified " ++ decimal tally.identified in
    let several = codes " several " ++ decimal tally.several in
    let none = codes " none " ++ decimal tally.none in
    let failed = codes " failed " ++ decimal tally.failed in
    let bytes = codes " bytes " ++ decimal tally.bytes in
    let two = adds_then _ _ _ files identified (rw c.done.ensures at c.in_ok-put_count.ensures.prints.0) c.in_ok-put_count-2.ensures.prints.0 in
    let three = adds_then _ _ _ (files ++ identified) several two c.in_ok-put_count-3.ensures.prints.0 in
    let four = adds_then _ _ _ (files ++ identified ++ several) none three c.in_ok-put_count-4.ensures.prints.0 in
    let five = adds_then _ _ _ (files ++ identified ++ several ++ none) failed four c.in_ok-put_count-5.ensures.prints.0 in
    let six = adds_then _ _ _ (files ++ identified ++ several ++ none ++ failed) bytes five c.in_ok-put_count-6.ensures.prints.0 in
    prints_then c.put.result _ _ _ (files ++ identified ++ several ++ none ++ failed ++ bytes) (codes "\n") _ six c.put.ensures.prints
