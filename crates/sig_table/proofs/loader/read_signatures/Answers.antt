use Rattle.sig_table.specs.Loading.{records_of}
use Rattle.sig_table.proofs.FileLemmas.{signatures_told}
use Rattle.sig_table.proofs.loader.read_signatures.Goals as goal

pub returns : goal.returns
returns c = signatures_told (records_of c.args.text.now) c.read_file.result (rw c.new.ensures at c.read_file.ensures)
