use Rattle.sig_engines.proofs.CsvLemmas.{read_back}
use Rattle.sig_engines.proofs.laws.records_are_read_back.Goals as goal

pub returns : goal.returns
returns c = λ names table files. read_back names table files
