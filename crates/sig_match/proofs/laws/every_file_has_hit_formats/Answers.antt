use Rattle.sig_match.proofs.EveryFileLemmas.{hit_formats_there, left_there}
use Rattle.sig_match.proofs.laws.every_file_has_hit_formats.Goals as goal

pub returns : goal.returns
returns c = record { hits = hit_formats_there; left = left_there }
