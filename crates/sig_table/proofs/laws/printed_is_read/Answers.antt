use Rattle.sig_table.proofs.PuidLemmas.{puid_of-puid_text}
use Rattle.sig_table.proofs.laws.printed_is_read.Goals as goal

pub returns : goal.returns
returns c = λ puid is. puid_of-puid_text puid.registry puid.number is.0 is.1
