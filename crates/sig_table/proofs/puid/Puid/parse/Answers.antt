use Rattle.std.proofs.Common.{◌∙◌}
use Rattle.sig_table.proofs.PuidLemmas.{puid_of-puid_text, puid_text-puid_of}
use Rattle.sig_table.proofs.puid.Puid.parse.Goals as goal

pub returns-clause-spelled : goal.returns-clause-spelled
returns-clause-spelled c = puid_text-puid_of c.args.text.now c.read_puid.result c.read_puid.ensures

pub returns-clause-taken : goal.returns-clause-taken
returns-clause-taken c p text least most = c.read_puid.ensures ∙ rw (← text) (puid_of-puid_text p.registry p.number least most)
