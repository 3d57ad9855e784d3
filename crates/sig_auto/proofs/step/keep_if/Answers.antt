use Rattle.sig_auto.proofs.KeepLemmas.{HasBit-kept}
use Rattle.sig_auto.proofs.step.keep_if.Goals as goal

pub returns-then-not-is_kept : goal.returns-then-not-is_kept
returns-then-not-is_kept c = HasBit-kept c.args.set.now c.args.slot c.args.is_kept c.if-not-is_kept.true c.requires
