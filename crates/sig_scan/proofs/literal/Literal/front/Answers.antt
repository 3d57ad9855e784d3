use Rattle.sig_scan.proofs.LiteralLemmas.{AreFixed-none, IsLiteralOf-behind}
use Rattle.sig_scan.proofs.literal.Literal.front.Goals as goal

pub returns : goal.returns
returns c = IsLiteralOf-behind c.args.items.now 0 0 c.run_of.result c.run_of.ensures.at (AreFixed-none c.args.items.now) c.run_of.ensures.begins
