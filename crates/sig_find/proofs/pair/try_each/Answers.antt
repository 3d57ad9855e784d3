use Rattle.sig_find.proofs.pair.try_each.Goals as goal

pub try_simple-requires-clause-first : goal.try_simple-requires-clause-first
try_simple-requires-clause-first c = (c.requires.named c.loop-s.s-index (record { 0 = 0 }, record { 0 = 0 }) c.loop-s-test.true).0

pub try_simple-requires-clause-second : goal.try_simple-requires-clause-second
try_simple-requires-clause-second c = (c.requires.named c.loop-s.s-index (record { 0 = 0 }, record { 0 = 0 }) c.loop-s-test.true).1
