use Rattle.std.proofs.Common.{◌≡◌, ◌++◌, flat_map, map, take}
use Rattle.sig_cert.specs.Layouts.{four_bytes}
use Rattle.sig_find.proofs.writer.write_blockers.Given as goal

abbrev pub invariant-loop-blocker : goal.invariant-loop-blocker
invariant-loop-blocker l = l.out.items ≡ l.fn.out.items ++ flat_map four_bytes (map (λ b. b.0) (take l.blocker-index l.blockers))
