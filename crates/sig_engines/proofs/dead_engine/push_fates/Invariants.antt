use Rattle.std.proofs.Common.{◌≡◌, ◌++◌, map, take}
use Rattle.sig_find.specs.Lives.{fate_of}
use Rattle.sig_engines.proofs.dead_engine.push_fates.Given as goal

abbrev pub invariant-loop-found : goal.invariant-loop-found
invariant-loop-found l = l.fates.items ≡ l.fn.fates.items ++ map (λ f. fate_of f.life) (take l.found-index l.lives)
