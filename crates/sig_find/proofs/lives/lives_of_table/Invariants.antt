use Rattle.std.proofs.Common.{map}
use Rattle.sig_find.specs.Lives.{AreLivesBelow}
use Rattle.sig_find.proofs.lives.lives_of_table.Given as goal

abbrev pub invariant-loop-format : goal.invariant-loop-format
invariant-loop-format l = AreLivesBelow l.fn.table l.fn.budget l.format (map (λ v. v.items) l.formats.items)
