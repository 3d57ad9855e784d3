use Rattle.std.proofs.Common.{◌≡◌, ◌++◌, All, map}
use Rattle.sig_table.specs.Places.{places_of}
use Rattle.sig_table.specs.Remaining.{remaining_of}
use Rattle.sig_find.specs.Finding.{IsOfFormat}
use Rattle.sig_find.specs.Lives.{IsLifeOf}
use Rattle.sig_find.proofs.life.lives_of.Given as goal

abbrev pub invariant-loop-signature : goal.invariant-loop-signature
invariant-loop-signature l = record {
  all : map (λ s. s.signature) l.lives.items ++ remaining_of l.signature-iterator ≡ places_of l.fn.format.0 0 l.fn.table.signatures;
  each : All (λ s. IsLifeOf l.fn.table l.fn.budget l.fn.format.0 s.signature.0 s.life) l.lives.items;
  of : All (λ s. IsOfFormat l.fn.table l.fn.format.0 s.0) (remaining_of l.signature-iterator);
}
