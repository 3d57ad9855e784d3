use Rattle.std.proofs.Common.{◌≡◌, All, false, take, true}
use Rattle.sig_find.specs.Classes.{IsHeld, IsOpen}
use Rattle.sig_find.proofs.class.contain_each.Given as goal

abbrev pub invariant-loop-own : goal.invariant-loop-own
invariant-loop-own l = record {
  held : l.open ≡ false → All (λ o. IsHeld l.fn.table l.fn.task.a.0 l.fn.task.b.0 o.signature.0) (take l.own-index l.lives);
  beyond : l.open ≡ true → IsOpen l.fn.table l.fn.task.budget l.fn.task.a.0 l.fn.task.b.0;
}
