-- What a ghost field says has one proof.
use Rattle.std.specs.Prelude.{ℕ, ◌+◌, List, [], ◌∷◌}
use Rattle.std.specs.Coded.{Unit-prop}
use Rattle.std.proofs.Props.{props}
use Rattle.sig_auto.specs.declared.cell.Cell.{Cell}
use Rattle.sig_auto.specs.declared.joint.Joints.{Joints}
use Rattle.sig_auto.specs.Behind.{AreReady}
use Rattle.sig_auto.specs.Joined.{Lined}
use Rattle.sig_auto.specs.Joints.{AreJoints}

Lined-prop : (n : ℕ) (cs : List Cell) → IsProp (Lined n cs)
Lined-prop n [] = Unit-prop
Lined-prop n (c ∷ cs) = hlevel (props, Lined-prop (n + c.count) cs)

pub AreReady-prop : (cells : List Cell) → IsProp (AreReady cells)
AreReady-prop cells = hlevel (props, Lined-prop 0 cells)

pub AreJoints-prop : (cells : List Cell) (joints : Joints) → IsProp (AreJoints cells joints)
AreJoints-prop cells joints = hlevel props
