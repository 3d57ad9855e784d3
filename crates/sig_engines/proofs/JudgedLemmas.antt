-- What an accepted certificate is answered with.
use Rattle.std.proofs.Common.{◌≡◌, true, Result, Ok, Err}
use Rattle.std.specs.Prelude.{OnOk, is_ok}

-- only an accepted certificate is answered with a yes
pub accepted_decides : {T E : Type 0} (P : Type 0) (verdict : Result T E) → OnOk verdict P → is_ok verdict ≡ true → P
accepted_decides P (Ok accepted) decided is = decided
accepted_decides P (Err fault) decided is = cc
