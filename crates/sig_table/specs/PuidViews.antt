-- A PUID as its parts.
use Rattle.std.specs.Prelude.{ℕ}
use Rattle.sig_table.specs.declared.puid.Registry.{Registry}

-- the registry that names the format, and the number
pub record PuidView : Type 0 where
  pub registry : Registry
  pub number : ℕ
