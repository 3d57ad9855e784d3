-- What sets of names keep.
use Rattle.std.specs.Prelude.{◌≡◌, ◌<◌, ◌≤◌, [], length}
use Rattle.sig_lint.specs.declared.names.Names.TheInside.{Inside}

-- at most a thousand are known, and others stand behind a thousand alone
pub record AreNames (n : Inside) : Type 0 where
  pub few : length n.known.keys ≤ 1000
  pub full : length n.known.keys < 1000 → n.beyond.keys ≡ []
