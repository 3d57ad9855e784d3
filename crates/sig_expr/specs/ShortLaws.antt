-- What a `Short` holds gives its fields back.
use Rattle.std.specs.Prelude.{◌≡◌, ℕ, ◌<◌, ◌≤◌, ◌-◌, List, ◌++◌, take, drop, length, replicate}
use Rattle.std.proofs.Common.{refl}
use Rattle.std.proofs.lemmas.List.{length-take-le, take-append-drop}
use Rattle.sig_expr.specs.declared.short.Short.TheInside.{Inside}

-- one to eight bytes at the front, and zeros behind them
pub record IsPadded (a : Inside) : Type 0 where
  pub least : 0 < a.len
  pub greatest : a.len ≤ 8
  pub room : length a.bytes ≡ 8
  pub padding : drop a.len a.bytes ≡ replicate (8 - a.len) 0

-- these bytes and zeros behind them
abbrev pub padded : List ℕ → Inside
padded w = record { bytes = w ++ replicate (8 - length w) 0; len = length w }

pub padded-front : (a : Inside) → IsPadded a → padded (take a.len a.bytes) ≡ a
padded-front a h =
    let len : length (take a.len a.bytes) ≡ a.len = length-take-le a.len a.bytes (rw h.room h.greatest) in
    let whole : take a.len a.bytes ++ replicate (8 - a.len) 0 ≡ a.bytes = rw (← h.padding) (take-append-drop a.len a.bytes) in
    let fields : (b : List ℕ) (n : ℕ) → b ≡ a.bytes → n ≡ a.len → (let r : Inside = record { bytes = b; len = n } in r ≡ a) = λ b n e f. rw (e, f) refl in
    fields _ _ (rw len whole) len
