-- Fields that a reading takes.
use Rattle.std.specs.Prelude.{◌≡◌, ℕ, ◌*◌, ◌<◌, ◌≤◌, List, MatchResult, Result, length, take, drop}
use Rattle.sig_cert.specs.declared.error.CheckError.{CheckError}
use Rattle.sig_cert.specs.declared.error.CheckError.TheVariants.{Truncated}
use Rattle.sig_cert.specs.Verdicts.{number_of, rows_in}

-- the field is the next so many bytes, and what is left are those behind it
pub record Took (n : ℕ) (before field after : List ℕ) : Type 0 where
  pub whole : n ≤ length before
  pub is_field : field ≡ take n before
  pub behind : after ≡ drop n before

-- the number that the next so many bytes write, and what is left are those behind them; or there are fewer
abbrev pub TookNumber : ℕ → List ℕ → List ℕ → Result ℕ CheckError → Type 0
TookNumber n before after answer =
    MatchResult answer (λ number. (number ≡ number_of (take n before)) × (n ≤ length before) × (after ≡ drop n before)) (λ fault. (fault ≡ Truncated) × (length before < n))

-- the next bytes are these rows, so many of this width, and what is left are those behind them
pub record TookRows (n width : ℕ) (before : List ℕ) (rows : List (List ℕ)) (after : List ℕ) : Type 0 where
  pub bytes : List ℕ
  pub took : Took (n * width) before bytes after
  pub are_rows : rows ≡ rows_in n width bytes
