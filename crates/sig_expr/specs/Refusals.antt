-- What each refusal of a text says.
use Rattle.std.specs.Prelude.{ℕ, ◌<◌, ◌≤◌, List, ◌++◌, length, take}
use Rattle.sig_expr.specs.declared.error.ExprError.{ExprError}
use Rattle.sig_expr.specs.declared.error.ExprError.TheVariants as error
use Rattle.sig_expr.specs.Spelling.{IsText}
use Rattle.sig_expr.specs.Profile.{InProfile}
use Rattle.sig_expr.specs.FirstFaults.{IsFirstFault}

-- the front begins some text of the grammar
abbrev pub Begins : List ℕ → Type 0
Begins front = (rest : List ℕ) × IsText (front ++ rest)

-- the first n bytes begin some text of the grammar, and no longer front does
pub record IsLongestFront (t : List ℕ) (n : ℕ) : Type 0 where
  pub within : n ≤ length t
  pub begins : Begins (take n t)
  pub longest : (m : ℕ) → n < m → m ≤ length t → Begins (take m t) → ⊥

-- a text of the grammar, of at most 8,192 bytes, that is not in the profile
pub record IsFaulty (t : List ℕ) : Type 0 where
  pub short : length t ≤ 8192
  pub is_text : IsText t
  pub outside : InProfile t → ⊥

-- outside the grammar, with its longest front
pub record IsNoText (t : List ℕ) (n : ℕ) : Type 0 where
  pub short : length t ≤ 8192
  pub no_text : IsText t → ⊥
  pub front : IsLongestFront t n

-- what a refusal says of the text
abbrev pub Means : ExprError → List ℕ → Type 0
Means error.TooLong t = 8192 < length t
Means (error.Syntax n) t = IsNoText t n
Means (error.GapNumber n) t = IsFirstFault (error.GapNumber n) t
Means (error.GapEmpty n) t = IsFirstFault (error.GapEmpty n) t
Means (error.GapOrder n) t = IsFirstFault (error.GapOrder n) t
Means (error.RangeOrder n) t = IsFirstFault (error.RangeOrder n) t
Means (error.ClassEmpty n) t = IsFirstFault (error.ClassEmpty n) t
Means error.OutOfMemory t = InProfile t
Means (error.RangeLength n) t = IsFirstFault (error.RangeLength n) t
Means (error.BracketTooLong n) t = IsFirstFault (error.BracketTooLong n) t
