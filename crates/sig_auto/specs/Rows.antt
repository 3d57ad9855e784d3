-- Brackets of several bytes as rows of classes, one class for each byte: their words are those of the rows.
use Rattle.std.specs.Prelude.{ℕ, ◌+◌, ◌-◌, ◌==◌, nat_lt, if◌then◌else◌, List, [], ◌∷◌, ◌++◌, map}
use Rattle.sig_auto.specs.declared.class.Class.{Class}
use Rattle.sig_auto.specs.declared.class.Class.TheVariants.{Within}
use Rattle.sig_auto.specs.Classes.{any, only}

-- any bytes, as many as these
abbrev pub rest : List ℕ → List Class
rest bytes = map (λ b. any) bytes

-- these bytes alone
abbrev pub only_these : List ℕ → List Class
only_these bytes = map only bytes

-- each row behind this byte
abbrev pub behind : ℕ → List (List Class) → List (List Class)
behind b rows = map (λ row. only b ∷ row) rows

-- the words that first differ from x ∷ xs at x, and are before it
abbrev pub lower_at : ℕ → List ℕ → List (List Class)
lower_at x xs = if nat_lt 0 x then (Within 0 (x - 1) ∷ rest xs) ∷ [] else []

-- the words that first differ from x ∷ xs at x, and are after it
abbrev pub upper_at : ℕ → List ℕ → List (List Class)
upper_at x xs = if nat_lt x 255 then (Within (x + 1) 255 ∷ rest xs) ∷ [] else []

-- the words whose first byte is between the two
abbrev pub inner_at : ℕ → ℕ → List ℕ → List (List Class)
inner_at x y xs = if nat_lt (x + 1) y then (Within (x + 1) (y - 1) ∷ rest xs) ∷ [] else []

-- the words before these bytes: the place that is lowered goes from the first to the last
abbrev pub below : List ℕ → List (List Class)
below [] = []
below (x ∷ xs) = lower_at x xs ++ behind x (below xs)

-- the words after them: the place that is raised goes from the last to the first
abbrev pub above : List ℕ → List (List Class)
above [] = []
above (x ∷ xs) = behind x (above xs) ++ upper_at x xs

-- the words from the first bytes to the second, as both go on behind the first place where they differ
abbrev pub between : List ℕ → List ℕ → List (List Class)
between [] ys = []
between (x ∷ xs) [] = []
between (x ∷ xs) (y ∷ ys) = if x == y then behind x (between xs ys) else only_these (x ∷ xs) ∷ (behind x (above xs) ++ (inner_at x y xs ++ (behind y (below ys) ++ only_these (y ∷ ys) ∷ [])))

-- each row behind these bytes
abbrev pub behind_these : List ℕ → List (List Class) → List (List Class)
behind_these front rows = map (λ row. only_these front ++ row) rows
