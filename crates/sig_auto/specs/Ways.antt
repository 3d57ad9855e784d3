-- Where the slots of cells lead: a slot of a cell goes to the next one of it, or leaves it for the joint behind it; behind a joint the cells begin that stand there, and a cell that may be skipped leads on to the joint behind it.
use Rattle.std.specs.Prelude.{ℕ, ◌+◌, ◌==◌, ◌&&◌, ◌||◌, nat_le, nat_lt, if◌then◌else◌, Bool, false, List, [], ◌∷◌, Option, Some, None}
use Rattle.sig_auto.specs.declared.cell.Cell.{Cell}

-- the cell begins behind this joint
abbrev pub meets : Cell → Option ℕ → Bool
meets c None = false
meets c (Some j) = c.front == j

abbrev pub is_skipped : Cell → Bool
is_skipped c = c.least == 0

-- the joint that is reached behind the cell: the one behind it, where it is met and may be skipped
abbrev pub onward : Cell → Option ℕ → Option ℕ
onward c j = if meets c j && is_skipped c then Some c.behind else j

-- the joint that is reached behind the cells
abbrev pub land : Option ℕ → List Cell → Option ℕ
land j [] = j
land j (c ∷ cs) = land (onward c j) cs

-- slot q is the first of a cell that begins behind the joint, or behind one that is reached
abbrev pub entered : Option ℕ → List Cell → ℕ → Bool
entered j [] q = false
entered j (c ∷ cs) q = (meets c j && q == c.before + 1) || entered (onward c j) cs q

-- slot p is one of the cell
abbrev pub has_slot : Cell → ℕ → Bool
has_slot c p = nat_lt c.before p && nat_le p (c.before + c.count)

-- slot q goes behind slot p within the cell
abbrev pub own : Cell → ℕ → ℕ → Bool
own c p q = (nat_lt p (c.before + c.count) && q == p + 1) || (c.endless && (p == c.before + c.count && q == p))

-- the joint for which slot p leaves the cell
abbrev pub leave : Cell → ℕ → Option ℕ
leave c p = if nat_le (c.before + c.least) p then Some c.behind else None

-- some cell has slot p
abbrev pub has : List Cell → ℕ → Bool
has [] p = false
has (c ∷ cs) p = has_slot c p || has cs p

-- the joint that slot p reaches behind the cells
abbrev pub exit : List Cell → ℕ → Option ℕ
exit [] p = None
exit (c ∷ cs) p = if has_slot c p then land (leave c p) cs else exit cs p

-- slot q goes behind slot p
abbrev pub gone : List Cell → ℕ → ℕ → Bool
gone [] p q = false
gone (c ∷ cs) p q = if has_slot c p then own c p q || entered (leave c p) cs q else gone cs p q
