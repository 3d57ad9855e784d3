-- What an iterator over successors has still to give.
use Rattle.std.specs.Prelude.{ℕ, List, ◌++◌, drop}
use Rattle.sig_auto.specs.declared.successors.Successors.{Successors}
use Rattle.sig_auto.specs.Taken.{own_list, taken_first}

-- the successors still to come
abbrev pub remaining_of : Successors → List ℕ
remaining_of s = own_list s.own ++ taken_first s.byte (drop s.at s.cells.now)
