use Rattle.sig_auto.proofs.Common.{◌≡◌, ◌≤◌, ◌-◌, ◌++◌, drop, length, map, take, above, behind_these}
use Rattle.sig_auto.proofs.class_word.push_above.Given as goal

-- the rows that agree on more bytes
abbrev pub invariant-loop-j : goal.invariant-loop-j
invariant-loop-j l = record {
  within : l.j ≤ length l.bytes;
  agreed : l.agreed ≤ l.j;
  pushed : map (λ v. v.items) l.rows.items ≡ map (λ v. v.items) l.fn.rows.items ++ behind_these (take l.j l.bytes) (above (drop l.j l.bytes));
}

abbrev pub decreases-loop-j : goal.decreases-loop-j
decreases-loop-j l = l.j - l.agreed
