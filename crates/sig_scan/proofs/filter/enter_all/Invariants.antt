use Rattle.sig_scan.proofs.Common.{ℕ, ◌<◌, AreKept, IsListed, behind_of, text_of}
use Rattle.sig_scan.proofs.filter.enter_all.Given as goal

-- the texts so far are entered
abbrev pub invariant-loop-choice : goal.invariant-loop-choice
invariant-loop-choice l = record {
  kept : AreKept l.initial.marks l.initial.slots l.marks l.slots;
  listed : (n : ℕ) → n < l.choice → IsListed l.marks l.slots l.id (text_of l.literal l.window n) (behind_of l.literal l.window n);
}
