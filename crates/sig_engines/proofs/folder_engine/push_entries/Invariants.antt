use Rattle.std.proofs.Common.{◌≡◌, ◌+◌, ◌≤◌, ◌++◌, List, map}
use Rattle.std.specs.Prelude.{reverse}
use Rattle.sig_engines.specs.Waiting.{waiting_in}
use Rattle.sig_engines.specs.declared.store.Entry.{Entry}
use Rattle.sig_engines.proofs.folder_engine.push_entries.Given as goal

-- the last entries wait, the first of them last, and there is room for the others
abbrev pub invariant-entries : goal.invariant-entries
invariant-entries l = record {
  moved : (moved : List Entry) × (l.fn.entries.items ≡ l.entries.items ++ moved)
      × (l.waiting.items ≡ l.fn.waiting.items ++ reverse (map (waiting_in l.room) moved));
  room : l.waiting.len + l.entries.len ≤ l.waiting.cap;
}

abbrev pub decreases-entries : goal.decreases-entries
decreases-entries l = goal.left-entries l
