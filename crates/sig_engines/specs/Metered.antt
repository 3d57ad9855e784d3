-- What a meter does to the output that it tells.
use Rattle.std.specs.Prelude.{◌≡◌, ℕ, ◌<◌, ◌≤◌, Bool, false, List, Option}
use Rattle.sig_bits.specs.Device.{Adds}
use Rattle.sig_engines.specs.Progress.{AddsReports, report_text}
use Rattle.sig_engines.specs.declared.progress.Meter.{Meter}
use Rattle.sig_engines.specs.declared.progress.Things.{Things}

-- a meter has told more to the same output: unless a write failed, none had failed before, and where what was written from some place on were reports, they still are
pub record HasTold {E : Type 0} (failed : E → Bool) (written : E → Option (List ℕ)) (before after : Meter E) : Type 0 where
  pub same_reference : after.err.ghost_name ≡ before.err.ghost_name
  pub same_things : after.things ≡ before.things
  pub sound : failed after.err.now ≡ false → failed before.err.now ≡ false
  pub adds : failed after.err.now ≡ false → (things : Things) → before.things ≡ things → (start : Option (List ℕ)) → AddsReports things start (written before.err.now) → AddsReports things start (written after.err.now)

-- it has shown that so many of so many are done, if as many as it waited for are; until all are done it waits for no more than all
pub record ShowsReport {E : Type 0} (failed : E → Bool) (written : E → Option (List ℕ)) (before after : Meter E) (done all : ℕ) : Type 0 where
  pub shows : before.next ≤ done → failed after.err.now ≡ false → Adds (written before.err.now) (report_text before.things (done, all)) (written after.err.now)
  pub waits : done < before.next → after.err.now ≡ before.err.now
  pub ends : done < all → before.next ≤ all → after.next ≤ all
