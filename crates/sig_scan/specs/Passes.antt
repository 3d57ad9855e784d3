-- What the prefilter tells of sequences that wait.
use Rattle.std.specs.Prelude.{◌≡◌, ℕ, ◌<◌, ◌≤◌, List, Some, length, slice_index}
use Rattle.std.specs.List.{slice_get}
use Rattle.sig_scan.specs.declared.state.State.{State}
use Rattle.sig_scan.specs.Placed.{Lies}
use Rattle.sig_scan.specs.Stages.{CourseView, StageView}

-- at each offset at which one of the sequences may go on, before the one that was found for it, no word of the stage
-- that it waits in begins that ends before the last byte
abbrev pub ArePast : List CourseView → List State → List ℕ → List ℕ → Type 0
ArePast courses states bytes found = (k x : ℕ) (c : CourseView) (t : State) → slice_get courses k ≡ Some c
    → slice_get states k ≡ Some t → t.from ≤ x → x < slice_index found k
    → (u : StageView) × (slice_get c.stages t.done ≡ Some u) × ((end : ℕ) → end < length bytes → ¬ Lies u.items bytes x end)
