-- What a decided table means for the formats that are left.
use Rattle.std.proofs.Common.{◌≤◌, ℕ, List, length, inl, inr, arith}
use Rattle.std.proofs.lemmas.Bool.{cases_lt}
use Rattle.sig_bits.specs.Bytes.{IsBytes}
use Rattle.sig_core.specs.declared.results.Hit.{Hit}
use Rattle.sig_core.specs.Hits.{Left}
use Rattle.sig_table.specs.Views.{TableView}
use Rattle.sig_cert.specs.Deciding.{Decided}

-- at most one format is left of any file
pub one_is_left : (table : TableView) (file : List ℕ) (left : List Hit) → Decided table → IsBytes file → Left table file left → length left ≤ 1
one_is_left table file left decided bytes is = elim (cases_lt 1 (length left)) [
  | inl two ↦ absurd (decided file bytes (record { left = left; is_left = is; two = omega arith }))
  | inr one ↦ one
]
