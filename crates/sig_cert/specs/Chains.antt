-- Steps that are judged one after another.
use Rattle.std.specs.Prelude.{ℕ, List, map, flat_map}
use Rattle.sig_cert.specs.Pairs.{signatures_of}
use Rattle.sig_cert.specs.Verdicts.{Outcome}
use Rattle.sig_table.specs.declared.ids.SigId.{SigId}
use Rattle.sig_table.specs.Views.{TableView}

-- what the first step tells of these bytes, the second tells of those
abbrev pub Chained : (List ℕ → Outcome → Type 0) → List ℕ → (List ℕ → Outcome → Type 0) → List ℕ → Type 0
Chained First left Second bytes = (outcome : Outcome) → First left outcome → Second bytes outcome

-- a signature with each of these
abbrev pub signatures_with : ℕ → List SigId → List (ℕ × ℕ)
signatures_with s others = map (λ t. (s, t)) (map (λ t. t.0) others)

-- each of these signatures with each of the format
abbrev pub signatures_left : TableView → ℕ → List SigId → List (ℕ × ℕ)
signatures_left table format these = flat_map (λ s. map (λ t. (s, t)) (signatures_of table format)) (map (λ s. s.0) these)
