use Rattle.std.proofs.Common.{◌≡◌, ◌+◌, ◌≤◌, ℕ, length, arith, subst, sym, ◌∙◌}
use Rattle.std.specs.Prelude.{slice_range}
use Rattle.sig_expr.specs.Words.{PartWord}
use Rattle.std.proofs.lemmas.Bool.{false≢true}
use Rattle.sig_match.specs.Frontiers.{IsWithin}
use Rattle.sig_match.specs.Parts.{part_len}
use Rattle.sig_match.proofs.PartLemmas.{Gains-here, Gains-none, Gains-passed, Gains-start, PartWord-length}
use Rattle.sig_match.proofs.whole.advance.add_after_bracket.Goals as goal
use Rattle.sig_match.proofs.whole.advance.add_after_bracket.Goals.{then-is_part_word+in_ok-add, else-is_part_word}

pub loop-start-init : goal.loop-start-init
loop-start-init c = Gains-start (PartWord c.args.part.now) (part_len c.args.part.now) (PartWord-length c.args.part.now) c.args.file.now c.args.interval
    c.args.ends.now.items

pub loop-start-preserved : goal.loop-start-preserved
loop-start-preserved c =
    let part = c.args.part.now in
    let file = c.args.file.now in
    let at = c.loop-start.start in
    let len = c.part_length-len.result in
    let within : IsWithin c.args.interval at = (c.loop-start.auto.start, omega arith) in
    let fits : at + len ≤ length file = omega arith in
    elim c.if-is_part_word.branch [
      | then-is_part_word+in_ok-add w ↦
          rw w.ends-is (Gains-here (PartWord part) (part_len part) (PartWord-length part) file c.args.interval at (at + len) _ _ _ within (omega arith) fits
          (c.is_part_word.ensures.0 w.if-is_part_word.true) c.loop-start.invariant w.in_ok-add.ensures)
      | else-is_part_word w ↦
          rw w.ends-is (
          Gains-none (PartWord part) (part_len part) (PartWord-length part) file c.args.interval at (at + 1) _ _ (omega arith)
          (λ k low high _ room word.
          let same : k ≡ at = omega arith in
          let end : k + part_len part ≡ at + len = omega arith in
          let P : ℕ → ℕ → Type 0 = λ s e. PartWord part (slice_range file s e) in
          false≢true (sym w.if-is_part_word.false ∙ c.is_part_word.ensures.1 (subst (λ (s : ℕ). P s (at + len)) same (subst (λ (e : ℕ). P k e) end word))))
          c.loop-start.invariant
          )
    ]

pub returns : goal.returns
returns c =
    Gains-passed (PartWord c.args.part.now) (part_len c.args.part.now) (PartWord-length c.args.part.now) c.args.file.now c.args.interval c.loop-start.start _
    c.loop-start.ends.items
    (λ a low room. omega arith) c.loop-start.invariant
