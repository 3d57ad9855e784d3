use Rattle.std.proofs.Common.{◌∙◌, eq-eqb, inl, inr, sym}
use Rattle.std.proofs.lemmas.Bool.{eqb-true, false≢true}
use Rattle.sig_find.proofs.AdditionLemmas.{over_by_format}
use Rattle.sig_find.proofs.addition.is_over.Goals as goal

pub returns-then-eq : goal.returns-then-eq
returns-then-eq c =
    let law = over_by_format c.args.table.now c.args.ranking.now.pairs (c.args.higher.0, c.args.lower.0) c.args.signature.0 c.format_of-format.result.0
    c.format_of-format.ensures.format in
    (λ t. law.1 (inl (eqb-true c.format_of-format.result.0 c.args.higher.0 (sym c.eq.ensures ∙ c.if-eq.true))), λ over. c.if-eq.true)

pub returns-else-eq : goal.returns-else-eq
returns-else-eq c =
    let law = over_by_format c.args.table.now c.args.ranking.now.pairs (c.args.higher.0, c.args.lower.0) c.args.signature.0 c.format_of-format.result.0
    c.format_of-format.ensures.format in (
      λ t. law.1 (inr (c.outranks.ensures.0 t)),
      λ over. elim (law.0 over) [
        | inl same ↦ absurd (false≢true (sym c.if-eq.false ∙ c.eq.ensures ∙ eq-eqb c.format_of-format.result.0 c.args.higher.0 same))
        | inr listed ↦ c.outranks.ensures.1 listed
      ],
    )
