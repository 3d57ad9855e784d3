use Rattle.std.proofs.Common.{◌∙◌, ◌<◌, ◌∷◌, ◌++◌, [], All, List, length, map, subst, sym}
use Rattle.sig_cert.specs.Pairs.{signatures_of}
use Rattle.sig_table.specs.Tables.{ArePriorities}
use Rattle.sig_table.specs.declared.ids.SigId.{SigId}
use Rattle.sig_find.specs.Additions.{IsEscape}
use Rattle.sig_find.proofs.AdditionLemmas.{escape_tells, over_within, own_within}
use Rattle.sig_find.proofs.addition.try_addition.Goals as goal

pub decide_escape-requires-clause-own : goal.decide_escape-requires-clause-own
decide_escape-requires-clause-own c =
    subst (λ (own : List SigId). All (λ index. index < length c.args.table.now.signatures) (map (λ (s : SigId). s.0) own))
    (sym (c.deref.ensures.value ∙ c.in_ok-own.ensures.signatures)) (own_within c.args.table.now c.args.lower.0)

pub decide_escape-requires-clause-others : goal.decide_escape-requires-clause-others
decide_escape-requires-clause-others c =
    subst (λ (over : List SigId). All (λ index. index < length c.args.table.now.signatures) (map (λ (s : SigId). s.0) over)) (sym c.deref-2.ensures.value)
    (over_within c.args.table.now _ c.args.lower.0 (map (λ (s : SigId). s.0) c.in_ok-over.over.items) c.in_ok-over.ensures.each)

pub returns : goal.returns
returns c =
    let table = c.args.table.now in
    let fate = c.in_ok-fate.fate in
    let of_own = subst (λ (own : List SigId). IsEscape table (map (λ (s : SigId). s.0) own) (map (λ (s : SigId). s.0) c.deref-2.result.now) c.args.budget fate)
    (c.deref.ensures.value ∙ c.in_ok-own.ensures.signatures) c.in_ok-fate.ensures in
    let of_both = subst (λ (over : List SigId). IsEscape table (signatures_of table c.args.lower.0) (map (λ (s : SigId). s.0) over) c.args.budget fate)
    c.deref-2.ensures.value of_own in
    rw c.addition_by.ensures
    (escape_tells table c.args.ranking.now.pairs (c.args.higher.0, c.args.lower.0) (map (λ (s : SigId). s.0) c.in_ok-over.over.items) c.args.budget fate
    c.in_ok-own.ensures.table
    (subst (λ n. ArePriorities n (c.args.ranking.now.pairs ++ (c.args.higher.0, c.args.lower.0) ∷ [])) c.requires.formats
    (c.takes.ensures.0 c.if-not-takes.false)) c.in_ok-over.ensures of_both)
