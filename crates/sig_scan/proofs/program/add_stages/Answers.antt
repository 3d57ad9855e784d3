use Rattle.sig_scan.proofs.Common.{◌≡◌, ◌++◌, ◌∷◌, [], ◌∙◌, List, Some, None, ap, subst, sym, length, rules, ◌≤◌, Item, AddsCourse, StageView, TailView}
use Rattle.sig_scan.proofs.Common.{course_of, stages_of, span}
use Rattle.sig_scan.proofs.HeldLemmas.{last-short}
use Rattle.sig_scan.proofs.ProgramLemmas.{AddsCourse-to_end}
use Rattle.sig_scan.proofs.program.add_stages.Goals as goal

pub of-requires : goal.of-requires
of-requires c =
    let old : List StageView = c.args.stages.now.items in
    let new : List StageView = c.cut.new.stages.items in
    let last : StageView = c.in_ok-cut-in-Eof.field-0 in
    let s = c.args.sequence.now in
    let items = c.items-items.ensures.items ∙ c.expr.ensures.items in
    let same : new ++ last ∷ [] ≡ old ++ stages_of None [] s.items = c.in_ok-cut-in-Eof.ensures ∙ ap (λ (l : List Item). old ++ stages_of None [] l) items in
    let few = last-short old new s last c.in-Eof.min c.in-Eof.max (sym c.in-Eof.ensures) same c.expr.ensures.sequence in
    subst (λ (l : List Item). span l ≤ 65535) (sym c.into_items-last.ensures) few

pub returns-in_ok-cut-in-Eof : goal.returns-in_ok-cut-in-Eof
returns-in_ok-cut-in-Eof c =
    let old : List StageView = c.args.stages.now.items in
    let new : List StageView = c.cut.new.stages.items in
    let last : StageView = c.in_ok-cut-in-Eof.field-0 in
    let s = c.args.sequence.now in
    let items = c.items-items.ensures.items ∙ c.expr.ensures.items in
    let same : new ++ last ∷ [] ≡ old ++ stages_of None [] s.items = c.in_ok-cut-in-Eof.ensures ∙ ap (λ (l : List Item). old ++ stages_of None [] l) items in
    let first : c.len-first.result ≡ length old = search rules in
    let end : c.len-in-Eof.result ≡ length new = search rules in
    let tail : c.of.result ≡ record { items = last.items; min = c.in-Eof.min; max = c.in-Eof.max } =
    c.of.ensures ∙ ap (λ (l : List Item). record { items = l; min = c.in-Eof.min; max = c.in-Eof.max }) c.into_items-last.ensures in
    let P : TailView → Type 0 = λ t. AddsCourse old new (record { from = 0; first = c.len-first.result; end = c.len-in-Eof.result; tail = Some t })
    (course_of s) in
    subst P (sym tail) (AddsCourse-to_end old new s last c.in-Eof.min c.in-Eof.max _ _ (sym c.in-Eof.ensures) same first end)
