use Rattle.sig_scan.proofs.Common.{◌≡◌, ◌∙◌, ◌∷◌, List, ap, drop, refl, subst, sym, drop_more, Item, Position, SequenceView}
use Rattle.sig_table.specs.Standing.{StandsAt}
use Rattle.sig_table.specs.declared.position.Position.TheVariants as position
use Rattle.sig_scan.proofs.HeadLemmas.{HasHead-first}
use Rattle.sig_scan.proofs.head.Head.of.Goals as goal

pub returns-clause-has : goal.returns-clause-has
returns-clause-has c file stands =
    let s : SequenceView = c.args.sequence.now in
    let min = c.in-Bof.min in
    let max = c.in-Bof.max in
    let list : List Item = c.items.result.now in
    let first : Item = c.in_ok-first.first.now in
    let item = c.in_ok-first.ensures.item in
    let cons : list ≡ first ∷ drop 1 list = drop_more list 0 first item.3.0 ∙ ap (λ (i : Item). i ∷ drop 1 list) (sym item.1) in
    let items = sym (c.items.ensures.items ∙ c.expr.ensures.items) ∙ cons in
    let at = subst (λ (p : Position). StandsAt p s.items file) (sym c.in-Bof.ensures) stands in
    let there = subst (λ (l : List Item). StandsAt (position.Bof min max) l file) items at in
    HasHead-first min max first (drop 1 list) file _ c.in_ok-text.text c.in_ok-text.other c.if-min-max.false c.in_ok-text.ensures c.from.ensures refl refl there
