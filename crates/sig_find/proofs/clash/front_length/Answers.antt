use Rattle.std.proofs.Common.{[], ◌∷◌, ◌++◌, All, List, subst, sym, take, ◌∙◌, ap, arith}
use Rattle.std.proofs.lemmas.List.{take_more}
use Rattle.std.proofs.lemmas.List.Elements.{All-push}
use Rattle.sig_expr.specs.declared.item.Item.{Item}
use Rattle.sig_find.specs.Clashes.{IsOneByte}
use Rattle.sig_find.proofs.clash.front_length.Goals as goal

pub loop-item-preserved : goal.loop-item-preserved
loop-item-preserved c =
    let items : List Item = c.args.items.now in
    let i = c.loop-item.item-index in
    let item : Item = c.item-item.result in
    let next = take_more items i item c.loop-item-test.true ∙ ap (λ (o : Item). take i items ++ o ∷ []) (sym c.item-item.is) in
    let count = c.loop-item.invariant.count in
    record {
      count = omega arith;
      front = subst (All IsOneByte) (sym next) (All-push IsOneByte (take i items) item c.loop-item.invariant.front
          (c.is_one_byte.ensures c.if-not-is_one_byte.false));
    }
