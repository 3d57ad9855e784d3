use Rattle.std.proofs.Common.{◌≡◌, ◌+◌, ◌<◌, ◌++◌, [], ◌∷◌, List, ℕ, take, length, arith, subst, sym, ap, ◌∙◌}
use Rattle.std.proofs.lemmas.List.{take_more}
use Rattle.sig_expr.specs.declared.item.Item.{Item}
use Rattle.sig_expr.specs.Words.{Lang}
use Rattle.sig_match.specs.Runs.{Bounds}
use Rattle.sig_match.proofs.LangLemmas.{Bounds-item}
use Rattle.sig_match.proofs.whole.longest.longest_of.Goals as goal

pub loop-item-preserved : goal.loop-item-preserved
loop-item-preserved c =
    let xs = c.args.items.now in
    let i = c.loop-item.item-index in
    let x = c.item-item.result in
    let at : i < length xs = omega arith in
    let next : take (i + 1) xs ≡ take i xs ++ x ∷ [] = take_more xs i x at ∙ ap (λ (y : Item). take i xs ++ y ∷ []) (sym c.item-item.is) in
    let sum : c.loop-item.sum + c.in_ok-len.len ≡ c.in_ok-sum.sum = sym c.in_ok-sum.ensures.1 in
    let P : List Item → ℕ → Type 0 = λ l n. Bounds (Lang l) n in
    subst (λ (l : List Item). P l c.in_ok-sum.sum) (sym next) (subst (λ (n : ℕ). P (take i xs ++ x ∷ []) n) sum
    (Bounds-item (take i xs) x c.loop-item.sum c.in_ok-len.len c.loop-item.invariant c.in_ok-len.ensures))
