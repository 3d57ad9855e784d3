use Rattle.std.proofs.Common.{◌≡◌, ◌+◌, ◌<◌, ◌++◌, [], ◌∷◌, List, map, take, length, arith, subst, sym, ap, ◌∙◌}
use Rattle.std.proofs.lemmas.List.{map_more, take_all}
use Rattle.sig_expr.specs.declared.item.Atom.{Atom}
use Rattle.sig_expr.specs.declared.item.Item.TheVariants as item
use Rattle.sig_expr.specs.Words.{Word}
use Rattle.sig_match.specs.Runs.{Bounds}
use Rattle.sig_match.proofs.LangLemmas.{Bounds-alternative}
use Rattle.sig_match.proofs.whole.longest.longest_of_any.Goals as goal

pub loop-alternative-preserved : goal.loop-alternative-preserved
loop-alternative-preserved c =
    let xs = c.as_slice-alternative-items.result.now in
    let i = c.loop-alternative.alternative-index in
    let v = c.alternative-item.result in
    let at : i < length xs = omega arith in
    let next : map (λ v. v.items) (take (i + 1) xs) ≡ map (λ v. v.items) (take i xs) ++ v.items ∷ [] =
    map_more (λ v. v.items) xs i v at ∙ ap (λ w. map (λ v. v.items) (take i xs) ++ w.items ∷ []) (sym c.alternative-item.is) in
    let last = rw c.as_slice.ensures.value at c.in_ok-len.ensures in
    let P : List (List Atom) → Type 0 = λ l. Bounds (Word (item.Alt l)) c.max-greatest.result in
    subst P (sym next) (Bounds-alternative (map (λ v. v.items) (take i xs)) v.items c.loop-alternative.greatest c.in_ok-len.len c.max-greatest.result
    (omega arith) (omega arith) c.loop-alternative.invariant last)

pub returns : goal.returns
returns c =
    let xs = c.as_slice-alternative-items.result.now in
    let i = c.loop-alternative.alternative-index in
    let P : List (List Atom) → Type 0 = λ l. Bounds (Word (item.Alt l)) c.loop-alternative.greatest in
    let all : map (λ v. v.items) (take i xs) ≡ c.args.alternatives.now =
    ap (λ l. map (λ v. v.items) l) (take_all i xs (omega arith)) ∙ c.as_slice-alternative-items.ensures in
    subst P all c.loop-alternative.invariant
