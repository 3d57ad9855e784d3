use Rattle.std.proofs.Common.{◌≡◌, ◌<◌, List, arith, length, map, take, sym, ap, ◌∙◌, subst, ◌+◌, ◌++◌, [], ◌∷◌}
use Rattle.std.proofs.lemmas.List.{map_more, take_all}
use Rattle.sig_expr.specs.declared.item.Atom.{Atom}
use Rattle.sig_match.specs.Frontiers.{IsIn, HasExactly}
use Rattle.sig_match.proofs.ItemLemmas.{HasExactly-no_alternative, HasExactly-alternative, ReachesAny}
use Rattle.sig_match.proofs.whole.advance.after_alternatives.Goals as goal

pub loop-alternative-init : goal.loop-alternative-init
loop-alternative-init c = rw c.new-ends.ensures.items (HasExactly-no_alternative c.args.file.now (IsIn c.args.frontier.now))

pub loop-alternative-preserved : goal.loop-alternative-preserved
loop-alternative-preserved c =
    let xs = c.as_slice-alternative-items.result.now in
    let i = c.loop-alternative.alternative-index in
    let v = c.alternative-item.result in
    let file = c.args.file.now in
    let S = IsIn c.args.frontier.now in
    let at : i < length xs = omega arith in
    let next : map (λ v. v.items) (take (i + 1) xs) ≡ map (λ v. v.items) (take i xs) ++ v.items ∷ [] =
    map_more (λ v. v.items) xs i v at ∙ ap (λ w. map (λ v. v.items) (take i xs) ++ w.items ∷ []) (sym c.alternative-item.is) in
    let after = rw c.as_slice.ensures.value at c.in_ok-others.ensures in
    let both = rw (c.deref.ensures.value, c.deref-in-loop-alternative.ensures.value) at c.in_ok-ends.ensures in
    let P : List (List Atom) → Type 0 = λ l. HasExactly (ReachesAny l file S) c.in_ok-ends.ends.items in
    subst P (sym next) (HasExactly-alternative (map (λ v. v.items) (take i xs)) v.items file S c.loop-alternative.ends.items c.in_ok-others.others.items
    c.in_ok-ends.ends.items c.loop-alternative.invariant after both)

pub returns : goal.returns
returns c =
    let xs = c.as_slice-alternative-items.result.now in
    let file = c.args.file.now in
    let S = IsIn c.args.frontier.now in
    let i = c.loop-alternative.alternative-index in
    let P : List (List Atom) → Type 0 = λ l. HasExactly (ReachesAny l file S) c.loop-alternative.ends.items in
    let all : map (λ v. v.items) (take i xs) ≡ c.args.alternatives.now =
    ap (λ l. map (λ v. v.items) l) (take_all i xs (omega arith)) ∙ c.as_slice-alternative-items.ensures in
    subst P all c.loop-alternative.invariant
