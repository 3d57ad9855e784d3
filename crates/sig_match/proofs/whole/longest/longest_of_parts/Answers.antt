use Rattle.std.proofs.Common.{◌≡◌, ◌+◌, ◌<◌, ◌++◌, [], ◌∷◌, List, ℕ, take, length, arith, subst, sym, ap, ◌∙◌}
use Rattle.std.proofs.lemmas.List.{take_more}
use Rattle.sig_expr.specs.declared.item.Atom.{Atom}
use Rattle.sig_expr.specs.Words.{AlternativeWord, PartWord}
use Rattle.sig_match.specs.Runs.{Bounds}
use Rattle.sig_match.proofs.LangLemmas.{Bounds-part}
use Rattle.sig_match.proofs.PartLemmas.{PartWord-length}
use Rattle.sig_match.proofs.whole.longest.longest_of_parts.Goals as goal

pub loop-part-preserved : goal.loop-part-preserved
loop-part-preserved c =
    let xs = c.args.parts.now in
    let i = c.loop-part.part-index in
    let x = c.part-item.result in
    let at : i < length xs = omega arith in
    let next : take (i + 1) xs ≡ take i xs ++ x ∷ [] = take_more xs i x at ∙ ap (λ (y : Atom). take i xs ++ y ∷ []) (sym c.part-item.is) in
    let sum : c.loop-part.sum + c.part_length.result ≡ c.in_ok-sum.sum = sym c.in_ok-sum.ensures.1 in
    let last : Bounds (PartWord x) c.part_length.result = λ w h. (let len = PartWord-length x w h in let value = c.part_length.ensures.value in omega arith) in
    let P : List Atom → ℕ → Type 0 = λ l n. Bounds (AlternativeWord l) n in
    subst (λ (l : List Atom). P l c.in_ok-sum.sum) (sym next) (subst (λ (n : ℕ). P (take i xs ++ x ∷ []) n) sum
    (Bounds-part (take i xs) x c.loop-part.sum c.part_length.result c.loop-part.invariant last))
