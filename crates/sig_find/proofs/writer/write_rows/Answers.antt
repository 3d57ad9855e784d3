use Rattle.std.proofs.Common.{◌≡◌, ◌+◌, ◌++◌, List, ℕ, Global, Vec, get_or, map, take, ap, ◌∙◌, subst}
use Rattle.std.specs.List.{concat}
use Rattle.std.proofs.lemmas.List.{take_all}
use Rattle.sig_find.proofs.WrittenLemmas.{concat_more, pushed}
use Rattle.sig_find.proofs.writer.write_rows.Goals as goal

pub loop-row-preserved : goal.loop-row-preserved
loop-row-preserved c =
    let bytes : Vec ℕ Global → List ℕ = λ r. r.items in
    let rows : List (Vec ℕ Global) = c.args.rows.now in
    let row : Vec ℕ Global = c.row-item.result in
    let i = c.loop-row.row-index in
    let same : c.deref.result.now ≡ bytes (get_or rows i row) = c.deref.ensures.value ∙ ap bytes c.row-item.is in
    pushed c.args.out.now.items (concat (map bytes (take i rows))) (bytes (get_or rows i row)) (concat (map bytes (take (i + 1) rows)))
    c.loop-row.out.items c.extend_from_slice.new.self.items c.loop-row.invariant
    (c.in_ok-extend_from_slice.ensures.items ∙ ap (λ (bs : List ℕ). c.loop-row.out.items ++ bs) same) (concat_more bytes rows i row c.loop-row-test.true)

pub returns : goal.returns
returns c =
    let bytes : Vec ℕ Global → List ℕ = λ r. r.items in
    subst (λ (xs : List (Vec ℕ Global)). c.loop-row.out.items ≡ c.args.out.now.items ++ concat (map bytes xs))
    (take_all c.loop-row.row-index c.args.rows.now c.loop-row-test.false) c.loop-row.invariant
