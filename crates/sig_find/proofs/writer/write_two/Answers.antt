use Rattle.std.proofs.Common.{◌++◌, List, ℕ, ap, ◌∙◌, arith}
use Rattle.sig_find.proofs.WrittenLemmas.{spells_two}
use Rattle.sig_find.proofs.writer.write_two.Goals as goal

pub returns : goal.returns
returns c =
    let fits = c.ranges.number.fits in
    c.in_ok-extend_from_slice.ensures.items ∙ ap (λ (bs : List ℕ). c.args.out.now.items ++ bs)
    (c.to_be_bytes.ensures ∙ spells_two c.args.number (omega (arith, fits)))
