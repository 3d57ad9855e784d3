use Rattle.std.proofs.Common.{◌++◌, ◌∷◌, [], List, ℕ, append_assoc, ap, ◌∙◌}
use Rattle.sig_cert.specs.Layouts.{four_bytes}
use Rattle.sig_find.proofs.writer.write_header.Goals as goal

pub returns : goal.returns
returns c =
    c.in_ok-write_four.ensures ∙ ap (λ (xs : List ℕ). xs ++ four_bytes c.args.pairs) c.in_ok-extend_from_slice.ensures.items
    ∙ append_assoc c.args.out.now.items (80 ∷ 83 ∷ 65 ∷ 67 ∷ 2 ∷ []) (four_bytes c.args.pairs)
