use Rattle.std.proofs.Common.{◌≡◌, ◌++◌, List, ℕ, flat_map, length, map, sym, ap, ◌∙◌}
use Rattle.std.specs.List.{concat}
use Rattle.std.proofs.lemmas.List.{length-map}
use Rattle.sig_cert.specs.Layouts.{four_bytes, two_bytes}
use Rattle.sig_table.specs.declared.ids.SigId.{SigId}
use Rattle.sig_find.proofs.WrittenLemmas.{four_pushed}
use Rattle.sig_find.proofs.writer.write_table.Goals as goal

pub returns : goal.returns
returns c =
    let blockers : List ℕ = map (λ (b : SigId). b.0) c.args.blockers.now in
    let rows : List (List ℕ) = map (λ r. r.items) c.args.rows.now in
    let few : two_bytes (length c.args.blockers.now) ≡ two_bytes (length blockers) = ap two_bytes (sym (length-map c.args.blockers.now (λ (b : SigId). b.0))) in
    let many : four_bytes (length c.args.rows.now) ≡ four_bytes (length rows) = ap four_bytes (sym (length-map c.args.rows.now (λ r. r.items))) in
    four_pushed c.args.out.now.items (two_bytes (length blockers)) (flat_map four_bytes blockers) (four_bytes (length rows)) (concat rows)
    c.write_two.new.out.items c.write_blockers.new.out.items c.write_four.new.out.items c.write_rows.new.out.items
    (c.in_ok-write_two.ensures ∙ ap (λ (bs : List ℕ). c.args.out.now.items ++ bs) few)
    c.in_ok-write_blockers.ensures
    (c.in_ok-write_four.ensures ∙ ap (λ (bs : List ℕ). c.write_blockers.new.out.items ++ bs) many)
    c.in_ok-write_rows.ensures
