use Rattle.std.proofs.Common.{◌≡◌, ℕ, ◌≤◌, List, [], ◌++◌, length, take, ap, sym, ◌∙◌, arith}
use Rattle.std.proofs.lemmas.List.{take_all}
use Rattle.std.specs.List.{flat_map}
use Rattle.csv.specs.Writing.{default_writer, row_text}
use Rattle.sig_table.specs.Canonical.{records_of_signature, signature_csv, signature_header}
use Rattle.sig_table.specs.Views.{TableView}
use Rattle.sig_table.proofs.PlainLemmas.{signature_csv-rows}
use Rattle.sig_table.proofs.writer.signature_text.Goals as goal

whole : (t : TableView) (i : ℕ) (header : List (List ℕ)) (start first lines : List ℕ) → length t.signatures ≤ i → start ≡ [] → header ≡ signature_header
    → first ≡ start ++ row_text default_writer header
    → lines ≡ first ++ flat_map (row_text default_writer) (flat_map (records_of_signature t.formats) (take i t.signatures)) → lines ≡ signature_csv t
whole t i header start first lines end empty is begins goes =
    goes ∙ rw (begins, empty, is, take_all i t.signatures end) (sym (signature_csv-rows t))

pub returns : goal.returns
returns c =
    let all : c.loop-signature.lines ≡ signature_csv c.args.table.now =
    whole c.args.table.now c.loop-signature.signature-index _ _ _ c.loop-signature.lines (omega (arith, ap length c.signatures-signature-items.ensures))
    c.in_ok-start.ensures c.in_ok-signature_header.ensures c.in_ok-lines.ensures c.loop-signature.invariant in
    rw (← all) c.into_text.ensures
