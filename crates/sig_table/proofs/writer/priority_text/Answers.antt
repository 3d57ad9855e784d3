use Rattle.std.proofs.Common.{◌≡◌, ℕ, ◌+◌, ◌<◌, ◌≤◌, List, [], ◌++◌, append-nil, append_assoc, get_or, length, map, take, ap, sym, ◌∙◌, arith}
use Rattle.std.proofs.lemmas.Grind.{flat_map-append}
use Rattle.std.proofs.lemmas.List.{map-append, take_all, take_more}
use Rattle.std.specs.List.{flat_map}
use Rattle.csv.specs.Writing.{default_writer, row_text}
use Rattle.sig_table.specs.Canonical.{pair_record, pairs_csv, priority_header}
use Rattle.sig_table.specs.declared.puid.Puid.{Puid}
use Rattle.sig_table.proofs.PlainLemmas.{pairs_csv-rows}
use Rattle.sig_table.proofs.writer.priority_text.Goals as goal

-- one pair more
one_more : (formats : List Puid) (pairs : List (ℕ × ℕ)) (i : ℕ) (d : ℕ × ℕ) (first : List ℕ) → i < length pairs
    → first ++ flat_map (row_text default_writer) (map (pair_record formats) (take (i + 1) pairs))
    ≡ (first ++ flat_map (row_text default_writer) (map (pair_record formats) (take i pairs))) ++ row_text default_writer
    (pair_record formats (get_or pairs i d))
one_more formats pairs i d first within =
    let rows : List (List ℕ) → List ℕ = row_text default_writer in
    rw (take_more pairs i d within, map-append, flat_map-append) (
    ap (λ last. first ++ (flat_map rows (map (pair_record formats) (take i pairs)) ++ last)) (append-nil (rows (pair_record formats (get_or pairs i d))))
    ∙ sym (append_assoc first (flat_map rows (map (pair_record formats) (take i pairs))) (rows (pair_record formats (get_or pairs i d)))))

grows : (formats : List Puid) (pairs : List (ℕ × ℕ)) (i : ℕ) (d : ℕ × ℕ) (row : List (List ℕ)) (first lines more : List ℕ) → i < length pairs
    → row ≡ pair_record formats (get_or pairs i d) → more ≡ lines ++ row_text default_writer row
    → lines ≡ first ++ flat_map (row_text default_writer) (map (pair_record formats) (take i pairs))
    → more ≡ first ++ flat_map (row_text default_writer) (map (pair_record formats) (take (i + 1) pairs))
grows formats pairs i d row first lines more within is adds goes = adds ∙ rw (is, goes) (sym (one_more formats pairs i d first within))

whole : (formats : List Puid) (pairs : List (ℕ × ℕ)) (i : ℕ) (header : List (List ℕ)) (start first lines : List ℕ) → length pairs ≤ i → start ≡ []
    → header ≡ priority_header → first ≡ start ++ row_text default_writer header
    → lines ≡ first ++ flat_map (row_text default_writer) (map (pair_record formats) (take i pairs)) → lines ≡ pairs_csv formats pairs
whole formats pairs i header start first lines end empty is begins goes =
    goes ∙ rw (begins, empty, is, take_all i pairs end) (sym (pairs_csv-rows formats pairs))

pub loop-pair-preserved : goal.loop-pair-preserved
loop-pair-preserved c =
    grows _ _ c.loop-pair.pair-index c.pair-item.result _ _ _ _ c.loop-pair-test.true
    (c.in_ok-pair_record.ensures ∙ ap (pair_record c.args.formats.now) c.pair-item.is) c.in_ok-lines-2.ensures c.loop-pair.invariant

pub returns : goal.returns
returns c =
    let all : c.loop-pair.lines ≡ pairs_csv c.args.formats.now c.args.pairs.now =
    whole _ _ c.loop-pair.pair-index _ _ _ c.loop-pair.lines (omega arith) c.in_ok-start.ensures c.in_ok-header.ensures.fields c.in_ok-lines.ensures
    c.loop-pair.invariant in
    rw (← all) c.into_text.ensures
