-- Records that were written are the records that are read.
use Rattle.std.proofs.Common.{◌≡◌, ℕ, List, [], ◌∷◌, ◌++◌, Some, sym, ap, subst, ◌∙◌, refl}
use Rattle.std.specs.Prelude.{⊤, map}
use Rattle.std.specs.List.{flat_map}
use Rattle.csv.proofs.RoundTrip.{read-write}
use Rattle.csv.specs.Reading.{AreRecords, Reached, default_config, strip_bom}
use Rattle.csv.specs.Writing.{default_writer, fields_text, is_blank, read_back, row_text}
use Rattle.csv.specs.declared.parser.State.TheVariants as st
use Rattle.sig_table.proofs.PlainLemmas.{pairs_csv-rows, signature_csv-rows}
use Rattle.sig_table.proofs.RecordLemmas.{none_left, records_of-from}
use Rattle.sig_table.specs.Canonical.{pair_record, priority_csv, priority_header, priority_records, records_of_signature, sequence_record, signature_csv}
use Rattle.sig_table.specs.Canonical.{signature_header, signature_records}
use Rattle.sig_table.specs.Views.{SequenceView, SignatureView, TableView}
use Rattle.sig_table.specs.Loading.{records_of}
use Rattle.sig_table.specs.declared.puid.Puid.{Puid}

-- each record has a field
abbrev AreSome : List (List (List ℕ)) → Type 0
AreSome [] = ⊤
AreSome (row ∷ rows) = (read_back row ≡ row) × AreSome rows

-- the text of the records
abbrev written : List (List (List ℕ)) → List ℕ
written rows = flat_map (row_text default_writer) rows

-- they are read one after the other
reached : (rows : List (List (List ℕ))) → AreSome rows → Reached default_config st.StartRecord (written rows) rows st.StartRecord []
unfolding Reached
reached [] all = (refl, refl)
reached (row ∷ rows) all = (
  (row, st.StartRecord, written rows),
  read-write row (written rows) ∙ ap (λ (r : List (List ℕ)). Some (r, st.StartRecord, written rows)) all.0,
  refl,
  reached rows all.1,
)

records_of-written : (rows : List (List (List ℕ))) → AreSome rows → strip_bom (written rows) ≡ written rows → records_of (written rows) ≡ rows
records_of-written rows all plain =
    sym (records_of-from (written rows) rows (subst (λ (t : List ℕ). AreRecords default_config st.StartRecord t rows) (sym plain)
    (st.StartRecord, [], reached rows all, none_left default_config)))

AreSome-append : (xs ys : List (List (List ℕ))) → AreSome xs → AreSome ys → AreSome (xs ++ ys)
AreSome-append [] ys all more = more
AreSome-append (x ∷ xs) ys all more = (all.0, AreSome-append xs ys all.1 more)

some_of_signature : (name : List ℕ) (number : ℕ) (sequences : List SequenceView) → AreSome (map (sequence_record name number) sequences)
some_of_signature name number [] = tt
some_of_signature name number (s ∷ later) = (refl, some_of_signature name number later)

some_of_signatures : (formats : List Puid) (signatures : List SignatureView) → AreSome (flat_map (records_of_signature formats) signatures)
some_of_signatures formats [] = tt
some_of_signatures formats (s ∷ later) = AreSome-append (records_of_signature formats s) (flat_map (records_of_signature formats) later)
    (some_of_signature _ s.number s.sequences) (some_of_signatures formats later)

some_of_pairs : (formats : List Puid) (pairs : List (ℕ × ℕ)) → AreSome (map (pair_record formats) pairs)
some_of_pairs formats [] = tt
some_of_pairs formats (pair ∷ later) = (refl, some_of_pairs formats later)

-- the header's first byte is no byte order mark
plain-signatures : (rows : List (List (List ℕ))) → strip_bom (written (signature_header ∷ rows)) ≡ written (signature_header ∷ rows)
unfolding strip_bom fields_text is_blank
plain-signatures rows = refl

plain-priorities : (rows : List (List (List ℕ))) → strip_bom (written (priority_header ∷ rows)) ≡ written (priority_header ∷ rows)
unfolding strip_bom fields_text is_blank
plain-priorities rows = refl

-- what is read of the canonical files
pub records_of-signature_csv : (t : TableView) → records_of (signature_csv t) ≡ signature_records t
records_of-signature_csv t =
    ap records_of (signature_csv-rows t) ∙ records_of-written (signature_records t) (refl, some_of_signatures t.formats t.signatures)
    (plain-signatures (flat_map (records_of_signature t.formats) t.signatures))

pub records_of-priority_csv : (t : TableView) → records_of (priority_csv t) ≡ priority_records t
records_of-priority_csv t =
    ap records_of (pairs_csv-rows t.formats t.priorities) ∙ records_of-written (priority_records t) (refl, some_of_pairs t.formats t.priorities)
    (plain-priorities (map (pair_record t.formats) t.priorities))
