-- Records that are written are the records that are read.
use Rattle.std.proofs.Common.{◌≡◌, ◌++◌, ◌∷◌, [], ℕ, List, None, Option, append_assoc, codes, refl, subst, sym, true}
use Rattle.std.specs.Borrow.{Bor}
use Rattle.std.specs.Prelude.{flat_map, map}
use Rattle.csv.proofs.RoundTrip.{read-write-many}
use Rattle.csv.specs.Machine.{next_record}
use Rattle.csv.specs.Reading.{AreRecords, Reached, default_config, strip_bom}
use Rattle.csv.specs.Writing.{default_writer, fields_text, is_blank, row_text}
use Rattle.csv.specs.declared.parser.State.TheVariants as st
use Rattle.sig_core.specs.declared.results.Hit.{Hit}
use Rattle.sig_engines.specs.FileTexts.{file_text, head_record, head_text, hit_record, name_text, records_of_file}
use Rattle.sig_engines.specs.FormatNames.{NameList}
use Rattle.sig_engines.specs.Texts.{format_text, signature_text}
use Rattle.sig_table.specs.Views.{TableView}

-- a record is read, and then those behind it
first : (x y : List ℕ) (ys : List (List ℕ)) (text : List ℕ) (rows : List (List (List ℕ))) → Reached default_config st.StartRecord text rows st.StartRecord []
    → Reached default_config st.StartRecord (row_text default_writer (x ∷ y ∷ ys) ++ text) ((x ∷ y ∷ ys) ∷ rows) st.StartRecord []
unfolding Reached
first x y ys text rows later = ((x ∷ y ∷ ys, st.StartRecord, text), read-write-many x y ys text, refl, later)

-- the records of the hits of a file
of_hits : (names : Option (Bor NameList)) (name : List ℕ) (table : TableView) (hits : List Hit) (text : List ℕ) (rows : List (List (List ℕ)))
    → Reached default_config st.StartRecord text rows st.StartRecord []
    → Reached default_config st.StartRecord (flat_map (λ h. row_text default_writer (hit_record names name table h)) hits ++ text)
    (map (hit_record names name table) hits ++ rows) st.StartRecord []
of_hits names name table [] text rows later = later
of_hits names name table (hit ∷ hits) text rows later =
    let others = flat_map (λ (h : Hit). row_text default_writer (hit_record names name table h)) hits in
    subst (λ t. Reached default_config st.StartRecord t (map (hit_record names name table) (hit ∷ hits) ++ rows) st.StartRecord [])
    (sym (append_assoc (row_text default_writer (hit_record names name table hit)) others text))
    (first name (format_text table hit.format.0) (signature_text table hit.signature.0 ∷ name_text names table hit.format.0 ∷ []) (others ++ text)
    (map (hit_record names name table) hits ++ rows) (of_hits names name table hits text rows later))

-- those of a file
of_file : (names : Option (Bor NameList)) (name : List ℕ) (table : TableView) (hits : List Hit) (text : List ℕ) (rows : List (List (List ℕ)))
    → Reached default_config st.StartRecord text rows st.StartRecord []
    → Reached default_config st.StartRecord (file_text true names name table hits ++ text) (records_of_file names name table hits ++ rows) st.StartRecord []
of_file names name table [] text rows later = first name [] ([] ∷ [] ∷ []) text rows later
of_file names name table (hit ∷ hits) text rows later = of_hits names name table (hit ∷ hits) text rows later

-- those of files
of_files : (names : Option (Bor NameList)) (table : TableView) (files : List (List ℕ × List Hit))
    → Reached default_config st.StartRecord (flat_map (λ f. file_text true names f.0 table f.1) files)
    (flat_map (λ f. records_of_file names f.0 table f.1) files) st.StartRecord []
unfolding Reached
of_files names table [] = (refl, refl)
of_files names table (f ∷ files) = of_file names f.0 table f.1 _ _ (of_files names table files)

-- the names of the fields are no byte order mark
no_mark : (text : List ℕ) → strip_bom (head_text true ++ text) ≡ row_text default_writer head_record ++ text
unfolding strip_bom fields_text is_blank
no_mark text = refl

none_left : next_record default_config st.StartRecord [] [] [] ≡ None
unfolding next_record
none_left = refl

pub read_back : (names : Option (Bor NameList)) (table : TableView) (files : List (List ℕ × List Hit))
    → AreRecords default_config st.StartRecord (strip_bom (head_text true ++ flat_map (λ f. file_text true names f.0 table f.1) files))
    (head_record ∷ flat_map (λ f. records_of_file names f.0 table f.1) files)
read_back names table files =
    let text = flat_map (λ (f : List ℕ × List Hit). file_text true names f.0 table f.1) files in
    let rows = flat_map (λ (f : List ℕ × List Hit). records_of_file names f.0 table f.1) files in (
      st.StartRecord,
      [],
      subst (λ t. Reached default_config st.StartRecord t (head_record ∷ rows) st.StartRecord []) (sym (no_mark text))
          (first (codes "file") (codes "puid") (codes "signature" ∷ codes "name" ∷ []) text rows (of_files names table files)),
      none_left,
    )
