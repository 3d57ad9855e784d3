-- Scans that go on byte by byte, and what stands where they end.
use Rattle.std.proofs.Common.{◌≡◌, ◌↔◌, ⊎_elim, ℕ, zero, suc, ◌+◌, ◌<◌, ◌≤◌, List, [], ◌∷◌, ◌++◌, length, get_or, set, take, append_assoc, subst, sym}
use Rattle.std.proofs.Common.{ap, refl, ◌∙◌, arith, Bool, true, false, Option, Some, None}
use Rattle.std.specs.Prelude.{All, IfSome, IsTrue, IsSomeAnd, slice_get}
use Rattle.std.specs.List.{AllZip}
use Rattle.std.proofs.lemmas.Bool.{cases_lt, cases_eq, false≢true}
use Rattle.std.proofs.lemmas.List.{get_or-set_same, get_or-set_other, append-nil, get_or_past, length-set, take-append-le, take_all}
use Rattle.std.proofs.lemmas.List.{take_more}
use Rattle.std.proofs.lemmas.List.Elements.{All-append, All-cons, All-head, All-nil, All-tail}
use Rattle.std.proofs.lemmas.Option.{get_or_from_slice_get, slice_get_within}
use Rattle.sig_auto.specs.Runs.{IsSetOf}
use Rattle.sig_auto.specs.Tracks.{Accepting, Follows}
use Rattle.sig_auto.specs.Trees.{Tree, whole_tree}
use Rattle.sig_auto.specs.TreeSlots.{Takes}
use Rattle.sig_auto.proofs.Exports.{accepts_by_an_end, runs_accept_what_stands, runs_begin, runs_go_on}
use Rattle.sig_bits.specs.BitSets.{HasBit}
use Rattle.sig_bits.specs.Bytes.{IsBytes}
use Rattle.sig_bits.specs.Device.{Gives, IsAtEnd}
use Rattle.sig_table.specs.Standing.{Hits, Stands}
use Rattle.sig_table.specs.Tables.{IsSequence, IsTable}
use Rattle.sig_table.specs.Views.{SequenceView, SignatureView, TableView}
use Rattle.sig_core.specs.FirstHits.{MarksHits}
use Rattle.sig_core.specs.Hits.{HitFormats, HitFormatsOfSome}
use Rattle.sig_core.specs.declared.results.Hit.{Hit}
use Rattle.std.proofs.lemmas.Slice.Zip.{AllZip-long, all_zipped_more}
use Rattle.sig_core.proofs.Exports.{HitsOf-within}
use Rattle.sig_match.specs.Scans.{AreSequenceScansOf, AreSignatureScansOf, IsScanOf, IsSequenceScanOf, ScanView, SequenceScanView}

-- the set of the start alone is that of the empty file
pub set_begins : (tree : Tree) (set : List ℕ) → ((q : ℕ) → HasBit set q ↔ (q ≡ 0)) → IsSetOf tree set []
set_begins tree set start q = (λ bit. (runs_begin tree q).1 ((start q).0 bit), λ ends. (start q).1 ((runs_begin tree q).0 ends))

-- one more byte leads to the set of what follows and takes it
pub set_goes_on : (tree : Tree) (from to file : List ℕ) (b : ℕ) → ((q : ℕ) → HasBit to q ↔ ((p : ℕ) × HasBit from p × Follows tree p q × Takes tree q b))
    → IsSetOf tree from file → IsSetOf tree to (file ++ b ∷ [])
set_goes_on tree from to file b step is q = (
  λ bit. let h = (step q).0 bit in (runs_go_on tree file b q).1 (h.0, (is h.0).0 h.1, h.2, h.3),
  λ ends. let h = (runs_go_on tree file b q).0 ends in (step q).1 (h.0, (is h.0).1 h.1, h.2, h.3),
)

-- some state of the set accepts exactly where the sequence stands
pub set_stands : (s : SequenceView) (set file : List ℕ) (answer : Bool) → IsSequence s → IsBytes file → IsSetOf (whole_tree s) set file
    → (IsTrue answer ↔ ((p : ℕ) × HasBit set p × Accepting (whole_tree s) p)) → IsTrue answer ↔ Stands s file
set_stands s set file answer sequence bytes is accepts =
    let law = runs_accept_what_stands s file sequence bytes in
    let end = accepts_by_an_end (whole_tree s) file in (
      λ t. let h = accepts.0 t in law.0 (end.1 (h.0, (is h.0).0 h.1, h.2)),
      λ stands. let h = end.0 (law.1 stands) in accepts.1 (h.0, (is h.0).1 h.1, h.2),
    )

-- what is written over a whole buffer
pub written : {A : Type 0} (to back : List A) (len : ℕ) → length to ≡ len → take len (to ++ back) ≡ to
written to back len all = take-append-le len to back (omega arith) ∙ take_all len to (omega arith)

-- a scan that is not fed yet
pub feed_begins : (file : List ℕ) (s : SequenceView) (view scan : SequenceScanView) → view ≡ scan → IsSequenceScanOf file s scan
    → IsSequenceScanOf (file ++ []) s view
feed_begins file s view scan same is =
    let P : List ℕ → Type 0 = λ l. IsSequenceScanOf l s view in
    subst P (sym (append-nil file)) (subst (IsSequenceScanOf file s) (sym same) is)

-- a scan that is fed one more byte of the piece
pub feed_goes_on : (file piece : List ℕ) (s auto : SequenceView) (from to : List ℕ) (i : ℕ) → i < length piece
    → ((q : ℕ) → HasBit to q ↔ ((p : ℕ) × HasBit from p × Follows (whole_tree auto) p q × Takes (whole_tree auto) q (get_or piece i 0)))
    → IsSequenceScanOf (file ++ take i piece) s (record { sequence = auto; set = from })
    → IsSequenceScanOf (file ++ take (i + 1) piece) s (record { sequence = auto; set = to })
feed_goes_on file piece s auto from to i within step is =
    let b = get_or piece i 0 in
    let P : SequenceView → Type 0 = λ t. (q : ℕ) → HasBit to q ↔ ((p : ℕ) × HasBit from p × Follows (whole_tree t) p q × Takes (whole_tree t) q b) in
    let more = set_goes_on (whole_tree s) from to (file ++ take i piece) b (subst P is.sequence_is step) is.set_is in
    let longer : (file ++ take i piece) ++ b ∷ [] ≡ file ++ take (i + 1) piece =
    append_assoc file (take i piece) (b ∷ []) ∙ ap (λ l. file ++ l) (sym (take_more piece i 0 within)) in
    let Q : List ℕ → Type 0 = λ l. IsSetOf (whole_tree s) to l in
    record { sequence_is = is.sequence_is; set_is = subst Q longer more }

-- a scan that is asked
pub scan_stands : (file : List ℕ) (s : SequenceView) (view scan : SequenceScanView) (set : List ℕ) (answer : Bool) → view ≡ scan → set ≡ view.set
    → (IsTrue answer ↔ ((p : ℕ) × HasBit set p × Accepting (whole_tree view.sequence) p)) → IsSequence s → IsBytes file → IsSequenceScanOf file s scan
    → IsTrue answer ↔ Stands s file
scan_stands file s view scan set answer same is_set accepts sequence bytes is =
    let at : IsSequenceScanOf file s view = subst (IsSequenceScanOf file s) (sym same) is in
    let P : SequenceView → Type 0 = λ t. IsTrue answer ↔ ((p : ℕ) × HasBit set p × Accepting (whole_tree t) p) in
    let Q : List ℕ → Type 0 = λ l. IsTrue answer ↔ ((p : ℕ) × HasBit l p × Accepting (whole_tree s) p) in
    set_stands s view.set file answer sequence bytes at.set_is (subst Q is_set (subst P at.sequence_is accepts))

-- one more item of two lists, of which the first is gone through
pub zip_more : {A B : Type 0} (R : A → B → Type 0) (xs : List A) (ys : List B) (i : ℕ) (x : A) (y : B) → i < length xs → x ≡ get_or xs i x
    → AllZip R (take i xs) ys → R x y → AllZip R (take (i + 1) xs) (ys ++ y ∷ [])
zip_more R xs ys i x y within is zip r =
    subst (λ l. AllZip R l (ys ++ y ∷ [])) (ap (λ z. take i xs ++ z ∷ []) is ∙ sym (take_more xs i x within)) (all_zipped_more R (take i xs) ys x y zip r)

-- whatever the bytes so far are, the new scan is that behind the piece
abbrev pub FedOne : List ℕ → SequenceScanView → SequenceScanView → Type 0
FedOne piece old new = (file : List ℕ) (s : SequenceView) → IsSequenceScanOf file s old → IsSequenceScanOf (file ++ piece) s new

-- whatever the bytes so far are, the new scans are those behind the piece
abbrev pub Fed : List ℕ → List SequenceScanView → List SequenceScanView → Type 0
Fed piece old new = (file : List ℕ) (sequences : List SequenceView) → AreSequenceScansOf file sequences old → AreSequenceScansOf (file ++ piece) sequences new

-- no scan is fed
pub fed_nil : (piece : List ℕ) (scans : List SequenceScanView) → scans ≡ [] → Fed piece scans scans
fed_nil piece scans none file sequences zip = subst (λ l. AreSequenceScansOf (file ++ piece) sequences l) (sym none)
    (still sequences (subst (λ l. AreSequenceScansOf file sequences l) none zip)) where
      still : (sequences : List SequenceView) → AreSequenceScansOf file sequences [] → AreSequenceScansOf (file ++ piece) sequences []
      still [] zip = tt
      still (s ∷ ss) zip = absurd zip

-- one more scan is fed
pub fed_cons : (piece : List ℕ) (scans : List SequenceScanView) (x y : SequenceScanView) (xs ys : List SequenceScanView) → scans ≡ x ∷ xs → FedOne piece x y
    → Fed piece xs ys → Fed piece scans (y ∷ ys)
fed_cons piece scans x y xs ys is one rest file sequences zip = both sequences (subst (λ l. AreSequenceScansOf file sequences l) is zip) where
  both : (sequences : List SequenceView) → AreSequenceScansOf file sequences (x ∷ xs) → AreSequenceScansOf (file ++ piece) sequences (y ∷ ys)
  both [] zip = absurd zip
  both (s ∷ ss) zip = (one file s zip.0, rest file ss zip.1)

-- the first ones are fed, and the others are as they were
pub record FedBelow (piece : List ℕ) (n : ℕ) (old new : List (List SequenceScanView)) : Type 0 where
  pub len : length new ≡ length old
  pub fed : (k : ℕ) → k < n → Fed piece (get_or old k []) (get_or new k [])
  pub same : (k : ℕ) → n ≤ k → get_or new k [] ≡ get_or old k []

-- none is fed yet
pub FedBelow-none : (piece : List ℕ) (old : List (List SequenceScanView)) → FedBelow piece 0 old old
FedBelow-none piece old = record {
  len = refl;
  fed = λ k below. absurd (omega arith);
  same = λ k above. refl;
}

-- the next one is fed
pub FedBelow-set : (piece : List ℕ) (n : ℕ) (old new : List (List SequenceScanView)) (scan : List SequenceScanView) → n < length old
    → Fed piece (get_or new n []) scan → FedBelow piece n old new → FedBelow piece (n + 1) old (set new n scan)
FedBelow-set piece n old new scan within step before =
    let here : n < length new = let e = before.len in omega arith in
    record {
      len = length-set new n scan ∙ before.len;
      fed = λ k below.
          ⊎_elim
          (λ (same : k ≡ n).
          let P : ℕ → Type 0 = λ j. Fed piece (get_or old j []) (get_or (set new n scan) j []) in
          let Q : List SequenceScanView → Type 0 = λ l. Fed piece l (get_or (set new n scan) n []) in
          let R : List SequenceScanView → Type 0 = λ l. Fed piece (get_or new n []) l in
          subst P (sym same) (subst Q (before.same n (omega arith)) (subst R (sym (get_or-set_same new n scan [] here)) step)))
          (λ other.
          let R : List SequenceScanView → Type 0 = λ l. Fed piece (get_or old k []) l in
          subst R (sym (get_or-set_other new n k scan [] other)) (before.fed k (omega arith)))
          (cases_eq k n);
      same = λ k above. get_or-set_other new n k scan [] (let h = above in omega arith) ∙ before.same k (omega arith);
    }

-- all are fed
pub FedBelow-all : (file piece : List ℕ) (n : ℕ) (signatures : List SignatureView) (old new : List (List SequenceScanView)) → length old ≤ n
    → FedBelow piece n old new → AreSignatureScansOf file signatures old → AreSignatureScansOf (file ++ piece) signatures new
FedBelow-all file piece n signatures old new all fed are = each signatures old new fed.len (λ k within. fed.fed k (omega arith)) are where
  each : (signatures : List SignatureView) (old new : List (List SequenceScanView)) → length new ≡ length old
      → ((k : ℕ) → k < length old → Fed piece (get_or old k []) (get_or new k [])) → AreSignatureScansOf file signatures old
      → AreSignatureScansOf (file ++ piece) signatures new
  each [] [] [] len step are = tt
  each [] [] (y ∷ ys) len step are = absurd (cc)
  each [] (x ∷ xs) ys len step are = absurd are
  each (s ∷ ss) [] ys len step are = absurd are
  each (s ∷ ss) (x ∷ xs) [] len step are = absurd (cc)
  each (s ∷ ss) (x ∷ xs) (y ∷ ys) len step are = (
    step 0 (omega arith) file s.sequences are.0,
    each ss xs ys (cc) (λ k within. step (suc k) (omega arith)) are.1,
  )

-- all scans of a table are fed
pub scan_goes_on : (file piece : List ℕ) (view scan : ScanView) (old new signatures : List (List SequenceScanView)) → view ≡ scan → old ≡ view.signatures
    → signatures ≡ new → IsBytes piece → ((file : List ℕ) (known : List SignatureView) → AreSignatureScansOf file known old
    → AreSignatureScansOf (file ++ piece) known new) → IsScanOf scan file → IsScanOf (record { table = view.table; signatures = signatures }) (file ++ piece)
scan_goes_on file piece view scan old new signatures same old_is new_is bytes fed is =
    let P : ScanView → Type 0 = λ v. IsScanOf v file in
    let at : IsScanOf view file = subst P (sym same) is in
    let Q : List (List SequenceScanView) → Type 0 = λ l. AreSignatureScansOf file view.table.signatures l in
    let R : List (List SequenceScanView) → Type 0 = λ l. AreSignatureScansOf (file ++ piece) view.table.signatures l in
    record {
      bytes = All-append (λ b. b < 256) file piece at.bytes bytes;
      each = subst R (sym new_is) (fed file view.table.signatures (subst Q (sym old_is) at.each));
    }

-- a place of a list has an item
pub item_at : {A : Type 0} (xs : List A) (i : ℕ) → i < length xs → (x : A) × (slice_get xs i ≡ Some x) × (x ≡ get_or xs i x)
item_at [] i within = absurd (omega arith)
item_at (x ∷ xs) zero within = (x, refl, refl)
item_at (x ∷ xs) (suc i) within = item_at xs i (omega arith)

-- one more signature has its scan
pub scans_more : (signatures : List SignatureView) (scans : List (List SequenceScanView)) (i : ℕ) (sequences : List SequenceView) (scan : List SequenceScanView)
    → i < length signatures → ((s : SignatureView) → slice_get signatures i ≡ Some s → sequences ≡ s.sequences)
    → AreSignatureScansOf [] (take i signatures) scans → AreSequenceScansOf [] sequences scan
    → AreSignatureScansOf [] (take (i + 1) signatures) (scans ++ scan ∷ [])
scans_more signatures scans i sequences scan within read before one =
    let at = item_at signatures i within in
    let P : List SequenceView → Type 0 = λ l. AreSequenceScansOf [] l scan in
    zip_more (λ (s : SignatureView). AreSequenceScansOf [] s.sequences) signatures scans i at.0 scan within at.2 before (subst P (read at.0 at.1) one)

-- what a list of the same length has in a place
zip_at : {A B : Type 0} (R : A → B → Type 0) (xs : List A) (ys : List B) (k : ℕ) (d : B) → AllZip R xs ys → k < length ys → (x : A) × (slice_get xs k ≡ Some x)
    × R x (get_or ys k d)
zip_at R [] [] k d zip within = absurd (omega arith)
zip_at R [] (y ∷ ys) k d zip within = absurd zip
zip_at R (x ∷ xs) [] k d zip within = absurd zip
zip_at R (x ∷ xs) (y ∷ ys) zero d zip within = (x, refl, zip.0)
zip_at R (x ∷ xs) (y ∷ ys) (suc k) d zip within = zip_at R xs ys k d zip.1 (omega arith)

-- the mark says whether all sequences stand, whatever the file is
abbrev pub IsMark : List SequenceScanView → Bool → Type 0
IsMark scans mark = (file : List ℕ) (sequences : List SequenceView) → All IsSequence sequences → IsBytes file → AreSequenceScansOf file sequences scans
    → (IsTrue mark ↔ All (λ s. Stands s file) sequences)

-- the mark says whether the sequence stands
abbrev pub IsMarkOfOne : SequenceScanView → Bool → Type 0
IsMarkOfOne scan mark = (file : List ℕ) (s : SequenceView) → IsSequence s → IsBytes file → IsSequenceScanOf file s scan → (IsTrue mark ↔ Stands s file)

-- no sequence is asked for
pub mark_nil : (scans : List SequenceScanView) → scans ≡ [] → IsMark scans true
mark_nil scans none file sequences all bytes zip = asked sequences (subst (λ l. AreSequenceScansOf file sequences l) none zip) where
  asked : (sequences : List SequenceView) → AreSequenceScansOf file sequences [] → IsTrue true ↔ All (λ s. Stands s file) sequences
  asked [] zip = (λ _. All-nil (λ s. Stands s file), λ _. refl)
  asked (s ∷ ss) zip = absurd zip

-- the first sequence stands
pub mark_cons : (scans : List SequenceScanView) (x : SequenceScanView) (xs : List SequenceScanView) (one mark : Bool) → scans ≡ x ∷ xs → IsMarkOfOne x one
    → one ≡ true → IsMark xs mark → IsMark scans mark
mark_cons scans x xs one mark is first stands later file sequences all bytes zip =
    asked sequences all (subst (λ l. AreSequenceScansOf file sequences l) is zip) where
      asked : (sequences : List SequenceView) → All IsSequence sequences → AreSequenceScansOf file sequences (x ∷ xs) → IsTrue mark
          ↔ All (λ s. Stands s file) sequences
      asked [] all zip = absurd zip
      asked (s ∷ ss) all zip =
          let front = first file s (All-head IsSequence s ss all) bytes zip.0 in
          let back = later file ss (All-tail IsSequence s ss all) bytes zip.1 in
          (λ t. All-cons (λ s. Stands s file) s ss (front.0 stands) (back.0 t), λ each. back.1 (All-tail (λ s. Stands s file) s ss each))

-- it does not
pub mark_not : (scans : List SequenceScanView) (x : SequenceScanView) (xs : List SequenceScanView) (one : Bool) → scans ≡ x ∷ xs → IsMarkOfOne x one
    → one ≡ false → IsMark scans one
mark_not scans x xs one is first fails file sequences all bytes zip = asked sequences all (subst (λ l. AreSequenceScansOf file sequences l) is zip) where
  asked : (sequences : List SequenceView) → All IsSequence sequences → AreSequenceScansOf file sequences (x ∷ xs) → IsTrue one
      ↔ All (λ s. Stands s file) sequences
  asked [] all zip = absurd zip
  asked (s ∷ ss) all zip =
      let front = first file s (All-head IsSequence s ss all) bytes zip.0 in
      (λ t. absurd (false≢true (sym fails ∙ t)), λ each. absurd (false≢true (sym fails ∙ front.1 (All-head (λ s. Stands s file) s ss each))))

-- the first signatures are marked
pub record MarkedBelow (n : ℕ) (scans : List (List SequenceScanView)) (marks : List Bool) : Type 0 where
  pub len : length marks ≡ length scans
  pub each : (k : ℕ) → k < n → IsMark (get_or scans k []) (get_or marks k false)

-- none is marked yet
pub MarkedBelow-none : (scans : List (List SequenceScanView)) (marks : List Bool) → length marks ≡ length scans → MarkedBelow 0 scans marks
MarkedBelow-none scans marks len = record { len = len; each = λ k below. absurd (omega arith) }

-- the next one is marked
pub MarkedBelow-set : (n : ℕ) (scans : List (List SequenceScanView)) (marks : List Bool) (mark : Bool) → n < length scans → IsMark (get_or scans n []) mark
    → MarkedBelow n scans marks → MarkedBelow (n + 1) scans (set marks n mark)
MarkedBelow-set n scans marks mark within is before =
    let here : n < length marks = let e = before.len in omega arith in
    record {
      len = length-set marks n mark ∙ before.len;
      each = λ k below.
          ⊎_elim
          (λ (same : k ≡ n).
          let P : ℕ → Type 0 = λ j. IsMark (get_or scans j []) (get_or (set marks n mark) j false) in
          let Q : Bool → Type 0 = λ b. IsMark (get_or scans n []) b in
          subst P (sym same) (subst Q (sym (get_or-set_same marks n mark false here)) is))
          (λ other.
          let Q : Bool → Type 0 = λ b. IsMark (get_or scans k []) b in
          subst Q (sym (get_or-set_other marks n k mark false other)) (before.each k (omega arith)))
          (cases_eq k n);
    }

-- the signature behind a scan of the file, and its sequences
known_at : (table : TableView) (file : List ℕ) (scans : List (List SequenceScanView)) (k : ℕ) → IsTable table → AreSignatureScansOf file table.signatures scans
    → k < length scans → (s : SignatureView) × (slice_get table.signatures k ≡ Some s) × All IsSequence s.sequences
    × AreSequenceScansOf file s.sequences (get_or scans k [])
known_at table file scans k is are within =
    let at = zip_at (λ (s : SignatureView). AreSequenceScansOf file s.sequences) table.signatures scans k [] are within in
    let P : SignatureView → Type 0 = λ s. All IsSequence s.sequences in
    let each = (is.each k at.0 (slice_get_within table.signatures k at.0 at.1)).sequences in
    (at.0, at.1, subst P (get_or_from_slice_get table.signatures k at.0 at.0 at.1) each, at.2)

-- all signatures are marked
pub MarksHits-from_marked : (table : TableView) (file : List ℕ) (n : ℕ) (scans : List (List SequenceScanView)) (marks : List Bool) → length scans ≤ n
    → IsTable table → IsBytes file → AreSignatureScansOf file table.signatures scans → MarkedBelow n scans marks → MarksHits table file marks
MarksHits-from_marked table file n scans marks all is bytes are marked = record {
  sound = λ index mark.
      ⊎_elim
      (λ (within : index < length marks).
      let known = known_at table file scans index is are (omega (arith, marked.len)) in
      let hits = (marked.each index (omega (arith, marked.len)) file known.0.sequences known.2 bytes known.3).0 mark in
      let P : Option SignatureView → Type 0 = λ o. IsSomeAnd o (λ s. Hits s file) in
      subst P (sym known.1) hits)
      (λ past. absurd (false≢true (sym (get_or_past marks index false past) ∙ mark)))
      (cases_lt index (length marks));
  complete = λ index hit. (
      let within : index < length table.signatures = HitsOf-within table file index hit in
      let long = AllZip-long (λ (s : SignatureView). AreSequenceScansOf file s.sequences) table.signatures scans are in
      let known = known_at table file scans index is are (omega arith) in
      let P : Option SignatureView → Type 0 = λ o. IsSomeAnd o (λ s. Hits s file) in
      (marked.each index (omega arith) file known.0.sequences known.2 bytes known.3).1 (subst P known.1 hit)
      );
}

-- what is fed so far is what the input has given
pub record IsFed (scan : ScanView) (table : TableView) (before after : Option (List ℕ)) : Type 0 where
  pub table_is : scan.table ≡ table
  pub file : List ℕ
  pub is_of : IsScanOf scan file
  pub given : Gives before file after

-- nothing is read yet
pub fed_none : (scan : ScanView) (table : TableView) (before : Option (List ℕ)) → scan.table ≡ table → IsScanOf scan [] → IsFed scan table before before
fed_none scan table None is of = record { table_is = is; file = []; is_of = of; given = tt }
fed_none scan table (Some bytes) is of = record { table_is = is; file = []; is_of = of; given = refl }

gives_more : (a b c : Option (List ℕ)) (x y : List ℕ) → Gives a x b → Gives b y c → Gives a (x ++ y) c
gives_more None b c x y h k = tt
gives_more (Some xs) None c x y h k = absurd h
gives_more (Some xs) (Some ys) None x y h k = absurd k
gives_more (Some xs) (Some ys) (Some zs) x y h k = h ∙ ap (λ l. x ++ l) k ∙ sym (append_assoc x y zs)

-- one more piece is read
pub fed_more : (scan new : ScanView) (table : TableView) (before at after : Option (List ℕ)) (piece : List ℕ) → new.table ≡ scan.table
    → ((file : List ℕ) → IsScanOf scan file → IsScanOf new (file ++ piece)) → Gives at piece after → IsFed scan table before at → IsFed new table before after
fed_more scan new table before at after piece same step gives fed = record {
  table_is = same ∙ fed.table_is;
  file = fed.file ++ piece;
  is_of = step fed.file fed.is_of;
  given = gives_more before at after fed.file piece fed.given gives;
}

gives_all : (before after : Option (List ℕ)) (file : List ℕ) → Gives before file after → IsAtEnd after → IfSome before (λ bytes. file ≡ bytes)
gives_all None after file given end = tt
gives_all (Some bytes) None file given end = absurd given
gives_all (Some bytes) (Some rest) file given end = sym (given ∙ ap (λ l. file ++ l) end ∙ append-nil file)

-- a read of no byte
pub fed_all : (scan : ScanView) (table : TableView) (before at after : Option (List ℕ)) (none : List ℕ) (hits : List Hit) → none ≡ [] → Gives at none after
    → IsAtEnd after → ((file : List ℕ) → IsScanOf scan file → HitFormats scan.table file hits) → IsFed scan table before at → HitFormatsOfSome table before hits
fed_all scan table before at after none hits empty gives end finish fed =
    let P : List ℕ → Type 0 = λ l. Gives before l after in
    let Q : TableView → Type 0 = λ t. HitFormats t fed.file hits in
    record {
      file = fed.file;
      bytes = fed.is_of.bytes;
      is_to_come = gives_all before after fed.file (subst P (append-nil fed.file)
          (gives_more before at after fed.file [] fed.given (subst (λ l. Gives at l after) empty gives))) end;
      hit_formats = subst Q fed.table_is (finish fed.file fed.is_of);
    }

-- what is not true is false
pub false_from_not : (b : Bool) → (b ≡ true → ⊥) → b ≡ false
false_from_not true never = absurd (never refl)
false_from_not false never = refl
