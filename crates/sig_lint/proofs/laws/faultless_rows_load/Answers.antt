use Rattle.std.proofs.Common.{◌==◌, not, nat_le, nat_lt, length, inl, inr}
use Rattle.std.specs.List.{position_or_len}
use Rattle.sig_table.specs.declared.error.TableError.TheVariants as error
use Rattle.sig_table.specs.Loading.{empty_table, fault_in, is_full, signature_in, signatures_of, with_record, with_row}
use Rattle.sig_table.specs.Puids.{puid_eq}
use Rattle.sig_table.specs.Rows.{row_of}
use Rattle.sig_table.specs.Slots.{slot_count}
use Rattle.sig_lint.proofs.AgainLemmas.{again, judged-faultless, there_or_not, three_tests, two_tests}
use Rattle.sig_lint.proofs.laws.faultless_rows_load.Goals as goal

pub returns : goal.returns
unfolding with_record signatures_of fault_in
returns c header rows is =
    let spelled = c.rows_are_spelled.ensures in
    rw is (judged-faultless with_record
    (λ n m t more fields h. again (λ k. row_of k fields) (λ k row. fault_in t k row) (λ row. with_row t row)
    (λ a b row read. (spelled b fields row).1 ((spelled a fields row).0 read))
    (λ a b row fine. elim (there_or_not (signature_in t.signatures row.number)) [
      | inl new ↦ rw new (two_tests (nat_lt 65535 (slot_count row.sequence)) (is_full t row.puid) (error.TooManySlots a) (error.TooManyFormats a)
          (error.TooManySlots b) (error.TooManyFormats b) (rw new at fine))
      | inr old ↦ rw old.1 (three_tests (not (position_or_len (puid_eq row.puid) t.formats == old.0.format)) (nat_le 8 (length old.0.sequences))
          (nat_lt 65535 (slot_count row.sequence))
          (error.SignatureOfTwo a) (error.TooManySequences a) (error.TooManySlots a) (error.SignatureOfTwo b) (error.TooManySequences b) (error.TooManySlots b)
          (rw old.1 at fine))
    ])
    n m more h)
    rows 1 1 empty_table)
