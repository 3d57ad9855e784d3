-- What other crates use of the lemmas of this one.
pub use Rattle.sig_bits.proofs.BitLaws.{bits_are_within, HasBit-set, same_bits_are_same_bytes, zeros_have_no_bit}
