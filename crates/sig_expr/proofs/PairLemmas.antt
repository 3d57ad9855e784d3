-- Pairs of hexadecimal digits: the bytes and the ends that they spell.
use Rattle.std.proofs.Common.{◌≡◌, ℕ, ◌/◌, ◌%◌, ◌<◌, ◌≤◌, List, [], ◌∷◌, length, slice_index, Some, refl, arith}
use Rattle.std.proofs.lemmas.Bool.Decides.{nat_tests}
use Rattle.std.proofs.lemmas.List.Elements.{All-nil, All-cons, All-head, All-tail}
use Rattle.hex.specs.Hex.{hex_digit_value, encode_upper, encode_with, upper_digits}
use Rattle.hex.proofs.HexLemmas.{IsDigits-upper_digits}
use Rattle.sig_bits.specs.Bytes.{IsBytes}
use Rattle.sig_expr.specs.Profile.{IsEnd, RangeSound}
use Rattle.sig_expr.specs.Spelling.{PairText, WordText, RangeText, NotText}
use Rattle.sig_expr.specs.Words.{IsBefore}

pub small_digit : (h x : ℕ) → hex_digit_value h ≡ Some x → x < 16
small_digit h x e = grind (arith, nat_tests)

-- what a pair spells is a byte
pub pair_small : (b : ℕ) (t : List ℕ) → PairText b t → b < 256
pair_small b t h =
    let x = small_digit h.high h.high_value h.is_high in
    let y = small_digit h.low h.low_value h.is_low in
    omega (arith, h.byte)

-- a byte is spelled by its pair
pub pair_spells : (b : ℕ) → b < 256 → PairText b (encode_upper (b ∷ []))
unfolding encode_with
pair_spells b h = record {
  high = slice_index upper_digits (b / 16);
  low = slice_index upper_digits (b % 16);
  high_value = b / 16;
  low_value = b % 16;
  text = refl;
  is_high = IsDigits-upper_digits (b / 16) (omega arith);
  is_low = IsDigits-upper_digits (b % 16) (omega arith);
  byte = omega arith;
}

abbrev IsByte : ℕ → Type 0
IsByte b = b < 256

-- what pairs spell is bytes, and bytes are spelled by their pairs
pub word_bytes : (a t : List ℕ) → WordText a t → IsBytes a
word_bytes [] t h = All-nil IsByte
word_bytes (b ∷ a) t h = All-cons IsByte b a (pair_small b h.0 h.3) (word_bytes a h.1 h.4)

pub word_spells : (a : List ℕ) → IsBytes a → WordText a (encode_upper a)
unfolding encode_with
word_spells [] h = refl
word_spells (b ∷ a) h = (encode_upper (b ∷ []), encode_upper a, refl, pair_spells b (All-head IsByte b a h), word_spells a (All-tail IsByte b a h))

-- the ends of a bracket that is spelled are bytes, one at least
pub range_sound : (o a b t : List ℕ) → RangeText o a b t → length a ≡ length b → length a ≤ 8 → IsBefore a b → RangeSound a b
range_sound o a b t h same short order = record {
  first = record { some = h.some_first; short = short; bytes = word_bytes a h.first h.is_first };
  second = record { some = h.some_second; short = omega arith; bytes = word_bytes b h.second h.is_second };
  same_length = same;
  order = order;
}

pub not_sound : (a t : List ℕ) → NotText a t → length a ≤ 8 → IsEnd a
not_sound a t h short = record { some = h.some; short = short; bytes = word_bytes a h.end h.is_end }
