-- An end of a bracket while it is read: its first eight bytes, and how many it has.
use Rattle.std.specs.Prelude.{ℕ, ◌+◌, ◌&&◌, nat_lt, nat_le, if◌then◌else◌, List, [], ◌∷◌, slice_set, take, Option, Some, None}
use Rattle.sig_expr.specs.declared.end.End.{End}

abbrev pub empty_end : End
empty_end = record { bytes = 0 ∷ 0 ∷ 0 ∷ 0 ∷ 0 ∷ 0 ∷ 0 ∷ 0 ∷ []; len = 0 }

-- one byte more
unfoldable pub push_of : End → ℕ → End
push_of e b = record {
  bytes = if nat_lt e.len 8 then slice_set e.bytes e.len b else e.bytes;
  len = if nat_lt e.len 8192 then e.len + 1 else e.len;
}

-- the word, where it has one to eight bytes
unfoldable pub word_of : End → Option (List ℕ)
word_of e = if nat_lt 0 e.len && nat_le e.len 8 then Some (take e.len e.bytes) else None

-- what is said of a word, where it is there
abbrev pub with_word : {A : Type 0} → (List ℕ → Option A) → Option (List ℕ) → Option A
with_word f None = None
with_word f (Some a) = f a

-- what is said of two words, where both are there
abbrev pub with_words : {A : Type 0} → (List ℕ → List ℕ → Option A) → Option (List ℕ) → Option (List ℕ) → Option A
with_words f None b = None
with_words f (Some a) b = with_word (f a) b
