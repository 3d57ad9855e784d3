-- An end that is read byte by byte holds its word.
use Rattle.std.proofs.Common.{◌≡◌, ℕ, ◌+◌, ◌<◌, ◌≤◌, min, Bool, true, false, cond, List, [], ◌∷◌, ◌++◌, length, take, Some, refl, sym, ◌∙◌, ap, arith, nat_le}
use Rattle.std.proofs.Common.{nat_lt, slice_set, append_assoc, append-nil, add-one}
use Rattle.std.proofs.Math.Seq.{take-suc-set}
use Rattle.std.proofs.Math.ListN.{length-set}
use Rattle.std.proofs.lemmas.Bool.Decides.{nat_tests}
use Rattle.sig_expr.specs.declared.end.End.{End}
use Rattle.sig_expr.specs.Ends.{empty_end, push_of, word_of}
use Rattle.sig_expr.proofs.Scans.{end_after, end_of_word}

push_len : (e : End) (b : ℕ) → e.len ≤ 8192 → (push_of e b).len ≡ min (e.len + 1) 8192
unfolding push_of
push_len e b h = grind (arith, nat_tests)

len_after : (e : End) (a : List ℕ) → e.len ≤ 8192 → (end_after e a).len ≡ min (e.len + length a) 8192
len_after e [] h = omega arith
len_after e (b ∷ bs) h =
    let pushed = push_len e b h in
    let later = len_after (push_of e b) bs (omega arith) in
    omega arith

-- an end counts its bytes, up to 8,192
pub len_of_word : (a : List ℕ) → (end_of_word a).len ≡ min (length a) 8192
len_of_word a = let n = len_after empty_end a (omega arith) in omega arith

push_bytes : (e : End) (b : ℕ) → length e.bytes ≡ 8 → e.len < 8 → take (push_of e b).len (push_of e b).bytes ≡ take e.len e.bytes ++ b ∷ []
unfolding push_of
push_bytes e b room h =
    let near : nat_lt e.len 8 ≡ true = grind (arith, nat_tests) in
    let far : nat_lt e.len 8192 ≡ true = grind (arith, nat_tests) in
    rw (near, far, add-one) (take-suc-set e.bytes e.len b (omega arith))

either_room : (x : Bool) (xs ys : List ℕ) → length xs ≡ 8 → length ys ≡ 8 → length (cond x xs ys) ≡ 8
either_room true xs ys hx hy = hx
either_room false xs ys hx hy = hy

push_room : (e : End) (b : ℕ) → length e.bytes ≡ 8 → length (push_of e b).bytes ≡ 8
unfolding push_of
push_room e b room = either_room (nat_lt e.len 8) (slice_set e.bytes e.len b) e.bytes (length-set e.bytes e.len b ∙ room) room

push_counts : (e : End) (b : ℕ) → e.len < 8 → (push_of e b).len ≡ e.len + 1
unfolding push_of
push_counts e b h = let far : nat_lt e.len 8192 ≡ true = grind (arith, nat_tests) in rw far refl

bytes_after : (e : End) (a : List ℕ) → length e.bytes ≡ 8 → e.len + length a ≤ 8 → take (end_after e a).len (end_after e a).bytes ≡ take e.len e.bytes ++ a
bytes_after e [] room h = sym (append-nil _)
bytes_after e (b ∷ bs) room h =
    let counted = push_counts e b (omega arith) in
    bytes_after (push_of e b) bs (push_room e b room) (omega arith) ∙ ap (λ (x : List ℕ). x ++ bs) (push_bytes e b room (omega arith)) ∙ append_assoc
    (take e.len e.bytes) (b ∷ []) bs

-- an end of one to eight bytes holds them
pub word_of_end : (a : List ℕ) → 0 < length a → length a ≤ 8 → word_of (end_of_word a) ≡ Some a
unfolding word_of
word_of_end a some short =
    let n = len_of_word a in
    let low : nat_lt 0 (end_of_word a).len ≡ true = grind (arith, nat_tests) in
    let high : nat_le (end_of_word a).len 8 ≡ true = grind (arith, nat_tests) in
    rw (low, high) (ap (λ (x : List ℕ). Some x) (bytes_after empty_end a refl (omega arith)))
