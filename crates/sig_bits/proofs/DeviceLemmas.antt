-- What a device gives and takes, piece after piece.
use Rattle.std.proofs.Common.{◌≡◌, ℕ, ◌+◌, ◌≤◌, List, ◌++◌, take, drop, length, Option, Some, None, sym, ap, ◌∙◌, append_assoc, take-add}
use Rattle.std.proofs.lemmas.List.{take-take, take-append-le}
use Rattle.std.proofs.Math.Seq.{take-append-add}
use Rattle.std.specs.Io.KnownBytes.{Appends}
use Rattle.sig_bits.specs.Device.{Adds, Gives}

-- a piece after a front is a longer front
pub Adds-more : (a b c : Option (List ℕ)) (bytes : List ℕ) (done n : ℕ) → Adds a (take done bytes) b → Appends b c (take n (drop done bytes))
    → Adds a (take (done + n) bytes) c
Adds-more None b c bytes done n h k = tt
Adds-more (Some xs) None c bytes done n h k = absurd h
Adds-more (Some xs) (Some ys) None bytes done n h k = absurd k
Adds-more (Some xs) (Some ys) (Some zs) bytes done n h k =
    k ∙ ap (λ l. l ++ take n (drop done bytes)) h ∙ append_assoc xs (take done bytes) (take n (drop done bytes)) ∙ ap (λ l. xs ++ l)
    (sym (take-add done n bytes))

-- the same of what an input gives
pub Gives-more : (a b c : Option (List ℕ)) (x y : List ℕ) → Gives a x b → Gives b y c → Gives a (x ++ y) c
Gives-more None b c x y h k = tt
Gives-more (Some xs) None c x y h k = absurd h
Gives-more (Some xs) (Some ys) None x y h k = absurd k
Gives-more (Some xs) (Some ys) (Some zs) x y h k = h ∙ ap (λ l. x ++ l) k ∙ sym (append_assoc x y zs)

-- the filled front of a buffer, and what was read behind it
pub take-read : (filled n len : ℕ) (x b p r : List ℕ) → length x ≡ filled → n ≤ length b → filled + n ≤ len
    → take (filled + n) (take len ((x ++ (b ++ p)) ++ r)) ≡ x ++ take n b
take-read filled n len x b p r at room within =
    take-take (filled + n) len ((x ++ (b ++ p)) ++ r) within
    ∙ rw (← at, append_assoc x (b ++ p) r, append_assoc b p r) (take-append-add x (b ++ (p ++ r)) n ∙ ap (λ l. x ++ l) (take-append-le n b (p ++ r) room))
