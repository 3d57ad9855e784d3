-- Lists of bytes: the empty one, one behind a byte, and two joined.
use Rattle.sig_auto.proofs.Common.{ℕ, ◌<◌, List, [], ◌∷◌, ◌++◌, All-nil, All-cons, All-head, All-tail, All-append, IsBytes}

abbrev IsByte : ℕ → Type 0
IsByte b = b < 256

pub IsBytes-nil : IsBytes []
IsBytes-nil = All-nil IsByte

pub IsBytes-cons : (b : ℕ) (w : List ℕ) → b < 256 → IsBytes w → IsBytes (b ∷ w)
IsBytes-cons b w h k = All-cons IsByte b w h k

pub IsBytes-head : (b : ℕ) (w : List ℕ) → IsBytes (b ∷ w) → b < 256
IsBytes-head b w h = All-head IsByte b w h

pub IsBytes-tail : (b : ℕ) (w : List ℕ) → IsBytes (b ∷ w) → IsBytes w
IsBytes-tail b w h = All-tail IsByte b w h

pub IsBytes-append : (u v : List ℕ) → IsBytes u → IsBytes v → IsBytes (u ++ v)
IsBytes-append u v h k = All-append IsByte u v h k

pub IsBytes-left : (u v : List ℕ) → IsBytes (u ++ v) → IsBytes u
IsBytes-left [] v h = IsBytes-nil
IsBytes-left (b ∷ u) v h = IsBytes-cons b u (IsBytes-head b (u ++ v) h) (IsBytes-left u v (IsBytes-tail b (u ++ v) h))

pub IsBytes-right : (u v : List ℕ) → IsBytes (u ++ v) → IsBytes v
IsBytes-right [] v h = h
IsBytes-right (b ∷ u) v h = IsBytes-right u v (IsBytes-tail b (u ++ v) h)
