use Rattle.sig_scan.proofs.Common.{◌≡◌, ◌∙◌, ◌-◌, ◌≤◌, ℕ, List, ap, ap₂, drop, length, take, arith, drop-take, length-drop, length-take-le, length-paste}
use Rattle.sig_scan.proofs.Common.{take-paste, copy_within, BufferView}
use Rattle.sig_scan.proofs.buffer.Buffer.take_off.Goals as goal

-- what is left of the bytes, moved to the front, and the room stays
moved : (xs ys : List ℕ) (count len : ℕ) → count ≤ len → len ≤ length xs → ys ≡ copy_within xs count len 0
    → (length ys ≡ length xs) × (take (len - count) ys ≡ drop count (take len xs))
moved xs ys count len few within is =
    grind (
      arith,
      length-drop count xs,
      take-paste xs 0 (drop count xs) (len - count),
      length-paste xs 0 (drop count xs) (len - count),
      drop-take count (len - count) xs,
    )

pub returns : goal.returns
returns c =
    let xs = c.self.inside.bytes.items in
    let ys = c.copy_within.new.self.items in
    let count = c.args.count in
    let len = c.self.inside.len in
    let View : ℕ → List ℕ → BufferView = λ room bytes. record { room = room - 1; bytes = bytes } in
    let size : length (take len xs) ≡ length c.args.self.now.bytes = ap (λ (w : BufferView). length w.bytes) c.self.view_is in
    let before : len ≤ length xs = let inside = c.self.invariant in omega arith in
    let taken = length-take-le len xs before in
    let few : count ≤ len = omega arith in
    let now = moved xs ys count len few before c.copy_within.ensures.items in
    ap₂ View now.0 now.1 ∙ ap (λ (w : BufferView). record { room = w.room; bytes = drop count w.bytes }) c.self.view_is
