use borrow.Rule.Slice.PartMut.{put_mid, same_len_mid}
use Rattle.sig_scan.proofs.Common.{◌≡◌, ◌∙◌, ◌+◌, ◌-◌, ◌<◌, ◌≤◌, ◌++◌, List, ℕ, ap, ap₂, arith, length, sym, take, with_items_is, All-take, BufferView}
use Rattle.sig_scan.proofs.ReadLemmas.{filled_more}
use Rattle.sig_scan.proofs.buffer.Buffer.fill.Goals as goal

pub returns-clause-filled : goal.returns-clause-filled
returns-clause-filled g c =
    let len = c.self.inside.len in
    let xs : List ℕ = c.self.inside.bytes.items in
    let now : List ℕ = c.deref_mut.result.now in
    let k : ℕ = c.room-end.result - len in
    let come : List ℕ = c.read_up_to.new.room in
    let n = c.in_ok-self-inside.field-0 in
    let put : List ℕ = put_mid len k now come in
    let was : now ≡ xs = c.deref_mut.ensures.value in
    let size : length now ≡ length xs = ap length was in
    let inside : len < length xs = c.self.invariant in
    let long : length put ≡ length now = same_len_mid len k now come c.read_up_to.auto.room in
    let within : n ≤ length come = c.in_ok-self-inside.ensures.within in
    let items = with_items_is c.self.inside.bytes put (long ∙ size ∙ sym c.self.inside.bytes.ok.0) in
    let View : ℕ → List ℕ → BufferView = λ room bytes. record { room = room - 1; bytes = bytes } in
    let room = ap length items ∙ long ∙ size in
    let front = filled_more len n k now come (omega arith) within in
    record {
      piece = take n come;
      bytes = All-take (λ b. b < 256) n come c.read_up_to.ensures.bytes;
      given = c.in_ok-self-inside.ensures.gives;
      added = ap₂ View room (ap (take (len + n)) items ∙ front ∙ ap (λ (l : List ℕ). take len l ++ take n come) was)
          ∙ ap (λ (w : BufferView). record { room = w.room; bytes = w.bytes ++ take n come }) c.self.view_is;
    }
