use Rattle.sig_scan.proofs.Common.{◌∙◌, ◌+◌, ◌<◌, ◌++◌, ◌∷◌, [], List, ℕ, ap, get_or, length, take, take_more, BufferView}
use Rattle.sig_scan.proofs.buffer.Buffer.with_one_more.Goals as goal

pub returns : goal.returns
returns c =
    let xs : List ℕ = c.self.inside.bytes.items in
    let len = c.self.inside.len in
    let inside : len < length xs = c.self.invariant in (
      get_or xs len 0,
      ap (take (len + 1)) c.deref.ensures.value ∙ take_more xs len 0 inside ∙ ap (λ (w : BufferView). w.bytes ++ get_or xs len 0 ∷ []) c.self.view_is,
    )
