use Rattle.std.proofs.Common.{◌≡◌, ◌∙◌, ◌<◌, List, ℕ, true, false, ap, arith, drop, length, refl, subst, sym, take, vec_len}
use Rattle.sig_bits.specs.Device.{Gives}
use Rattle.sig_match.proofs.ScanLemmas.{false_from_not, fed_all, fed_more, fed_none, written}
use Rattle.sig_match.proofs.stream.scan_input.Goals as goal

pub pieces-init : goal.pieces-init
pieces-init g c = record {
  fed = fed_none _ _ _ c.in_ok-scan.ensures.table c.in_ok-scan.ensures.empty;
  room = c.in_ok-piece.ensures.len;
  failed = refl;
}

pub pieces-preserved : goal.pieces-preserved
pieces-preserved g c =
    let n = c.in-Ok.n in
    let buffer = c.read.new.buf in
    let long : length buffer ≡ c.pieces.piece.len = c.read.auto.buf ∙ c.deref_mut.ensures.len in
    let same : take n c.deref.result.now ≡ take n buffer = ap (λ l. take n l)
    (c.deref.ensures.value ∙ written buffer (drop (length buffer) c.pieces.piece.items) c.pieces.piece.len long) in
    let P : List ℕ → Type 0 = λ l. Gives (g.R.Input.to_come c.pieces.input) l (g.R.Input.to_come c.read.new.self) in
    let sound : g.R.Input.failed c.pieces.input ≡ false = false_from_not _ (λ t. let lie : false ≡ true = c.in-Ok.ensures.stays_failed t in cc) in
    record {
      fed = fed_more _ _ _ _ _ _ (take n c.deref.result.now) c.feed.ensures.table c.feed.ensures.goes_on (subst P (sym same) c.in-Ok.ensures.reads.gives)
          c.pieces.invariant.fed;
      room = c.pieces.invariant.room;
      failed = c.in-Ok.ensures.fails ∙ sym sound ∙ c.pieces.invariant.failed;
    }

pub returns-then-n-eq0-clause-hits : goal.returns-then-n-eq0-clause-hits
returns-then-n-eq0-clause-hits g c =
    let buffer = c.read.new.buf in
    let long : length buffer ≡ vec_len c.pieces.piece = c.read.auto.buf ∙ c.deref_mut.ensures.len in
    let room : vec_len c.pieces.piece ≡ 262144 = c.pieces.invariant.room in
    let some : 0 < length buffer = omega arith in
    fed_all _ _ _ _ _ (take c.in-Ok.n buffer) _ (ap (λ k. take k buffer) c.if-n-eq0.true) c.in-Ok.ensures.reads.gives
    (c.in-Ok.ensures.reads.ends c.if-n-eq0.true some) c.finish.ensures c.pieces.invariant.fed
