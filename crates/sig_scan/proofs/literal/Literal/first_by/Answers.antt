use Rattle.sig_scan.proofs.Common.{ℕ, ◌+◌, ◌∙◌, arith, length, refl, sym, false≢true, slice_range, LiteralView, byte_of}
use Rattle.sig_scan.proofs.LiesLemmas.{length-slice_range}
use Rattle.sig_scan.proofs.LiteralLemmas.{Nowhere-end, Nowhere-next, Nowhere-passed}
use Rattle.sig_scan.proofs.literal.Literal.first_by.Goals as goal

pub returns-in_err-n : goal.returns-in_err-n
returns-in_err-n c =
    let l : LiteralView = c.args.self.now in
    let bytes = c.args.bytes.now in
    let k = c.args.k in
    let end = c.min-end.result in
    let place = c.places.place in
    let within = c.min-end.ensures in
    let len = length-slice_range bytes (place + k) end (omega arith) (omega arith) in
    rw c.from_residual.ensures
    (Nowhere-end l bytes k c.byte.result c.byte-in-places.result end c.args.from place (length (slice_range bytes (place + k) end)) c.args.last
    c.requires.inside c.byte.ensures c.byte-in-places.ensures c.min-end.ensures (omega arith) c.in_err-n.ensures c.places.invariant.nowhere)

pub returns-then-stands_at : goal.returns-then-stands_at
returns-then-stands_at c =
    let l : LiteralView = c.args.self.now in
    let bytes = c.args.bytes.now in
    let k = c.args.k in
    let end = c.min-end.result in
    let place = c.places.place in
    let n : ℕ = c.in_ok-n.n in
    let within = c.min-end.ensures in
    let len = length-slice_range bytes (place + k) end (omega arith) (omega arith) in
    let high = c.in_ok-n.ensures.0.high in
    let low = c.places.invariant.order in (
      record {
        low = omega arith;
        high = omega arith;
        before = Nowhere-passed l bytes k c.byte.result c.byte-in-places.result end c.args.from place n c.requires.inside c.byte.ensures
            c.byte-in-places.ensures
            c.in_ok-n.ensures.0.before (omega arith) c.places.invariant.nowhere;
      },
      c.stands_at.ensures.0 c.if-stands_at.true,
    )

pub places-preserved : goal.places-preserved
places-preserved c =
    let l : LiteralView = c.args.self.now in
    let bytes = c.args.bytes.now in
    let k = c.args.k in
    let end = c.min-end.result in
    let place = c.places.place in
    let n : ℕ = c.in_ok-n.n in
    let within = c.min-end.ensures in
    let len = length-slice_range bytes (place + k) end (omega arith) (omega arith) in
    let high = c.in_ok-n.ensures.0.high in
    let low = c.places.invariant.order in
    record {
      order = omega arith;
      within = omega arith;
      nowhere = Nowhere-next l bytes c.args.from (place + n) (λ stands. false≢true (sym c.if-stands_at.false ∙ c.stands_at.ensures.1 stands))
          (Nowhere-passed l bytes k c.byte.result c.byte-in-places.result end c.args.from place n c.requires.inside c.byte.ensures c.byte-in-places.ensures
          c.in_ok-n.ensures.0.before (omega arith) c.places.invariant.nowhere);
    }

pub returns : goal.returns
returns c =
    let l : LiteralView = c.args.self.now in
    let bytes = c.args.bytes.now in
    let k = c.args.k in
    let end = c.min-end.result in
    let place = c.places.place in
    Nowhere-end l bytes k (byte_of l k 0) (byte_of l k 1) end c.args.from place 0 c.args.last c.requires.inside refl refl c.min-end.ensures (omega arith)
    (λ x low high passes. absurd (omega arith)) c.places.invariant.nowhere
