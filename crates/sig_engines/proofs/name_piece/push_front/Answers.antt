use Rattle.std.proofs.Common.{arith}
use Rattle.sig_engines.proofs.ListedLemmas.{first_splits, nowhere_lacks}
use Rattle.sig_engines.proofs.name_piece.push_front.Goals as goal

pub returns-in_ok-extend_from_slice-in-Some : goal.returns-in_ok-extend_from_slice-in-Some
returns-in_ok-extend_from_slice-in-Some c =
    let found = c.in-Some.ensures in
    let splits = first_splits c.args.end c.args.bytes.now c.in-Some.len found.0.high found.1 (λ i low is. found.0.before i (omega arith) low is) in
    record { front = (found.0.high, c.in_ok-extend_from_slice-in-Some.ensures.items, splits.0, splits.1) }

pub returns-in_ok-extend_from_slice-in-None : goal.returns-in_ok-extend_from_slice-in-None
returns-in_ok-extend_from_slice-in-None c =
    rw c.in-None.is (record {
      front = (
        c.in_ok-extend_from_slice-in-None.ensures.items,
        nowhere_lacks c.args.end c.args.bytes.now (λ i low is. c.in-None.ensures i (omega arith) low is),
      );
    })
