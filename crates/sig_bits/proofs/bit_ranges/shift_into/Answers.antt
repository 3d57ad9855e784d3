use Rattle.std.proofs.Common.{◌+◌, ◌-◌, ◌*◌, ◌/◌, arith}
use Rattle.sig_bits.proofs.RangeLemmas.{shifted_thrice}
use Rattle.sig_bits.proofs.bit_ranges.shift_into.Goals as goal

pub returns : goal.returns
returns c =
    shifted_thrice c.args.dst.now c.shift_bits-2.new.dst c.shift_bytes.new.dst c.shift_bits-3.new.dst c.args.src.now c.args.from (8 * (c.args.from / 8 + 1) - 1)
    (8 * (c.args.to / 8) - 1) c.args.to
    (omega arith) (omega arith) (omega arith) c.shift_bits-2.ensures c.shift_bytes.ensures c.shift_bits-3.ensures
