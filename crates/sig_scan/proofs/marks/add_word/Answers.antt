use Rattle.sig_scan.proofs.Common.{◌+◌, ◌%◌, ◌∙◌, ap, arith, bit_at}
use Rattle.sig_scan.proofs.MarkLemmas.{HasBit-byte, bit_at-next_byte}
use Rattle.sig_scan.proofs.marks.add_word.Goals as goal

pub loop-k-preserved : goal.loop-k-preserved
loop-k-preserved c = record {
  left = λ j. bit_at-next_byte c.loop-k.left j ∙ c.loop-k.invariant.left (8 + j) ∙ ap (bit_at c.args.word) (omega arith);
  added = λ j. grind (arith, HasBit-byte c.loop-k.set (c.args.at + c.loop-k.k) c.loop-k.left j, c.loop-k.invariant.left (j % 8), c.loop-k.invariant.added j);
}
