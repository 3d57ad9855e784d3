use Rattle.sig_scan.proofs.Common.{ℕ, arith, and_le_l, bit_and, bit_at-lt, bit_at_not, bit_not, w64}
use Rattle.sig_scan.proofs.MarkLemmas.{inside_bit}
use Rattle.sig_scan.proofs.marks.taken.Goals as goal

pub returns-then-class : goal.returns-then-class
returns-then-class c k low =
    let upto : ℕ = c.at_most.result in
    let under : ℕ = c.below.result in
    let inside : ℕ = bit_and upto (bit_not w64 under) in
    grind (
      arith,
      inside_bit upto under k,
      bit_at_not w64 inside k,
      bit_at-lt inside k,
      and_le_l upto (bit_not w64 under),
      c.at_most.ensures k low,
      c.below.ensures k low,
    )

pub returns-else-class : goal.returns-else-class
returns-else-class c k low = grind (arith, inside_bit c.at_most.result c.below.result k, c.at_most.ensures k low, c.below.ensures k low)
