use Rattle.std.proofs.Common.{◌∙◌, sym}
use Rattle.sig_bits.proofs.GroupLemmas.{led_by_zero, zero_leads}
use Rattle.sig_bits.proofs.groups.Groups.one.Goals as goal

pub invariant_of-result : goal.invariant_of-result
invariant_of-result c = (zero_leads, λ b small has a in_a same. absurd (c.none.ensures b has))

pub returns : goal.returns
returns c a b in_a in_b = led_by_zero a ∙ sym (led_by_zero b)
