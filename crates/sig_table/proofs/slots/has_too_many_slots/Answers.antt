use Rattle.std.proofs.Common.{ap, min, ◌∙◌}
use Rattle.sig_table.specs.Slots.{slot_count}
use Rattle.sig_table.proofs.SlotLemmas.{too_many-counted}
use Rattle.sig_table.proofs.slots.has_too_many_slots.Goals as goal

pub returns : goal.returns
returns c =
    too_many-counted (slot_count c.args.sequence.now) c.count_slots.result
    (c.count_slots.ensures ∙ ap (λ items. min (slot_count (record { position = c.sequence.inside.position; items = items })) 65536) c.items.ensures.items ∙ ap
    (λ s. min (slot_count s) 65536) c.sequence.view_is)
