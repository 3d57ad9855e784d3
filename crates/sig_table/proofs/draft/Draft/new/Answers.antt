use Rattle.std.proofs.Common.{List, map, sym, ap, ◌∙◌}
use Rattle.sig_table.proofs.LimitLemmas.{IsWhole-none}
use Rattle.sig_table.specs.Views.{SignatureView}
use Rattle.sig_table.proofs.draft.Draft.new.Goals as goal

pub invariant_of-result : goal.invariant_of-result
invariant_of-result c =
    let whole = IsWhole-none c.new.result.keys c.new-3.result.items c.new.ensures.empty c.new-3.ensures.items in
    record {
      table = whole.limits;
      has_all = whole.has_all;
      numbers = c.new-2.ensures.empty ∙ sym (ap (λ (l : List SignatureView). map (λ s. s.number) l) c.new-3.ensures.items);
    }
