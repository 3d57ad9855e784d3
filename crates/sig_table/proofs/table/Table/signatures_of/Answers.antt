use Rattle.std.proofs.Common.{◌∙◌, ap, sym, subst}
use Rattle.sig_table.specs.Links.{LinksRise, linked_from}
use Rattle.sig_table.specs.Views.{TableView}
use Rattle.sig_table.proofs.LinkLemmas.{links_told}
use Rattle.sig_table.proofs.table.Table.signatures_of.Goals as goal

pub new-requires : goal.new-requires
new-requires c = subst LinksRise (sym c.nexts.ensures) c.self.invariant.2.rise

pub returns-clause-places : goal.returns-clause-places
returns-clause-places c =
    let t : TableView = record {
      formats = c.self.inside.formats.items;
      signatures = c.self.inside.signatures.items;
      priorities =
          c.self.inside.priorities.keys;
    } in
    c.new.ensures ∙ ap (λ l. linked_from l c.first_of.result) c.nexts.ensures ∙ rw (← c.self.view_is)
    (links_told t c.self.inside.links.firsts.items c.self.inside.links.nexts.items c.args.format.0 c.first_of.result c.self.invariant.0
    c.self.invariant.1 c.self.invariant.2 c.first_of.ensures.known c.first_of.ensures.unknown)
