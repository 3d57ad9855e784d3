use Rattle.std.proofs.Common.{◌≡◌, ◌∙◌, sym, false}
use Rattle.std.specs.List.{list_any}
use Rattle.indexmap.specs.IndexSet.{insert_key}
use Rattle.sig_table.proofs.Exports.{puid_eq-is}
use Rattle.sig_table.specs.Puids.{puid_eq}
use Rattle.sig_lint.proofs.NameLemmas.{insert-beyond}
use Rattle.sig_lint.proofs.names.Names.with.Goals as goal

pub returns : goal.returns
returns c =
    let known = c.self.inside.known.keys in
    let beyond = c.self.inside.beyond.keys in
    let new : list_any (puid_eq c.args.puid) known ≡ false = rw puid_eq-is at (sym c.contains.ensures ∙ c.if-contains.false) in
    let keys : c.insert-2.new.self.keys ≡ insert_key puid_eq beyond c.args.puid = rw puid_eq-is at c.in_ok-insert-2.ensures.keys in
    rw (← c.self.view_is, keys) (insert-beyond puid_eq known beyond c.args.puid new)
