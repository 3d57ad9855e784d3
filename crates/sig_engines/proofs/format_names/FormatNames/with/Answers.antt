use Rattle.std.proofs.Common.{◌≡◌, ◌∙◌, ◌++◌, ◌∷◌, [], ℕ, Global, List, None, Vec, ap, sym}
use Rattle.std.specs.Map.{lookup}
use Rattle.std.specs.Prelude.{is_some}
use Rattle.sig_table.proofs.Exports.{puid_eq-is}
use Rattle.sig_table.specs.Puids.{puid_eq}
use Rattle.sig_table.specs.declared.puid.Puid.{Puid}
use Rattle.indexmap.proofs.CallerLemmas.{insert_entry-new}
use Rattle.sig_engines.proofs.FormatNameLemmas.{lookup-values, none_of, some_map, values-more}
use Rattle.sig_engines.proofs.format_names.FormatNames.with.Goals as goal

pub returns : goal.returns
returns c =
    let test = puid_eq c.args.puid in
    let es = c.self.inside.names.entries in
    let name : Vec ℕ Global = c.in_ok-from_slice.field-0 in
    let none : lookup test es ≡ None = none_of (lookup test es) (
    sym (some_map (λ (v : Vec ℕ Global). v.items) (lookup test es)) ∙ ap is_some (lookup-values (λ (v : Vec ℕ Global). v.items) test es)
    ∙ ap (λ (l : List (Puid × List ℕ)). is_some (lookup test l)) c.self.view_is ∙ c.requires
    ) in
    let more : c.insert.new.self.entries ≡ es ++ (c.args.puid, name) ∷ [] =
    (rw puid_eq-is at c.in_ok-insert.ensures.entries) ∙ insert_entry-new puid_eq c.self.inside.names c.args.puid name none in
    values-more (λ (v : Vec ℕ Global). v.items) es c.insert.new.self.entries c.args.puid name more
    ∙ rw c.in_ok-from_slice.ensures.items (ap (λ (l : List (Puid × List ℕ)). l ++ (c.args.puid, c.args.name.now) ∷ []) c.self.view_is)
