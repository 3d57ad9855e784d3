use Rattle.std.proofs.Common.{◌∙◌, ℕ, Global, List, Vec, ap, sym}
use Rattle.std.specs.Map.{lookup}
use Rattle.std.specs.Prelude.{is_some}
use Rattle.sig_table.proofs.Exports.{puid_eq-is}
use Rattle.sig_table.specs.Puids.{puid_eq}
use Rattle.sig_table.specs.declared.puid.Puid.{Puid}
use Rattle.sig_engines.proofs.FormatNameLemmas.{lookup-values, some_map}
use Rattle.sig_engines.proofs.format_names.FormatNames.has.Goals as goal

pub returns : goal.returns
returns c =
    let test = puid_eq c.args.puid.now in
    let es = c.self.inside.names.entries in
    c.is_some.ensures ∙ sym (some_map _ c.get.result) ∙ ap is_some (rw puid_eq-is at c.get.ensures.value) ∙ sym
    (some_map (λ (v : Vec ℕ Global). v.items) (lookup test es))
    ∙ ap is_some (lookup-values (λ (v : Vec ℕ Global). v.items) test es) ∙ ap (λ (l : List (Puid × List ℕ)). is_some (lookup test l)) c.self.view_is
