use Rattle.std.proofs.Common.{◌≡◌, ◌∙◌, ℕ, Global, List, None, Option, Some, Vec, ap}
use Rattle.std.specs.Map.{lookup}
use Rattle.std.specs.Prelude.{option_map}
use Rattle.sig_table.proofs.Exports.{puid_eq-is}
use Rattle.sig_table.specs.Puids.{puid_eq}
use Rattle.sig_table.specs.declared.puid.Puid.{Puid}
use Rattle.sig_engines.specs.FormatNames.{name_or_none}
use Rattle.sig_engines.proofs.FormatNameLemmas.{lookup-values}
use Rattle.sig_engines.proofs.format_names.FormatNames.name_of.Goals as goal

pub returns-in-Some : goal.returns-in-Some
returns-in-Some c =
    let test = puid_eq c.args.puid.now in
    let value : Some c.in-Some.name.now ≡ lookup test c.self.inside.names.entries = rw puid_eq-is at c.in-Some.ensures.value in
    c.deref.ensures.value ∙ ap (λ (o : Option (Vec ℕ Global)). name_or_none (option_map (λ (v : Vec ℕ Global). v.items) o)) value
    ∙ ap name_or_none (lookup-values (λ (v : Vec ℕ Global). v.items) test c.self.inside.names.entries) ∙ ap
    (λ (l : List (Puid × List ℕ)). name_or_none (lookup test l)) c.self.view_is

pub returns-in-None : goal.returns-in-None
returns-in-None c =
    let test = puid_eq c.args.puid.now in
    let value : None ≡ lookup test c.self.inside.names.entries = rw puid_eq-is at c.in-None.ensures.value in
    ap (λ (o : Option (Vec ℕ Global)). name_or_none (option_map (λ (v : Vec ℕ Global). v.items) o)) value
    ∙ ap name_or_none (lookup-values (λ (v : Vec ℕ Global). v.items) test c.self.inside.names.entries) ∙ ap
    (λ (l : List (Puid × List ℕ)). name_or_none (lookup test l)) c.self.view_is
