-- Hits that are asked for are hits of the table.
use Rattle.std.proofs.Common.{ℕ, Bool, true, false, List, All, subst, sym}
use Rattle.std.proofs.lemmas.List.Elements.{All-filter}
use Rattle.sig_core.specs.Hits.{IsFirstHit}
use Rattle.sig_core.specs.declared.results.Hit.{Hit}
use Rattle.sig_table.specs.Views.{TableView}
use Rattle.sig_engines.specs.Lines.{AreAsked, IsOf}

of_first_hits : (table : TableView) (file : List ℕ) (hits : List Hit) → All (IsFirstHit table file) hits → All (IsOf table) hits
of_first_hits table file hits each = λ k d within.
    let hit = each k d within in
    record { signature = hit.hits.signature; at = hit.hits.at; of_format = hit.hits.of_format }

-- the hits that are asked for are hits of the table
pub asked_are_of : (all : Bool) (table : TableView) (file : List ℕ) (hits : List Hit) → AreAsked all table file hits → All (IsOf table) hits
asked_are_of true table file hits asked = of_first_hits table file hits asked.each
asked_are_of false table file hits asked = subst (λ hs. All (IsOf table) hs) (sym asked.kept)
    (All-filter _ (IsOf table) asked.hits (of_first_hits table file asked.hits asked.all_hits.each))
