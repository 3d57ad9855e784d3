use Rattle.std.proofs.Common.{◌≡◌, ℕ, List, [], ◌∷◌, ◌++◌, Global, None, Vec, ap, ◌∙◌}
use Rattle.indexmap.proofs.CallerLemmas.{insert_entry-new}
use Rattle.indexmap.specs.IndexMap.{get}
use Rattle.sig_table.specs.Rows.{is_word}
use Rattle.sig_lint.specs.EqualRows.{RowsView, first_of}
use Rattle.sig_lint.specs.declared.row_owners.Owner.{Owner}
use Rattle.sig_lint.proofs.EqualRowsLemmas.{lookup-texts, texts-more}
use Rattle.sig_lint.proofs.row_owners.Rows.with_first.Goals as goal

pub returns : goal.returns
returns c =
    let es = c.self.inside.firsts.entries in
    let text = c.args.text in
    let none : get (λ (x y : Vec ℕ Global). is_word x.items y.items) c.self.inside.firsts text ≡ None =
    lookup-texts (λ (v : Vec ℕ Global). v.items) (is_word text.items) es ∙ ap (λ (r : RowsView). first_of r.firsts text.items) c.self.view_is ∙ c.requires in
    let more : c.insert.new.self.entries ≡ es ++ (text, c.args.owner) ∷ [] =
    c.in_ok-insert.ensures.entries ∙ insert_entry-new (λ (x y : Vec ℕ Global). is_word x.items y.items) c.self.inside.firsts text c.args.owner none in
    ap (λ (l : List (List ℕ × Owner)). record { firsts = l; found = c.self.inside.found.keys })
    (texts-more (λ (v : Vec ℕ Global). v.items) es c.insert.new.self.entries text c.args.owner more)
    ∙ ap (λ (r : RowsView). record { firsts = r.firsts ++ (text.items, c.args.owner) ∷ []; found = r.found }) c.self.view_is
