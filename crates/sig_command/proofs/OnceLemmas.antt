-- What an accepted certificate means for the lines of a match.
use Rattle.std.proofs.Common.{◌≡◌, ◌∙◌, ◌≤◌, ℕ, Bool, true, false, List, [], ◌∷◌, length, None, Option, Some, Result, Ok, Err, ap, ap₂, subst, sym}
use Rattle.std.specs.Borrow.{Bor}
use Rattle.std.specs.Prelude.{is_ok}
use Rattle.std.proofs.lemmas.Option.{same_Some}
use Rattle.sig_bits.specs.Device.{Adds}
use Rattle.sig_cert.proofs.Exports.{accepted_is_closed, closed_decides, one_is_left}
use Rattle.sig_cert.specs.Deciding.{Decided}
use Rattle.sig_cert.specs.Verdicts.{Verdict}
use Rattle.sig_cert.specs.declared.error.CheckError.{CheckError}
use Rattle.sig_command.specs.Requests.{Answers, AsksEach}
use Rattle.sig_command.specs.declared.args.FileNames.{FileNames}
use Rattle.sig_command.specs.declared.args.MatchOptions.{MatchOptions}
use Rattle.sig_command.specs.Several.{AddsLinesOfEach, AddsOneLineOfEach, AreLinesAt, AreTexts, AreVisitsOf, IsOneLineOf}
use Rattle.sig_command.specs.declared.args.Request.TheVariants.{Check, Match, MatchMany}
use Rattle.sig_engines.specs.Lines.{AreAsked, lines_of}
use Rattle.sig_engines.specs.declared.ask.MatchAsk.{MatchAsk}
use Rattle.sig_engines.specs.Stores.{Files, HoldsPriorities, IsTableOf, ReadsAs}
use Rattle.sig_engines.specs.Visits.{Visit}
use Rattle.sig_engines.specs.declared.store.TablePaths.{TablePaths}
use Rattle.sig_core.specs.declared.results.Hit.{Hit}
use Rattle.sig_table.specs.Loading.{records_of, table_of}
use Rattle.sig_table.specs.Views.{TableView}
use Rattle.sig_table.specs.declared.error.TableError.{TableError}

abbrev table_or : TableView → Result TableView TableError → TableView
table_or other (Ok table) = table
table_or other (Err error) = other

-- the priorities are these bytes alone
same_priorities : (files : Files) (name : Option (Bor (List ℕ))) (one other : List ℕ) → HoldsPriorities (Some files) name one
    → HoldsPriorities (Some files) name other → one ≡ other
same_priorities files None one other r q = r ∙ sym q
same_priorities files (Some name) one other r q = same_Some one other (sym r ∙ q)

-- the files hold one table
same_table : (files : Files) (paths : TablePaths) (one other : TableView) → ReadsAs (Some files) paths (Ok one) → ReadsAs (Some files) paths (Ok other)
    → one ≡ other
same_table files paths one other r q =
    let signatures : r.0 ≡ q.0 = same_Some r.0 q.0 (sym r.2 ∙ q.2) in
    let priorities : r.1 ≡ q.1 = same_priorities files paths.priorities r.1 q.1 r.3 q.3 in
    let same : table_of (records_of r.0) (records_of r.1) ≡ table_of (records_of q.0) (records_of q.1) =
    ap₂ (λ s p. table_of (records_of s) (records_of p)) signatures priorities in
    ap (table_or one) (sym r.4 ∙ same ∙ q.4)

-- the verdict of a yes
accepts : (table : TableView) (certificate : List ℕ) (verdict : Result Unit CheckError) → Verdict table certificate verdict → is_ok verdict ≡ true
    → Verdict table certificate (Ok tt)
accepts table certificate (Ok accepted) is agreed = is
accepts table certificate (Err fault) is agreed = cc

-- the table of an accepted certificate is decided, also where it is read for a match
table_is_decided : (files : Files) (table : TablePaths) (certificate : Bor (List ℕ)) (checked_before checked_after : Option (List ℕ)) (t : TableView)
    → Answers (Some files) (Check table certificate) true checked_before checked_after → IsTableOf (Some files) table t → Decided t
table_is_decided files table certificate checked_before checked_after t checked is =
    let of : TableView = checked.0 in
    let cert : List ℕ = checked.2 in
    let verdict = checked.5 in
    let accepted = accepts of cert verdict.verdict verdict.is_of_it verdict.accepts in
    let decided : Decided of = closed_decides of cert checked.1.limits (accepted_is_closed of cert checked.3 accepted) in
    subst Decided (same_table files table of t checked.1.read is.read) decided

-- the line of a decided table's file
pub one_line : (files : Files) (table : TablePaths) (certificate name : Bor (List ℕ)) (is_yes : Bool)
    (checked_before checked_after before after : Option (List ℕ)) → Answers (Some files) (Check table certificate) true checked_before checked_after
    → Answers (Some files) (Match false table name) is_yes before after → (t : TableView) × (hits : List Hit) × (length hits ≤ 1)
    × Adds before (lines_of t hits) after
one_line files table certificate name is_yes checked_before checked_after before after checked matched =
    let t : TableView = matched.1 in
    let decided : Decided t = table_is_decided files table certificate checked_before checked_after t checked matched.2 in
    let lines = matched.6 in
    (t, lines.hits, one_is_left t matched.3 lines.hits decided matched.4 lines.are_asked, lines.adds)

-- a text of each visit is one of another kind, if each of the first kind is
weaker_texts : (P Q : Visit → List ℕ → Type 0) → ((visit : Visit) (text : List ℕ) → P visit text → Q visit text) → (visits : List Visit) (text : List ℕ)
    → AreTexts P visits text → AreTexts Q visits text
weaker_texts P Q each [] text are = are
weaker_texts P Q each (visit ∷ visits) text are = (are.0, are.1, are.2, each visit are.0 are.3, weaker_texts P Q each visits are.1 are.4)

-- the lines of several of its files
each_once : (files : Files) (table : TablePaths) (certificate : Bor (List ℕ)) (ask : MatchAsk) (t : TableView) (Are : List Visit → Type 0)
    (checked_before checked_after before after : Option (List ℕ)) → ask.all ≡ false
    → Answers (Some files) (Check table certificate) true checked_before checked_after → IsTableOf (Some files) table t
    → AddsLinesOfEach ask t (Some files) Are before after → AddsOneLineOfEach ask t Are before after
each_once files table certificate ask t Are checked_before checked_after before after left checked is added =
    let decided : Decided t = table_is_decided files table certificate checked_before checked_after t checked is in
    record {
      visits = added.visits;
      are = added.are;
      text = added.text;
      are_lines = weaker_texts (AreLinesAt ask t (Some files)) (IsOneLineOf ask t) (one decided) added.visits added.text added.are_lines;
      adds = added.adds;
    }
  where
    one : Decided t → (visit : Visit) (text : List ℕ) → AreLinesAt ask t (Some files) visit text → IsOneLineOf ask t visit text
    one decided visit text is =
        let lines = is.2 in (
          lines.hits,
          one_is_left t lines.file lines.hits decided lines.bytes (subst (λ b. AreAsked b t lines.file lines.hits) left lines.are_asked),
          lines.are_lines,
        )

pub one_line_each : (files : Files) (table : TablePaths) (certificate : Bor (List ℕ)) (options : MatchOptions) (names : FileNames) (is_yes : Bool)
    (checked_before checked_after before after : Option (List ℕ)) → options.all ≡ false
    → Answers (Some files) (Check table certificate) true checked_before checked_after
    → Answers (Some files) (MatchMany options table names) is_yes before after → (t : TableView) × (ask : MatchAsk) × AsksEach (Some files) options ask
    × AddsOneLineOfEach ask t (AreVisitsOf ask (Some files) names) before after
one_line_each files table certificate options names is_yes checked_before checked_after before after left checked matched =
    let each = matched.1 in (
      each.0,
      each.2,
      each.3,
      each_once files table certificate each.2 each.0 (AreVisitsOf each.2 (Some files) names) checked_before checked_after before after
          (each.3.all ∙ left) checked each.1 each.4,
    )
