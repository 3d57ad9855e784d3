use Rattle.sig_scan.proofs.Common.{◌+◌, ◌≤◌, ◌∷◌, List, None, Some, arith, subst, Item, AreBounded, span, StageView, IsFirstOf, IsShort, length, WaitsOn}
use Rattle.sig_scan.proofs.LiteralLemmas.{IsFirstOf-nowhere, IsFirstOf-skipped}
use Rattle.sig_scan.proofs.StateLemmas.{Waits-ended, Waits-tried, sight-below}
use Rattle.sig_scan.proofs.state.attempt_stage.Goals as goal

pub overflow_add-result : goal.overflow_add-result
overflow_add-result c =
    let within = c.in-Some-attempt.ensures.within in
    omega arith

pub returns-in_default-clause-waits : goal.returns-in_default-clause-waits
returns-in_default-clause-waits c s before later tail base short waits =
    let t : StageView = record { items = c.stage.inside.items.items; until = c.stage.inside.until; delay = c.stage.inside.delay } in
    let from = c.args.from in
    let limit = c.args.site.limit in
    let bytes = c.args.site.bytes.now in
    let until = c.offsets_up_to-until.result in
    let none = IsFirstOf-nowhere t.items c.stage.inside.literal bytes from until limit c.stage.invariant
    (λ k low high occurs. c.in_default.ensures k low (omega arith) occurs) in
    let P : StageView → Type 0 = λ v. IsShort c.args.site.reach v → WaitsOn c.args.site.is_last s before bytes from (v ∷ later) tail
    → WaitsOn c.args.site.is_last s before bytes limit (v ∷ later) tail in
    subst P c.stage.view_is
    (λ few w. Waits-tried c.args.site.is_last s t before bytes from until limit c.args.site.reach later tail few (omega arith) c.requires.ready.sight
    (λ x inside. c.offsets_up_to-until.ensures.many before x base inside) none w)
    short waits

pub returns-in-None-clause-waits : goal.returns-in-None-clause-waits
returns-in-None-clause-waits c s before later tail base short waits =
    let t : StageView = record { items = c.stage.inside.items.items; until = c.stage.inside.until; delay = c.stage.inside.delay } in
    let from = c.args.from in
    let first = c.in-Some.first in
    let to = c.min-to.result in
    let bytes = c.args.site.bytes.now in
    let until = c.offsets_up_to-until.result in
    let low = c.in-Some.ensures.0.low in
    let high = c.in-Some.ensures.0.high in
    let Found : List Item → Type 0 = λ l. AreBounded l → span l ≤ c.args.site.reach → IsFirstOf l bytes first until to None in
    let P : StageView → Type 0 = λ v. IsShort c.args.site.reach v → WaitsOn c.args.site.is_last s before bytes from (v ∷ later) tail
    → WaitsOn c.args.site.is_last s before bytes to (v ∷ later) tail in
    subst P c.stage.view_is
    (λ few w. Waits-tried c.args.site.is_last s t before bytes from until to c.args.site.reach later tail few (omega arith)
    (sight-below c.args.site.is_last c.args.site.limit to c.args.site.reach (length bytes) (omega arith) c.requires.ready.sight)
    (λ x inside. c.offsets_up_to-until.ensures.many before x base inside)
    (IsFirstOf-skipped t.items c.stage.inside.literal bytes from first until to None c.stage.invariant c.in-Some.ensures.0.before
    (subst Found c.deref.ensures.value c.in-None.ensures.first few.bounded few.few) low) w)
    short waits

pub returns-in-Some-attempt-clause-waits : goal.returns-in-Some-attempt-clause-waits
returns-in-Some-attempt-clause-waits c s before later tail base short waits =
    let t : StageView = record { items = c.stage.inside.items.items; until = c.stage.inside.until; delay = c.stage.inside.delay } in
    let from = c.args.from in
    let first = c.in-Some.first in
    let to = c.min-to.result in
    let e = c.in-Some-attempt.end in
    let bytes = c.args.site.bytes.now in
    let until = c.offsets_up_to-until.result in
    let low = c.in-Some.ensures.0.low in
    let Found : List Item → Type 0 = λ l. AreBounded l → span l ≤ c.args.site.reach → IsFirstOf l bytes first until to (Some e) in
    let P : StageView → Type 0 = λ v. IsShort c.args.site.reach v → WaitsOn c.args.site.is_last s before bytes from (v ∷ later) tail
    → WaitsOn c.args.site.is_last s before bytes (e + t.delay) later tail in
    subst P c.stage.view_is
    (λ few w. Waits-ended c.args.site.is_last s t before bytes from until to e later tail
    (λ x inside. c.offsets_up_to-until.ensures.many before x base inside)
    (IsFirstOf-skipped t.items c.stage.inside.literal bytes from first until to (Some e) c.stage.invariant c.in-Some.ensures.0.before
    (subst Found c.deref.ensures.value c.in-Some-attempt.ensures.first few.bounded few.few) low) w)
    short waits
