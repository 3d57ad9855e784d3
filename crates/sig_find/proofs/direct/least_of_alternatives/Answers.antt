use Rattle.std.proofs.Common.{◌≤◌, List, All, Global, Vec, arith, subst, take, ap}
use Rattle.std.proofs.lemmas.List.{take_all, take_more}
use Rattle.std.proofs.lemmas.List.Elements.{All-map, All-push, All-weaker}
use Rattle.sig_expr.specs.declared.item.Atom.{Atom}
use Rattle.sig_find.specs.Lengths.{parts_length}
use Rattle.sig_find.proofs.direct.least_of_alternatives.Goals as goal

pub loop-parts-preserved : goal.loop-parts-preserved
loop-parts-preserved c =
    let own : Vec Atom Global = c.parts-item.result in
    let here = c.least_of_parts.ensures in
    let value = c.deref.ensures.value in
    let low = c.min-least.ensures in
    let before : All (λ (p : Vec Atom Global). c.min-least.result ≤ parts_length p.items) (take c.loop-parts.parts-index c.as_slice-parts-items.result.now) =
    All-weaker (λ (p : Vec Atom Global). c.loop-parts.least ≤ parts_length p.items) (λ (p : Vec Atom Global). c.min-least.result ≤ parts_length p.items)
    (λ p h. omega arith) (take c.loop-parts.parts-index c.as_slice-parts-items.result.now) c.loop-parts.invariant in
    let last : c.min-least.result ≤ parts_length own.items = let same = ap parts_length value in omega arith in
    let more = All-push (λ (p : Vec Atom Global). c.min-least.result ≤ parts_length p.items) (take c.loop-parts.parts-index c.as_slice-parts-items.result.now)
    own before last in
    rw (take_more c.as_slice-parts-items.result.now c.loop-parts.parts-index own c.loop-parts-test.true, ← c.parts-item.is) more

pub returns : goal.returns
returns c =
    let test = c.loop-parts-test.false in
    let all = subst (All (λ (p : Vec Atom Global). c.loop-parts.least ≤ parts_length p.items))
    (take_all c.loop-parts.parts-index c.as_slice-parts-items.result.now (omega arith)) c.loop-parts.invariant in
    subst (All (λ (parts : List Atom). c.loop-parts.least ≤ parts_length parts)) c.as_slice-parts-items.ensures
    (All-map (λ (parts : List Atom). c.loop-parts.least ≤ parts_length parts) (λ (p : Vec Atom Global). p.items) c.as_slice-parts-items.result.now all)
