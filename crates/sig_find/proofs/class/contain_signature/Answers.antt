use Rattle.std.proofs.Common.{ℕ, ◌<◌, List, All, length, map, sym, subst}
use Rattle.std.proofs.lemmas.Option.{slice_get_within}
use Rattle.sig_match.proofs.Exports.{left_there}
use Rattle.sig_table.specs.declared.ids.SigId.{SigId}
use Rattle.sig_find.specs.Classes.{AreTakers}
use Rattle.sig_find.specs.Inclusions.{IsInclusion}
use Rattle.sig_find.specs.Lives.{IsDead, IsLifeOf}
use Rattle.sig_find.specs.declared.inclusion.Inclusion.TheVariants as inclusion
use Rattle.sig_find.proofs.ClassLemmas.{counterexample_stands_alone, dead_is_held, included_is_held, places_are_signatures, places_within, takers_within}
use Rattle.sig_find.proofs.class.contain_signature.Goals as goal

pub returns-in-Dead : goal.returns-in-Dead
returns-in-Dead c =
    let s : ℕ = c.args.own.now.signature.0 in
    let dead : IsDead c.args.table.now c.args.task.a.0 s = subst (IsLifeOf c.args.table.now c.args.task.budget c.args.task.a.0 s) c.in-Dead.is c.requires.life
    in
    dead_is_held c.args.table.now c.args.task.a.0 c.args.task.b.0 s dead

pub takers_of-requires : goal.takers_of-requires
takers_of-requires c = slice_get_within c.args.table.now.signatures c.args.own.now.signature.0 c.requires.of.0 c.requires.of.1

pub decide_inclusion-requires : goal.decide_inclusion-requires
decide_inclusion-requires c =
    let table = c.args.table.now in
    let s : ℕ = c.args.own.now.signature.0 in
    let others : List ℕ = map (λ (b : SigId). b.0) c.args.others.now in
    let takers : List ℕ = map (λ (b : SigId). b.0) c.in_ok-takers.takers.items in
    record {
      signature = slice_get_within table.signatures s c.requires.of.0 c.requires.of.1;
      others = subst (λ (xs : List SigId). All (λ index. index < length table.signatures) (map (λ (b : SigId). b.0) xs)) (sym c.deref.ensures.value)
          (takers_within table s others takers c.in_ok-takers.ensures.takers (places_within table c.args.task.b.0 c.args.others.now c.requires.others));
    }

pub returns-in-Included : goal.returns-in-Included
returns-in-Included c =
    let table = c.args.table.now in
    let s : ℕ = c.args.own.now.signature.0 in
    let others : List ℕ = map (λ (b : SigId). b.0) c.args.others.now in
    let takers : List ℕ = map (λ (b : SigId). b.0) c.deref.result.now in
    let are : AreTakers table s others takers = subst (λ (xs : List SigId). AreTakers table s others (map (λ (b : SigId). b.0) xs)) (sym c.deref.ensures.value)
    c.in_ok-takers.ensures.takers in
    let told : IsInclusion table s takers c.args.task.budget inclusion.Included =
    subst (IsInclusion table s takers c.args.task.budget) c.in-Included.is c.in_ok-decide_inclusion.ensures in
    included_is_held table c.args.task.a.0 c.args.task.b.0 s others takers c.requires.of
    (places_are_signatures table c.args.task.b.0 c.args.others.now c.requires.others) are told

pub returns-in-Counterexample : goal.returns-in-Counterexample
returns-in-Counterexample c =
    let table = c.args.table.now in
    let s : ℕ = c.args.own.now.signature.0 in
    let others : List ℕ = map (λ (b : SigId). b.0) c.args.others.now in
    let takers : List ℕ = map (λ (b : SigId). b.0) c.deref.result.now in
    let are : AreTakers table s others takers = subst (λ (xs : List SigId). AreTakers table s others (map (λ (b : SigId). b.0) xs)) (sym c.deref.ensures.value)
    c.in_ok-takers.ensures.takers in
    let told : IsInclusion table s takers c.args.task.budget (inclusion.Counterexample c.in-Counterexample.field-0) =
    subst (IsInclusion table s takers c.args.task.budget) c.in-Counterexample.is c.in_ok-decide_inclusion.ensures in
    let left = left_there table c.in-Counterexample.field-0.items c.in_ok-takers.ensures.table told.is_file in
    counterexample_stands_alone table c.args.task.a.0 c.args.task.b.0 s c.args.task.budget others takers c.in-Counterexample.field-0.items left.0 left.1
    c.requires.of
    (places_are_signatures table c.args.task.b.0 c.args.others.now c.requires.others) are told
