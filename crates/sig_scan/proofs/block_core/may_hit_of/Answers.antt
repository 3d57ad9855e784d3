use Rattle.sig_scan.proofs.Common.{List, ◌∙◌, ◌≡◌, Bool, refl, subst, sym, true, ℕ, All-replicate, All-same, AreAsked, AreExcluded}
use Rattle.sig_scan.proofs.HeadLemmas.{AreExcluded-none}
use Rattle.sig_scan.proofs.ReadLemmas.{written}
use Rattle.sig_scan.proofs.block_core.may_hit_of.Goals as goal

pub returns-clause-excluded : goal.returns-clause-excluded
returns-clause-excluded c =
    let table = c.args.table.now in
    let all : List Bool = c.in_ok-may_hit.may_hit.items in
    let new : List Bool = c.exclude.new.may_hit in
    let bytes : List ℕ = c.args.bytes.now in
    let none = AreExcluded-none table all bytes
    (All-same (λ b. b ≡ true) all _ (c.in_ok-may_hit.ensures.items_if_clones_equal (λ y e. e)) (All-replicate (λ b. b ≡ true) _ true refl)) in
    let step = subst (λ (l : List Bool). AreExcluded table l bytes → AreExcluded table new bytes) c.deref_mut.ensures.value
    (c.exclude.ensures.sound table c.requires) in
    let same = written new _ _ (c.exclude.auto.may_hit ∙ c.deref_mut.ensures.len) in
    subst (λ (l : List Bool). AreExcluded table l bytes) (sym same) (step none)

pub returns-clause-asked : goal.returns-clause-asked
returns-clause-asked c =
    let new : List Bool = c.exclude.new.may_hit in
    let same = written new _ _ (c.exclude.auto.may_hit ∙ c.deref_mut.ensures.len) in
    subst (λ (l : List Bool). AreAsked c.args.bytes.now l c.args.heads.now) (sym same) c.exclude.ensures.asked
