use Rattle.std.proofs.Common.{◌<◌, List, All, None, length, map, sym, subst}
use Rattle.std.proofs.lemmas.List.Elements.{All-contains}
use Rattle.sig_match.proofs.Exports.{IsBytes-from_slice}
use Rattle.sig_core.specs.Hits.{HitsOf}
use Rattle.sig_table.specs.declared.ids.SigId.{SigId}
use Rattle.sig_find.specs.Rounds.{IsHitAmong}
use Rattle.sig_find.proofs.RoundLemmas.{blockers_known}
use Rattle.sig_find.proofs.direct.meets.Goals as goal

pub first_that_hits-requires : goal.first_that_hits-requires
first_that_hits-requires c =
    let known = blockers_known c.args.table.now c.args.s.0 c.args.t.0 (map (λ (b : SigId). b.0) c.in_ok-all.all.items) c.in_ok-all.ensures.all.each in
    subst (λ (xs : List SigId). All (λ index. index < length c.args.table.now.signatures) (map (λ b. b.0) xs)) (sym c.deref.ensures.value) known

pub returns : goal.returns
returns c t =
    let table = c.args.table.now in
    let file = c.args.file.now in
    let told : IsHitAmong table c.deref.result.now file None = subst (IsHitAmong table c.deref.result.now file) c.in-None.is c.in_ok-first_that_hits.ensures in
    let none = subst (λ (xs : List SigId). All (λ index. ¬ HitsOf table index file) (map (λ (b : SigId). b.0) xs)) c.deref.ensures.value told in
    record {
      is_file = IsBytes-from_slice file c.type_inv.file;
      leaves = record {
        first = c.in_ok-hits.ensures.0 c.if-not-branch.false;
        second = c.in_ok-hits-2.ensures.0 c.if-not-branch-2.false;
        unblocked = λ index blocks. All-contains (λ i. ¬ HitsOf table i file) (map (λ (b : SigId). b.0) c.in_ok-all.all.items) index none
            (c.in_ok-all.ensures.all.none_missing index blocks);
      };
    }
