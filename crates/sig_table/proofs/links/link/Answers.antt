use Rattle.std.proofs.Common.{◌≡◌, ◌+◌, ◌-◌, ◌<◌, length, refl, sym, subst, arith}
use Rattle.sig_table.specs.Views.{SignatureView}
use Rattle.sig_table.proofs.LinkLemmas.{AreLinkedFrom, links_end, links_more, links_start}
use Rattle.sig_table.proofs.links.link.Goals as goal

pub loop-place-init : goal.loop-place-init
loop-place-init c =
    links_start (length c.args.firsts.now) (length c.args.signatures.now) c.args.signatures.now c.fill.new.self c.args.nexts.now
    (c.fill.ensures.after (λ y e. e)) c.fill.ensures.len refl c.requires.few c.requires.as_many

pub loop-place-preserved : goal.loop-place-preserved
loop-place-preserved c =
    let s = c.index-signatures-place.result in
    let q = c.loop-place.place - 1 in
    let some = c.loop-place-test.true in
    let inside : q < length c.args.signatures.now = omega arith in
    let known = c.requires.known q s inside in
    let begins : s.format < length c.loop-place.firsts = subst (λ (v : SignatureView). v.format < length c.loop-place.firsts) (sym c.index-signatures-place.is)
    (omega (arith, known)) in
    let at : c.loop-place.place ≡ q + 1 = omega arith in
    let was = subst (λ k. AreLinkedFrom k c.args.signatures.now c.loop-place.firsts c.loop-place.nexts) at c.loop-place.invariant in
    rw c.format-format.ensures
    (links_more q c.args.signatures.now c.loop-place.firsts c.loop-place.nexts s _ inside c.index-signatures-place.is (omega arith) begins refl was)

pub returns : goal.returns
returns c =
    let over = c.loop-place-test.false in
    links_end c.loop-place.place c.args.signatures.now c.loop-place.firsts c.loop-place.nexts (omega arith) (omega arith) c.loop-place.invariant
