use Rattle.sig_scan.proofs.Common.{◌≡◌, List, arith, map, take, sym, ap, ◌∙◌, subst, ◌+◌, ◌++◌, [], ◌∷◌, map_more, HasBit, Atom, AlternativeWord, GainsBits}
use Rattle.sig_scan.proofs.Common.{HasBits, Reaches}
use Rattle.sig_scan.proofs.ItemLemmas.{ReachesAny, alternatives_more}
use Rattle.sig_scan.proofs.frontier.add_alternatives.Goals as goal

pub loop-atoms-preserved : goal.loop-atoms-preserved
loop-atoms-preserved c =
    let xs = c.as_slice-atoms-items.result.now in
    let i = c.loop-atoms.atoms-index in
    let v = c.atoms-item.result in
    let file = c.args.bytes.now in
    let S = HasBit c.args.starts.now in
    let ends = c.run_parts.new.ends in
    let next : map (λ v. v.items) (take (i + 1) xs) ≡ map (λ v. v.items) (take i xs) ++ v.items ∷ [] =
    map_more (λ v. v.items) xs i v (omega arith) ∙ ap (λ w. map (λ v. v.items) (take i xs) ++ w.items ∷ []) (sym c.atoms-item.is) in
    let part : HasBits (Reaches (AlternativeWord v.items) file (HasBit c.copy_from_slice.new.self)) ends = rw c.as_slice.ensures.value at c.run_parts.ensures in
    let after : HasBits (Reaches (AlternativeWord v.items) file S) ends = rw c.copy_from_slice.ensures.after at part in
    let more : GainsBits (Reaches (AlternativeWord v.items) file S) c.loop-atoms.ends c.or_into.new.dst =
    grind (arith, after.sound, after.complete, c.or_into.ensures) in
    subst (λ (l : List (List Atom)). GainsBits (ReachesAny l file S) c.args.ends.now c.or_into.new.dst) (sym next)
    (alternatives_more (map (λ v. v.items) (take i xs)) v.items file S c.args.ends.now c.loop-atoms.ends c.or_into.new.dst c.loop-atoms.invariant more)
