use Rattle.std.proofs.Common.{◌≡◌, ◌+◌, [], ◌∷◌, ◌++◌, Global, List, Vec, map, sym, ap, ◌∙◌, subst}
use Rattle.std.proofs.lemmas.List.{map-append}
use Rattle.sig_find.specs.Lives.{AreLivesBelow}
use Rattle.sig_find.specs.declared.life.SignatureLife.{SignatureLife}
use Rattle.sig_find.proofs.ClassLemmas.{one_more_format}
use Rattle.sig_find.proofs.lives.lives_of_table.Goals as goal

pub loop-format-preserved : goal.loop-format-preserved
loop-format-preserved c =
    let items : Vec SignatureLife Global → List SignatureLife = λ v. v.items in
    let before = c.loop-format.formats.items in
    let own = c.in_ok-lives.lives in
    let more : map items c.push.new.self.items ≡ map items before ++ own.items ∷ [] =
    ap (map items) c.in_ok-push.ensures.items ∙ map-append items before (own ∷ []) in
    subst (AreLivesBelow c.args.table.now c.args.budget (c.loop-format.format + 1)) (sym more)
    (one_more_format c.args.table.now c.args.budget c.loop-format.format (map items before) own.items c.loop-format.invariant c.in_ok-lives.ensures.lives)
