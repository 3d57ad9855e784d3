use Rattle.std.proofs.Common.{◌≡◌, Global, List, Some, Vec, ap, length, option_map, refl, slice_get, subst, sym, ◌∙◌}
use Rattle.std.proofs.lemmas.Option.{slice_get-map, slice_get_read}
use Rattle.sig_find.specs.declared.life.SignatureLife.{SignatureLife}
use Rattle.sig_find.proofs.lives.TableLives.has_dead.Goals as goal

pub returns-in-Some : goal.returns-in-Some
returns-in-Some c = λ dead table budget are.
    let i = c.args.format.0 in
    let own : Vec SignatureLife Global = c.in-Some.lives.now in
    let items : Vec SignatureLife Global → List SignatureLife = λ v. v.items in
    let looked = c.in-Some.ensures.lookup in
    let read : slice_get c.deref.result.now i ≡ Some own = slice_get_read c.deref.result.now (length c.deref.result.now) i own refl looked.3.0 looked.1 in
    let there : slice_get c.self.inside.formats.items i ≡ Some own = subst (λ l. slice_get l i ≡ Some own) c.deref.ensures.value read in
    let viewed : slice_get c.args.self.now i ≡ Some own.items = subst (λ l. slice_get l i ≡ Some own.items) c.self.view_is
    (slice_get-map items c.self.inside.formats.items i ∙ ap (option_map items) there) in
    c.is_dead.ensures dead table budget i (are.each i c.deref-in-Some.result.now
    (subst (λ l. slice_get c.args.self.now i ≡ Some l) (sym c.deref-in-Some.ensures.value) viewed))
