use Rattle.std.proofs.Common.{◌≡◌, [], ◌∷◌, ◌++◌, All, List, ap, append_assoc, map, subst, sym, ◌∙◌}
use Rattle.std.proofs.lemmas.List.{append-nil, map-append}
use Rattle.std.proofs.lemmas.List.Elements.{All-head, All-nil, All-push, All-tail}
use Rattle.std.proofs.lemmas.Option.{slice_get_within}
use Rattle.sig_table.specs.Places.{places_of}
use Rattle.sig_table.specs.Remaining.{remaining_of}
use Rattle.sig_find.specs.Finding.{IsOfFormat}
use Rattle.sig_find.specs.Lives.{IsLifeOf}
use Rattle.sig_find.specs.declared.life.SignatureLife.{SignatureLife}
use Rattle.sig_find.proofs.WrittenLemmas.{signatures_are_of}
use Rattle.sig_find.proofs.life.lives_of.Goals as goal

pub loop-signature-init : goal.loop-signature-init
loop-signature-init c =
    let table = c.args.table.now in
    let lives_of : SignatureLife → Type 0 = λ l. IsLifeOf table c.args.budget c.args.format.0 l.signature.0 l.life in
    let all : remaining_of c.into_iter-signature-iterator.result ≡ places_of c.args.format.0 0 table.signatures =
    ap remaining_of c.into_iter-signature-iterator.ensures.into_iter_gives ∙ c.signatures_of-signature-items.ensures.places in
    record {
      all = ap (λ (lives : List SignatureLife). map (λ (l : SignatureLife). l.signature) lives ++ remaining_of c.into_iter-signature-iterator.result)
          c.new-lives.ensures.items ∙ all;
      each = subst (All lives_of) (sym c.new-lives.ensures.items) (All-nil lives_of);
      of = subst (All (λ s. IsOfFormat table c.args.format.0 s.0)) (sym all) (signatures_are_of table c.args.format.0);
    }

pub loop-signature-preserved : goal.loop-signature-preserved
loop-signature-preserved c =
    let table = c.args.table.now in
    let lives_of : SignatureLife → Type 0 = λ l. IsLifeOf table c.args.budget c.args.format.0 l.signature.0 l.life in
    let one : SignatureLife = record { signature = c.in-Some.signature; life = c.life_of-life.result } in
    let of_all = subst (All (λ s. IsOfFormat table c.args.format.0 s.0)) c.in-Some.ensures.steps c.loop-signature.invariant.of in
    let of_one = All-head (λ s. IsOfFormat table c.args.format.0 s.0) c.in-Some.signature (remaining_of c.next.new.self) of_all in
    let life = c.life_of-life.ensures table c.args.budget c.args.format.0 c.in-Some.signature.0 c.signatures_of-signature-items.ensures.table of_one
    c.in_ok-decision.ensures in
    let lives : List SignatureLife = c.loop-signature.lives.items in
    let left = remaining_of c.next.new.self in
    record {
      all = ap (λ (more : List SignatureLife). map (λ (l : SignatureLife). l.signature) more ++ left) c.in_ok-push.ensures.items
          ∙ ap (λ l. l ++ left) (map-append (λ (l : SignatureLife). l.signature) lives (one ∷ []))
          ∙ append_assoc (map (λ (l : SignatureLife). l.signature) lives) (c.in-Some.signature ∷ []) left
          ∙ ap (λ l. map (λ (l : SignatureLife). l.signature) lives ++ l) (sym c.in-Some.ensures.steps)
          ∙ c.loop-signature.invariant.all;
      each = subst (All lives_of) (sym c.in_ok-push.ensures.items) (All-push lives_of lives one c.loop-signature.invariant.each life);
      of = All-tail (λ s. IsOfFormat table c.args.format.0 s.0) c.in-Some.signature left of_all;
    }

pub decide_product-requires : goal.decide_product-requires
decide_product-requires c =
    let table = c.args.table.now in
    let of = All-head (λ s. IsOfFormat table c.args.format.0 s.0) c.in-Some.signature (remaining_of c.next.new.self)
    (subst (All (λ s. IsOfFormat table c.args.format.0 s.0)) c.in-Some.ensures.steps c.loop-signature.invariant.of) in
    let within = slice_get_within table.signatures c.in-Some.signature.0 of.0 of.1 in
    record { first = within; second = within }

pub returns : goal.returns
returns c = record {
  all = sym (append-nil (map (λ (l : SignatureLife). l.signature) c.loop-signature.lives.items)) ∙ ap
      (λ l. map (λ (l : SignatureLife). l.signature) c.loop-signature.lives.items ++ l) (sym c.in-None.ensures.steps.0) ∙ c.loop-signature.invariant.all;
  each = c.loop-signature.invariant.each;
}
