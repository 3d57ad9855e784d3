use Rattle.sig_scan.proofs.Common.{◌≡◌, ◌+◌, List, ℕ, subst, IsFirst, OccursAt, LiteralView, StandsAt}
use Rattle.sig_scan.proofs.LiteralLemmas.{IsFirst-same, OccursAt-stands, StandsAt-occurs}
use Rattle.sig_scan.proofs.literal.Literal.first_place.Goals as goal

pub returns-then-is_found_whole : goal.returns-then-is_found_whole
returns-then-is_found_whole c =
    let l : LiteralView = c.args.self.now in
    let bytes = c.args.bytes.now in
    let whole : l.text ≡ l.other = c.is_found_whole.ensures.same c.if-is_found_whole.true in
    IsFirst-same (OccursAt bytes l.text) (StandsAt l bytes) c.args.from (c.args.last + 1) c.first_of.result
    (λ k occurs. StandsAt-occurs l bytes k whole occurs) (λ k stands. OccursAt-stands l bytes k whole stands)
    (subst (λ (t : List ℕ). IsFirst (OccursAt bytes t) c.args.from (c.args.last + 1) c.first_of.result) c.text.ensures.text c.first_of.ensures)
