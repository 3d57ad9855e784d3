use Rattle.std.proofs.Common.{◌≡◌, ◌⊎◌, ℕ, ◌+◌, ◌≤◌, [], ◌∷◌, ◌++◌, arith, inl, inr, refl, rules}
use Rattle.std.proofs.lemmas.Bool.{cases_lt}
use Rattle.sig_match.proofs.FrontierLemmas.{Gains-join, Gains-push}
use Rattle.sig_match.proofs.whole.frontier.add.Goals as goal

pub returns-in_ok-push-2 : goal.returns-in_ok-push-2
returns-in_ok-push-2 c =
    let last = c.in-Some.last in
    let next = c.args.next in
    let to = c.max-to.result in
    let whole : c.args.frontier.now.items ≡ c.pop.new.self.items ++ c.in-Some.last ∷ [] = search rules in
    let touches : next.from ≤ last.to + 1 = omega arith in
    let greatest : (o : ℕ) → o ≤ to → (o ≤ last.to) ⊎ (o ≤ next.to) =
    λ o h. elim (cases_lt last.to o) [ inl past ↦ inr (omega arith) | inr within ↦ inl within ] in
    rw (c.in_ok-push-2.ensures.items, whole)
    (Gains-join c.pop.new.self.items last next (record { from = last.from; to = to }) (omega arith) touches refl (omega arith) (omega arith) greatest)

pub returns-in_ok-push-4 : goal.returns-in_ok-push-4
returns-in_ok-push-4 c =
    let whole : c.args.frontier.now.items ≡ c.pop.new.self.items ++ c.in-Some.last ∷ [] = search rules in
    rw (c.in_ok-push-4.ensures.items, c.in_ok-push-3.ensures.items, ← whole) (Gains-push c.args.frontier.now.items c.args.next)
