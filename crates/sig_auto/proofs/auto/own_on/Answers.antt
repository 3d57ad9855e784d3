use Rattle.sig_auto.proofs.Common.{rules, subst, sym, ◌∙◌, ◌≡◌, IfSome, IsCellOf, Some, false≢true}
use Rattle.sig_auto.proofs.CellSuccessorLemmas.{own_not, own_takes}
use Rattle.sig_auto.proofs.auto.own_on.Goals as goal

pub returns-then-contains : goal.returns-then-contains
returns-then-contains c =
    let is : c.args.behind.own ≡ Some c.in_ok-q.q = search rules in
    own_takes c.args.cells.now c.args.behind.own c.in_ok-q.q c.args.behind.cell c.args.byte _ c.requires.ready.lined
    (subst (λ o. IfSome o (λ q. IsCellOf c.args.cells.now q c.args.behind.cell)) is c.requires.cell) is (c.contains.ensures.0 c.if-contains.true)

pub returns-else-contains : goal.returns-else-contains
returns-else-contains c =
    let is : c.args.behind.own ≡ Some c.in_ok-q.q = search rules in
    own_not c.args.cells.now c.args.behind.own c.in_ok-q.q c.args.behind.cell c.args.byte _ c.requires.ready.lined
    (subst (λ o. IfSome o (λ q. IsCellOf c.args.cells.now q c.args.behind.cell)) is c.requires.cell) is
    (λ k. false≢true (sym c.if-contains.false ∙ c.contains.ensures.1 k))
