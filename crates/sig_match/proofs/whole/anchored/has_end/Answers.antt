use Rattle.sig_match.proofs.FrontierLemmas.{Meets-same}
use Rattle.sig_match.proofs.whole.anchored.has_end.Goals as goal

pub returns-in-Some : goal.returns-in-Some
returns-in-Some c = (
  λ t. Meets-same _ _ c.args.frontier.now (λ o h. (c.in-Some.ensures o).0 h) (c.overlaps.ensures.0 t),
  λ h. c.overlaps.ensures.1 (Meets-same _ _ c.args.frontier.now (λ o h. (c.in-Some.ensures o).1 h) h),
)
