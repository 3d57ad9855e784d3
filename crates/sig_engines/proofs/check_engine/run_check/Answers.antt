use Rattle.std.proofs.Common.{◌≡◌, true, sym, ◌∙◌}
use Rattle.sig_engines.proofs.JudgedLemmas.{accepted_decides}
use Rattle.sig_engines.proofs.check_engine.run_check.Goals as goal

pub returns-clause-decided : goal.returns-clause-decided
returns-clause-decided g c = λ yes.
    let same : c.is_ok.result ≡ true = cc in
    accepted_decides _ _ c.in_ok-verdict.ensures.decided (sym c.is_ok.ensures.value ∙ same)
