use Rattle.sig_scan.proofs.Common.{◌≡◌, ◌∙◌, Bool, List, ap, length, refl, true, length-replicate, All-replicate, All-same, IfOk-weaker, IsProgramOf}
use Rattle.sig_scan.proofs.Common.{IsWholeProgramOf}
use Rattle.sig_scan.proofs.CompiledLemmas.{IsWholeProgramOf-all}
use Rattle.sig_scan.proofs.block_core.compiled.Goals as goal

pub returns : goal.returns
returns c =
    let table = c.args.table.now in
    let all : List Bool = c.deref.result.now in
    let same = c.deref.ensures.value ∙ c.in_ok-all.ensures.items_if_clones_equal (λ y e. e) in
    let long : length all ≡ length table.signatures = ap length same ∙ length-replicate _ true ∙ c.signature_count.ensures.count in
    IfOk-weaker c.of.result (IsProgramOf table all) (IsWholeProgramOf table)
    (λ p is. IsWholeProgramOf-all table all p long (All-same (λ b. b ≡ true) all _ same (All-replicate (λ b. b ≡ true) _ true refl)) is) c.of.ensures
