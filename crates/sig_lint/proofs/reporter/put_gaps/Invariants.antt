use Rattle.std.proofs.Common.{◌≡◌, ◌++◌, map, take}
use Rattle.std.specs.Prelude.{flat_map}
use Rattle.sig_table.specs.declared.ids.SigId.{SigId}
use Rattle.sig_lint.specs.Reports.{gaps_line}
use Rattle.sig_lint.proofs.reporter.put_gaps.Given as goal

-- a warning of each signature so far
abbrev pub invariant-loop-signature : goal.invariant-loop-signature
invariant-loop-signature l = l.out.items ≡ l.fn.out.items ++ flat_map (gaps_line l.table)
    (map (λ (id : SigId). id.0) (take l.signature-index l.signature-items))
