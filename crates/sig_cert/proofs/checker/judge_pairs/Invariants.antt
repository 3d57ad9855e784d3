use Rattle.std.proofs.Common.{◌+◌, ◌-◌, ◌<◌, ◌≤◌, ◌++◌, length, map}
use Rattle.std.specs.List.{range_with_len, flat_map}
use Rattle.sig_cert.specs.Chains.{Chained}
use Rattle.sig_cert.specs.Pairs.{format_pairs, pairs_with}
use Rattle.sig_cert.specs.Verdicts.{PairsJudged}
use Rattle.sig_cert.proofs.checker.judge_pairs.Given as goal

abbrev pub invariant-loop-i : goal.invariant-loop-i
invariant-loop-i l = record {
  judged : Chained (PairsJudged l.version l.table l.pair (flat_map (pairs_with l.formats) (range_with_len l.i (l.formats - l.i)))) l.view
      (PairsJudged l.version l.table 0 (format_pairs l.formats)) l.fn.view;
  few : l.pair + length (flat_map (pairs_with l.formats) (range_with_len l.i (l.formats - l.i))) ≤ 1000000;
}

abbrev pub invariant-loop-j : goal.invariant-loop-j
invariant-loop-j l = record {
  judged : Chained (PairsJudged l.version l.table l.pair (map (λ j. (l.i, j)) (range_with_len l.j (l.formats - l.j)) ++ flat_map (pairs_with l.formats)
      (range_with_len (l.i + 1) (l.formats - (l.i + 1))))) l.view (PairsJudged l.version l.table 0 (format_pairs l.formats)) l.fn.view;
  few : l.pair + length (map (λ j. (l.i, j)) (range_with_len l.j (l.formats - l.j)) ++ flat_map (pairs_with l.formats)
      (range_with_len (l.i + 1) (l.formats - (l.i + 1)))) ≤ 1000000;
  order : l.i < l.j;
}
