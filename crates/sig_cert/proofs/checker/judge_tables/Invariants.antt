use Rattle.std.proofs.Common.{◌≡◌, ◌+◌, ◌<◌, ◌≤◌, ◌++◌, length}
use Rattle.std.specs.Prelude.{All}
use Rattle.sig_table.specs.Remaining.{remaining_of}
use Rattle.sig_cert.specs.Chains.{signatures_with, signatures_left, Chained}
use Rattle.sig_cert.specs.Pairs.{signature_pairs, signatures_of}
use Rattle.sig_cert.specs.Verdicts.{TablesJudged}
use Rattle.sig_cert.proofs.checker.judge_tables.Given as goal

abbrev pub invariant-loop-s : goal.invariant-loop-s
invariant-loop-s l = record {
  judged : Chained (TablesJudged l.version l.table l.pair l.at.table (signatures_left l.table l.formats.1.0 (remaining_of l.s-iterator))) l.view
      (TablesJudged l.version l.table l.pair 0 (signature_pairs l.table (l.fn.formats.0.0, l.formats.1.0))) l.fn.view;
  pair : l.at.pair ≡ l.pair;
  few : l.at.table + length (signatures_left l.table l.formats.1.0 (remaining_of l.s-iterator)) ≤ 16000000;
  known : All (λ s. s.0 < length l.table.signatures) (remaining_of l.s-iterator);
  first : 0 < length (remaining_of l.s-iterator) → 0 < length (signatures_of l.table l.fn.formats.0.0);
}

abbrev pub invariant-loop-t : goal.invariant-loop-t
invariant-loop-t l = record {
  judged : Chained (TablesJudged l.version l.table l.pair l.at.table
      (signatures_with l.s.0 (remaining_of l.t-iterator) ++ signatures_left l.table l.formats.1.0 (remaining_of l.s-iterator))) l.view
      (TablesJudged l.version l.table l.pair 0 (signature_pairs l.table (l.fn.formats.0.0, l.formats.1.0))) l.fn.view;
  pair : l.at.pair ≡ l.pair;
  few : l.at.table + length (signatures_with l.s.0 (remaining_of l.t-iterator) ++ signatures_left l.table l.formats.1.0 (remaining_of l.s-iterator)) ≤ 16000000;
  known : All (λ s. s.0 < length l.table.signatures) (remaining_of l.t-iterator);
  first : 0 < length (signatures_of l.table l.fn.formats.0.0);
  second : 0 < length (remaining_of l.t-iterator) → 0 < length (signatures_of l.table l.formats.1.0);
}
