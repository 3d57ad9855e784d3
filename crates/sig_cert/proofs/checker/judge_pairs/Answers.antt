use Rattle.std.proofs.Common.{◌≡◌, ℕ, ◌+◌, ◌-◌, ◌<◌, ◌≤◌, List, ◌++◌, length, map, sym, ap, ◌∙◌, subst, arith}
use Rattle.std.specs.List.{range_with_len, flat_map}
use Rattle.std.proofs.lemmas.Result.{err_from_is_err_and}
use Rattle.sig_cert.specs.Chains.{Chained}
use Rattle.sig_cert.specs.Pairs.{format_pairs, pairs_with}
use Rattle.sig_cert.specs.Verdicts.{PairsJudged}
use Rattle.sig_cert.proofs.ChainLemmas.{few_format_pairs, pairs_go_on, pairs_left-cons, pairs_stop, pairs_with-cons, pairs_with-none}
use Rattle.sig_cert.proofs.GrowingLemmas.{told_short}
use Rattle.sig_cert.specs.declared.error.CheckError.TheVariants.{OutOfMemory}
use Rattle.sig_cert.proofs.checker.judge_pairs.Goals as goal

pub loop-i-init : goal.loop-i-init
loop-i-init c =
    let same : c.format_count-formats.result - 0 ≡ c.format_count-formats.result = omega arith in
    let few = few_format_pairs c.format_count-formats.result c.format_count-formats.ensures.limit in
    rw same (record { judged = λ outcome judged. judged; few = omega (arith, few) })

pub loop-j-init : goal.loop-j-init
loop-j-init c =
    let n = c.format_count-formats.result in
    let is = pairs_left-cons n c.loop-i.i c.loop-i-test.true in
    record {
      judged = subst (λ pairs. Chained (PairsJudged c.args.version c.args.table.now c.loop-i.pair pairs) c.loop-i.view
          (PairsJudged c.args.version c.args.table.now 0 (format_pairs n)) c.args.view.now) is c.loop-i.invariant.judged;
      few = subst (λ (pairs : List (ℕ × ℕ)). c.loop-i.pair + length pairs ≤ 1000000) is c.loop-i.invariant.few;
      order = omega arith;
    }

pub loop-i-preserved : goal.loop-i-preserved
loop-i-preserved c =
    let n = c.format_count-formats.result in
    let left = flat_map (pairs_with n) (range_with_len (c.loop-i.i + 1) (n - (c.loop-i.i + 1))) in
    let is = pairs_with-none n c.loop-i.i c.loop-j.j left c.loop-j-test.false in
    record {
      judged = subst (λ pairs. Chained (PairsJudged c.args.version c.args.table.now c.loop-j.pair pairs) c.loop-j.view
          (PairsJudged c.args.version c.args.table.now 0 (format_pairs n)) c.args.view.now) is c.loop-j.invariant.judged;
      few = subst (λ (pairs : List (ℕ × ℕ)). c.loop-j.pair + length pairs ≤ 1000000) is c.loop-j.invariant.few;
    }

pub loop-j-preserved : goal.loop-j-preserved
loop-j-preserved c =
    let n = c.format_count-formats.result in
    let left = flat_map (pairs_with n) (range_with_len (c.loop-i.i + 1) (n - (c.loop-i.i + 1))) in
    let all = map (λ j. (c.loop-i.i, j)) (range_with_len c.loop-j.j (n - c.loop-j.j)) ++ left in
    let rest = map (λ j. (c.loop-i.i, j)) (range_with_len (c.loop-j.j + 1) (n - (c.loop-j.j + 1))) ++ left in
    let is = pairs_with-cons n c.loop-i.i c.loop-j.j left c.loop-j-test.true in
    record {
      judged = pairs_go_on c.args.version c.args.table.now c.loop-j.pair (c.loop-i.i, c.loop-j.j) all rest c.loop-j.view c.judge_pair.new.view c.args.view.now
          (PairsJudged c.args.version c.args.table.now 0 (format_pairs n)) is c.in_ok-judge_pair.ensures.judged c.loop-j.invariant.judged;
      few = (let long : length all ≡ length rest + 1 = ap length is ∙ omega arith in let few = c.loop-j.invariant.few in omega (arith, long, few));
      order = (let order = c.loop-j.invariant.order in omega (arith, order));
    }

pub returns-in_err-judge_pair-clause-judged : goal.returns-in_err-judge_pair-clause-judged
returns-in_err-judge_pair-clause-judged c =
    let n = c.format_count-formats.result in
    let left = flat_map (pairs_with n) (range_with_len (c.loop-i.i + 1) (n - (c.loop-i.i + 1))) in
    let all = map (λ j. (c.loop-i.i, j)) (range_with_len c.loop-j.j (n - c.loop-j.j)) ++ left in
    let rest = map (λ j. (c.loop-i.i, j)) (range_with_len (c.loop-j.j + 1) (n - (c.loop-j.j + 1))) ++ left in
    let is = pairs_with-cons n c.loop-i.i c.loop-j.j left c.loop-j-test.true in
    let p = err_from_is_err_and c.from_residual.result c.from_residual.ensures.1 in
    rw (p.1, p.2, sym c.format_count-formats.ensures.count) (pairs_stop c.args.version c.args.table.now c.loop-j.pair (c.loop-i.i, c.loop-j.j) all rest
    c.loop-j.view c.args.view.now c.in_err-judge_pair.field-0.0 (PairsJudged c.args.version c.args.table.now 0 (format_pairs n)) is
    c.in_err-judge_pair.ensures.judged c.loop-j.invariant.judged)

pub returns-in_err-judge_pair-clause-memory : goal.returns-in_err-judge_pair-clause-memory
returns-in_err-judge_pair-clause-memory c short =
    let p = err_from_is_err_and c.from_residual.result c.from_residual.ensures.1 in
    record {
      pair = (c.loop-i.i, c.loop-j.j);
      order = c.loop-j.invariant.order;
      known = subst (λ n. c.loop-j.j < n) c.format_count-formats.ensures.count c.loop-j-test.true;
      is_open = c.in_err-judge_pair.ensures.memory (told_short c.from_residual.result p.0 c.in_err-judge_pair.field-0.0 OutOfMemory p.1 p.2 short);
    }
