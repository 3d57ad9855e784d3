use Rattle.std.proofs.Common.{◌≡◌, ℕ, ◌+◌, ◌<◌, ◌≤◌, List, ◌++◌, length, refl, sym, ap, ◌∙◌, subst, arith}
use Rattle.std.specs.Prelude.{All}
use Rattle.std.proofs.lemmas.List.Elements.{All-head, All-tail}
use Rattle.std.proofs.lemmas.Result.{err_from_is_err_and}
use Rattle.sig_table.specs.Places.{places_of}
use Rattle.sig_table.specs.Remaining.{remaining_of}
use Rattle.sig_table.specs.declared.ids.SigId.{SigId}
use Rattle.sig_cert.specs.Chains.{Chained, signatures_left, signatures_with}
use Rattle.sig_cert.specs.Pairs.{signature_pairs}
use Rattle.sig_cert.specs.Verdicts.{TablesJudged}
use Rattle.sig_cert.proofs.ChainLemmas.{few_pairs, signatures_known, signatures_left-cons, signatures_with-cons, signatures_with-none, some_ahead, some_numbers}
use Rattle.sig_cert.proofs.ChainLemmas.{tables_go_on, tables_stop}
use Rattle.sig_cert.proofs.checker.judge_tables.Goals as goal

pub loop-s-init : goal.loop-s-init
loop-s-init c =
    let table = c.args.table.now in
    let all : remaining_of c.into_iter-s-iterator.result ≡ places_of c.args.formats.0.0 0 table.signatures =
    ap remaining_of c.into_iter-s-iterator.ensures.into_iter_gives ∙ c.signatures_of-s-items.ensures.places in
    rw all (record {
      judged = λ outcome judged. judged;
      pair = refl;
      few = (let few = few_pairs table c.args.formats.0.0 c.args.formats.1.0 c.requires in omega (arith, few));
      known = signatures_known table c.args.formats.0.0;
      first = some_numbers (places_of c.args.formats.0.0 0 table.signatures);
    })

pub loop-t-init : goal.loop-t-init
loop-t-init c =
    let table = c.args.table.now in
    let all : remaining_of c.into_iter-t-iterator.result ≡ places_of c.args.formats.1.0 0 table.signatures =
    ap remaining_of c.into_iter-t-iterator.ensures.into_iter_gives ∙ c.signatures_of-t-items.ensures.places in
    let is = signatures_left-cons table c.args.formats.1.0 (remaining_of c.loop-s.s-iterator) (remaining_of c.next.new.self)
    (remaining_of c.into_iter-t-iterator.result) c.in-Some.s c.in-Some.ensures.steps all in
    record {
      judged = subst (λ pairs. Chained (TablesJudged c.args.version table c.args.pair c.loop-s.at.table pairs) c.loop-s.view
          (TablesJudged c.args.version table c.args.pair 0 (signature_pairs table (c.args.formats.0.0, c.args.formats.1.0))) c.args.view.now) is
          c.loop-s.invariant.judged;
      pair = c.loop-s.invariant.pair;
      few = subst (λ (pairs : List (ℕ × ℕ)). c.loop-s.at.table + length pairs ≤ 16000000) is c.loop-s.invariant.few;
      known = subst (All (λ s. s.0 < length table.signatures)) (sym all) (signatures_known table c.args.formats.1.0);
      first = c.loop-s.invariant.first (some_ahead (remaining_of c.loop-s.s-iterator) (remaining_of c.next.new.self) c.in-Some.s c.in-Some.ensures.steps);
      second = λ some. some_numbers (places_of c.args.formats.1.0 0 table.signatures) (subst (λ (l : List SigId). 0 < length l) all some);
    }

pub loop-s-preserved : goal.loop-s-preserved
loop-s-preserved c =
    let table = c.args.table.now in
    let left = signatures_left table c.args.formats.1.0 (remaining_of c.next.new.self) in
    let is = signatures_with-none c.in-Some.s.0 (remaining_of c.loop-t.t-iterator) left c.in-None-t.ensures.steps.0 in
    record {
      judged = subst (λ pairs. Chained (TablesJudged c.args.version table c.args.pair c.loop-t.at.table pairs) c.loop-t.view
          (TablesJudged c.args.version table c.args.pair 0 (signature_pairs table (c.args.formats.0.0, c.args.formats.1.0))) c.args.view.now) is
          c.loop-t.invariant.judged;
      pair = c.loop-t.invariant.pair;
      few = subst (λ (pairs : List (ℕ × ℕ)). c.loop-t.at.table + length pairs ≤ 16000000) is c.loop-t.invariant.few;
      known = All-tail (λ s. s.0 < length table.signatures) c.in-Some.s (remaining_of c.next.new.self)
          (subst (All (λ s. s.0 < length table.signatures)) c.in-Some.ensures.steps c.loop-s.invariant.known);
      first = λ some. c.loop-t.invariant.first;
    }

pub judge_table-requires-clause-first : goal.judge_table-requires-clause-first
judge_table-requires-clause-first c =
    All-head (λ s. s.0 < length c.args.table.now.signatures) c.in-Some.s (remaining_of c.next.new.self)
    (subst (All (λ s. s.0 < length c.args.table.now.signatures)) c.in-Some.ensures.steps c.loop-s.invariant.known)

pub judge_table-requires-clause-second : goal.judge_table-requires-clause-second
judge_table-requires-clause-second c =
    All-head (λ s. s.0 < length c.args.table.now.signatures) c.in-Some-t.t (remaining_of c.next-in-loop-t.new.self)
    (subst (All (λ s. s.0 < length c.args.table.now.signatures)) c.in-Some-t.ensures.steps c.loop-t.invariant.known)

pub returns-in_err-judge_table-clause-judged : goal.returns-in_err-judge_table-clause-judged
returns-in_err-judge_table-clause-judged c =
    let table = c.args.table.now in
    let left = signatures_left table c.args.formats.1.0 (remaining_of c.next.new.self) in
    let is = signatures_with-cons c.in-Some.s.0 (remaining_of c.loop-t.t-iterator) (remaining_of c.next-in-loop-t.new.self) left c.in-Some-t.t
    c.in-Some-t.ensures.steps in
    let p = err_from_is_err_and c.from_residual.result c.from_residual.ensures.1 in
    rw (p.1, p.2) (tables_stop c.args.version table c.args.pair c.loop-t.at.table c.loop-t.at (c.in-Some.s.0, c.in-Some-t.t.0)
    (signatures_with c.in-Some.s.0 (remaining_of c.loop-t.t-iterator) ++ left)
    (signatures_with c.in-Some.s.0 (remaining_of c.next-in-loop-t.new.self) ++ left) c.loop-t.view c.args.view.now c.in_err-judge_table.field-0.0
    (TablesJudged c.args.version table c.args.pair 0 (signature_pairs table (c.args.formats.0.0, c.args.formats.1.0))) is c.loop-t.invariant.pair refl
    c.in_err-judge_table.ensures c.loop-t.invariant.judged)

pub loop-t-preserved : goal.loop-t-preserved
loop-t-preserved c =
    let table = c.args.table.now in
    let left = signatures_left table c.args.formats.1.0 (remaining_of c.next.new.self) in
    let rest = signatures_with c.in-Some.s.0 (remaining_of c.next-in-loop-t.new.self) ++ left in
    let is = signatures_with-cons c.in-Some.s.0 (remaining_of c.loop-t.t-iterator) (remaining_of c.next-in-loop-t.new.self) left c.in-Some-t.t
    c.in-Some-t.ensures.steps in
    record {
      judged = tables_go_on c.args.version table c.args.pair c.loop-t.at.table c.loop-t.at (c.in-Some.s.0, c.in-Some-t.t.0)
          (signatures_with c.in-Some.s.0 (remaining_of c.loop-t.t-iterator) ++ left) rest c.loop-t.view c.judge_table.new.view c.args.view.now
          (TablesJudged c.args.version table c.args.pair 0 (signature_pairs table (c.args.formats.0.0, c.args.formats.1.0))) is c.loop-t.invariant.pair refl
          c.in_ok-judge_table.ensures c.loop-t.invariant.judged;
      pair = c.loop-t.invariant.pair;
      few = (let long : length (signatures_with c.in-Some.s.0 (remaining_of c.loop-t.t-iterator) ++ left) ≡ length rest + 1 = ap length is ∙ omega arith in
          let few = c.loop-t.invariant.few in omega (arith, long, few));
      known = All-tail (λ s. s.0 < length table.signatures) c.in-Some-t.t (remaining_of c.next-in-loop-t.new.self)
          (subst (All (λ s. s.0 < length table.signatures)) c.in-Some-t.ensures.steps c.loop-t.invariant.known);
      first = c.loop-t.invariant.first;
      second = λ some. c.loop-t.invariant.second (some_ahead (remaining_of c.loop-t.t-iterator) (remaining_of c.next-in-loop-t.new.self) c.in-Some-t.t
          c.in-Some-t.ensures.steps);
    }

pub returns-in_err-judge_table-clause-first : goal.returns-in_err-judge_table-clause-first
returns-in_err-judge_table-clause-first c short = c.loop-t.invariant.first

pub returns-in_err-judge_table-clause-second : goal.returns-in_err-judge_table-clause-second
returns-in_err-judge_table-clause-second c short = c.loop-t.invariant.second
    (some_ahead (remaining_of c.loop-t.t-iterator) (remaining_of c.next-in-loop-t.new.self) c.in-Some-t.t c.in-Some-t.ensures.steps)
