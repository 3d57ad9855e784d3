use Rattle.std.proofs.Common.{◌≡◌, ◌+◌, ◌*◌, get_or, take, arith, below_more, ap, ◌∙◌, sym, Some}
use Rattle.std.specs.Int.{IsInRange}
use Rattle.std.specs.Str.Parse.{digits_value}
use Rattle.std.proofs.lemmas.Str.Parse.{digit_at}
use Rattle.std.proofs.lemmas.List.{take_all}
use Rattle.sig_table.proofs.NumberLemmas.{AllDigits-from_each, digits_number-none, digits_number-some, digits_value-short, digits_value-step}
use Rattle.sig_table.proofs.numbers.value_of.Goals as goal

pub returns-then-not-is_ascii_digit : goal.returns-then-not-is_ascii_digit
returns-then-not-is_ascii_digit c =
    let other = rw c.if-not-is_ascii_digit.true at c.is_ascii_digit.ensures.cases in
    sym (digits_number-none c.args.text.now (λ all.
    let digit : IsInRange 48 57 (get_or c.args.text.now c.loop-b.b-index 0) = digit_at c.args.text.now c.loop-b.b-index all c.loop-b-test.true in
    grind arith))

pub overflow_mul-value : goal.overflow_mul-value
overflow_mul-value c =
    let small = digits_value-short c.args.text.now c.loop-b.b-index (omega arith) (omega arith) c.loop-b.invariant.digits in
    let value = c.loop-b.invariant.value in
    omega arith

pub overflow_add-value : goal.overflow_add-value
overflow_add-value c =
    let small = digits_value-short c.args.text.now c.loop-b.b-index (omega arith) (omega arith) c.loop-b.invariant.digits in
    let value = c.loop-b.invariant.value in
    let digit = rw c.if-not-is_ascii_digit.false at c.is_ascii_digit.ensures.cases in
    let from = c.from.ensures in
    omega arith

pub loop-b-preserved : goal.loop-b-preserved
loop-b-preserved c =
    let digit = rw c.if-not-is_ascii_digit.false at c.is_ascii_digit.ensures.cases in
    let step = digits_value-step c.args.text.now c.loop-b.b-index c.loop-b-test.true digit in
    record {
      value = ap (λ v. v * 10 + c.from.result) c.loop-b.invariant.value ∙ ap (λ d. digits_value 10 (take c.loop-b.b-index c.args.text.now) * 10 + d)
          c.from.ensures ∙ sym step;
      digits = below_more _ _ c.loop-b.invariant.digits digit;
    }

pub returns : goal.returns
returns c =
    let all : take c.loop-b.b-index c.args.text.now ≡ c.args.text.now = take_all c.loop-b.b-index c.args.text.now (omega arith) in
    let digits = AllDigits-from_each c.args.text.now (λ k lt. c.loop-b.invariant.digits k (omega arith)) in
    ap (λ v. Some v) (c.loop-b.invariant.value ∙ ap (λ t. digits_value 10 t) all) ∙ sym (digits_number-some c.args.text.now digits)
