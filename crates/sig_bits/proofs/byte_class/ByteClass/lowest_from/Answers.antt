use Rattle.std.proofs.Common.{◌≡◌, ◌/◌, ◌+◌, ⊎_elim, arith, rules, subst, sym, None, Some}
use Rattle.std.proofs.lemmas.Bool.{cases_lt}
use Rattle.sig_bits.specs.ByteClasses.{Holds, IsLowestFrom}
use Rattle.sig_bits.specs.Joined.{IsFirstNonzero}
use Rattle.sig_bits.proofs.BitLemmas.{HasBit-within, lowest_from_here, lowest_of_byte, none_up_to}
use Rattle.sig_bits.proofs.byte_class.ByteClass.lowest_from.Goals as goal

pub returns-then-from-ge256 : goal.returns-then-from-ge256
unfolding Holds
returns-then-from-ge256 c = λ b low has. omega (arith, HasBit-within c.args.self.now.bits b has)

pub overflow_cast-result-then-rest-ne0 : goal.overflow_cast-result-then-rest-ne0
overflow_cast-result-then-rest-ne0 c =
    let bits = c.args.self.now.bits in
    let found = lowest_from_here bits c.args.from (search rules) c.if-rest-ne0.true in
    omega (arith, HasBit-within bits _ found.0)

pub returns-then-rest-ne0 : goal.returns-then-rest-ne0
unfolding Holds
returns-then-rest-ne0 c =
    let found = lowest_from_here c.args.self.now.bits c.args.from (search rules) c.if-rest-ne0.true in
    (omega arith, found.0, found.1)

pub returns-in_err-k : goal.returns-in_err-k
unfolding Holds
returns-in_err-k c =
    let bits = c.args.self.now.bits in
    let none : c.first_nonzero.result ≡ None = search rules in
    let empty = subst (IsFirstNonzero bits (c.args.from / 8 + 1)) none c.first_nonzero.ensures in
    subst (IsLowestFrom c.args.self.now c.args.from) (let is : c.from_residual.result ≡ None = search rules in sym is)
    (λ b low has. none_up_to bits c.args.from (b / 8 + 1) b c.if-rest-ne0.false (λ j next below. empty j next) low (omega arith) has)

pub returns : goal.returns
unfolding Holds
returns c =
    let bits = c.args.self.now.bits in
    let k = c.in_ok-k.k in
    let some : c.first_nonzero.result ≡ Some k = search rules in
    let place = subst (IsFirstNonzero bits (c.args.from / 8 + 1)) some c.first_nonzero.ensures in
    let found = lowest_of_byte bits k (search rules) place.2 in (
      omega (arith, place.0),
      found.0,
      λ a low below has.
          ⊎_elim (λ before. none_up_to bits c.args.from k a c.if-rest-ne0.false place.3 low before has)
          (λ here. found.1 a (omega (arith, here)) below has)
          (cases_lt (a / 8) k),
    )
