use Rattle.sig_scan.proofs.Common.{◌≡◌, ◌∙◌, ap, arith, length, rules, sym, nil_from_length}
use Rattle.sig_scan.proofs.literal.Literal.is_found_whole.Goals as goal

pub returns-then-is_empty-clause-same : goal.returns-then-is_empty-clause-same
returns-then-is_empty-clause-same c _ =
    let text = ap length c.text-text.ensures.text in
    let other = ap length c.other-other.ensures.other in
    let len = c.other-other.ensures.len in
    let none : length c.args.self.now.text ≡ 0 = search rules in
    nil_from_length c.args.self.now.text none ∙ sym (nil_from_length c.args.self.now.other (omega arith))
