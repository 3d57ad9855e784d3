use Rattle.std.proofs.Common.{◌≡◌, [], ◌∷◌, ◌++◌, ◌<◌, All, List, ap, length, map, subst, sym, ◌∙◌}
use Rattle.sig_engines.specs.Fates.{IsKnownFormat, fate_lines}
use Rattle.sig_engines.proofs.FateLemmas.{format_is_cut, format_is_told}
use Rattle.sig_find.specs.Leaving.{DecidesFormat}
use Rattle.sig_find.specs.Lives.{fate_of, format_fate}
use Rattle.sig_find.specs.declared.life.SignatureLife.{SignatureLife}
use Rattle.sig_engines.proofs.dead_engine.write_format.Goals as goal

pub lines_of_fate-requires-clause-signatures : goal.lines_of_fate-requires-clause-signatures
lines_of_fate-requires-clause-signatures g c = subst (All (λ (l : SignatureLife). l.signature.0 < length c.args.table.now.signatures))
    (sym c.deref.ensures.value) c.in_ok-fate.ensures.within

pub returns-clause-told : goal.returns-clause-told
returns-clause-told g c =
    let table = c.args.table.now in
    let lives : List SignatureLife = c.in_ok-fate.lives.items in
    let known : IsKnownFormat table c.args.budget (record { format = c.args.format.0; lives = lives }) = record {
      lives = c.in_ok-fate.ensures.lives;
      decides = subst (DecidesFormat table c.args.format.0) c.in_ok-fate.ensures.life c.in_ok-fate.ensures.decides;
    } in
    let is : c.as_str.result.now ≡ fate_lines c.args.with_hex table c.args.format.0 (format_fate lives) lives =
    c.as_str.ensures.value ∙ c.in_ok-lines.ensures ∙ ap (λ l. fate_lines c.args.with_hex table c.args.format.0 c.in_ok-fate.fate l) c.deref.ensures.value ∙ ap
    (λ f. fate_lines c.args.with_hex table c.args.format.0 f lives) c.in_ok-fate.ensures.life in
    format_is_told _ c.args.with_hex table c.args.budget c.args.format.0 lives c.args.found.now.formats.items _ c.args.found.now.signatures.items _
    c.as_str.result.now _ _ known
    (c.in_ok-push_fate.ensures ∙ ap (λ f. c.args.found.now.formats.items ++ f ∷ []) c.in_ok-fate.ensures.life)
    (c.in_ok-push_fates.ensures ∙ ap (λ (l : List SignatureLife). c.args.found.now.signatures.items ++ map (λ (f : SignatureLife). fate_of f.life) l)
    c.deref-2.ensures.value)
    is c.write_line.ensures.adds

pub returns-clause-cut : goal.returns-clause-cut
returns-clause-cut g c =
    let table = c.args.table.now in
    let lives : List SignatureLife = c.in_ok-fate.lives.items in
    let known : IsKnownFormat table c.args.budget (record { format = c.args.format.0; lives = lives }) = record {
      lives = c.in_ok-fate.ensures.lives;
      decides = subst (DecidesFormat table c.args.format.0) c.in_ok-fate.ensures.life c.in_ok-fate.ensures.decides;
    } in
    let is : c.as_str.result.now ≡ fate_lines c.args.with_hex table c.args.format.0 (format_fate lives) lives =
    c.as_str.ensures.value ∙ c.in_ok-lines.ensures ∙ ap (λ l. fate_lines c.args.with_hex table c.args.format.0 c.in_ok-fate.fate l) c.deref.ensures.value ∙ ap
    (λ f. fate_lines c.args.with_hex table c.args.format.0 f lives) c.in_ok-fate.ensures.life in
    format_is_cut _ c.args.with_hex table c.args.budget c.args.format.0 lives c.as_str.result.now _ _ _ known is c.write_line.ensures.cut
