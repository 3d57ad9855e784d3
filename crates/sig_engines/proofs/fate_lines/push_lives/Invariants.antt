use Rattle.std.proofs.Common.{◌≡◌, ◌++◌, flat_map, string_bytes, take}
use Rattle.sig_engines.specs.Fates.{life_line}
use Rattle.sig_engines.proofs.fate_lines.push_lives.Given as goal

abbrev pub invariant-loop-life : goal.invariant-loop-life
invariant-loop-life l = string_bytes l.lines ≡ string_bytes l.fn.lines ++ flat_map (λ f. life_line l.with_hex l.table l.format.0 f.signature.0 f.life)
    (take l.life-index l.lives)
