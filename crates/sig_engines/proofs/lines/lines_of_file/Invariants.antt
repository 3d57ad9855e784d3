use Rattle.std.proofs.Common.{◌≡◌, ◌++◌, string_bytes, take}
use Rattle.std.specs.Prelude.{flat_map, option_map}
use Rattle.sig_engines.specs.Lines.{line_head, line_of}
use Rattle.sig_engines.proofs.lines.lines_of_file.Given as goal

-- the lines of the hits so far
abbrev pub invariant-loop-hit : goal.invariant-loop-hit
invariant-loop-hit l = string_bytes l.lines ≡ flat_map (λ hit. line_head (option_map (λ n. n.now) l.name) ++ line_of l.table hit) (take l.hit-index l.hits)
