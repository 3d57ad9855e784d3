use Rattle.std.proofs.Common.{refl, rules}
use Rattle.sig_command.proofs.requests.judge_formats.Goals as goal

pub returns-clause-refused : goal.returns-clause-refused
returns-clause-refused g c = record {
  is = search rules;
  write = search rules;
  untouched = λ none. absurd (none c.in-Err.cut refl);
  lists = tt;
  whole = search rules;
}
