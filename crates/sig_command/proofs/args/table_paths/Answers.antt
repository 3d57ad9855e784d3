use Rattle.std.proofs.Common.{◌≡◌, codes, sym, ◌∙◌, None, Some}
use Rattle.clap.specs.Matches.{found_of}
use Rattle.sig_command.proofs.RowLemmas.{first_of-rows}
use Rattle.sig_command.proofs.args.table_paths.Goals as goal

pub returns-clause-named : goal.returns-clause-named
returns-clause-named c = record {
  signatures = first_of-rows (found_of c.args.matches.now) (codes "SIGS") ∙ sym c.in_ok-get_str.ensures;
  priorities = first_of-rows (found_of c.args.matches.now) (codes "PRIOS") ∙ sym c.get_str-2.ensures;
}

pub returns-in_err-get_str-clause-none : goal.returns-in_err-get_str-clause-none
returns-in_err-get_str-clause-none c = λ is words named.
    let none : None ≡ Some words.signatures.now = c.in_err-get_str.ensures ∙ sym (first_of-rows (found_of c.args.matches.now) (codes "SIGS")) ∙ named.signatures
    in
    cc
