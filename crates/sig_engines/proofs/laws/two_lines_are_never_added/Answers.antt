use Rattle.sig_cert.proofs.Exports.{one_is_left}
use Rattle.sig_engines.proofs.laws.two_lines_are_never_added.Goals as goal

pub returns-clause-alone : goal.returns-clause-alone
returns-clause-alone c table to_come before after decided adds =
    let lines = adds.adds_lines in
    (lines.hits, one_is_left table adds.file lines.hits decided adds.bytes lines.are_asked, lines.adds)

pub returns-clause-named : goal.returns-clause-named
returns-clause-named c table name to_come lines decided are =
    let asked = are.are_asked in
    (are.hits, one_is_left table asked.file are.hits decided asked.bytes asked.are_asked, are.are_lines)
