use Rattle.std.proofs.Common.{codes, sym, ◌∙◌}
use Rattle.clap.specs.Matches.{found_of}
use Rattle.sig_command.proofs.RowLemmas.{first_of-rows, flag_is_read}
use Rattle.sig_command.proofs.args.match_options.Goals as goal

pub returns : goal.returns
returns c = record {
  all = flag_is_read (found_of c.args.matches.now) (codes "all") _ c.get_flag.ensures.value c.get_flag.ensures.other c.get_flag.ensures.none;
  csv = flag_is_read (found_of c.args.matches.now) (codes "csv") _ c.get_flag-2.ensures.value c.get_flag-2.ensures.other c.get_flag-2.ensures.none;
  names = first_of-rows (found_of c.args.matches.now) (codes "FORMATS") ∙ sym c.get_str.ensures;
  recursive = flag_is_read (found_of c.args.matches.now) (codes "recursive") _ c.get_flag-3.ensures.value c.get_flag-3.ensures.other c.get_flag-3.ensures.none;
  progress = flag_is_read (found_of c.args.matches.now) (codes "progress") _ c.get_flag-4.ensures.value c.get_flag-4.ensures.other c.get_flag-4.ensures.none;
  summary = flag_is_read (found_of c.args.matches.now) (codes "summary") _ c.get_flag-5.ensures.value c.get_flag-5.ensures.other c.get_flag-5.ensures.none;
}
