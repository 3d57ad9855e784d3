use Rattle.std.proofs.Common.{◌≡◌, drop}
use Rattle.sig_command.specs.CommandLine.{names_priorities, texts_of}
use Rattle.sig_command.proofs.args.names_priorities.Given as goal

-- no word so far decides it
abbrev pub invariant-loop-word : goal.invariant-loop-word
invariant-loop-word l = names_priorities (texts_of (drop l.word-index l.words)) ≡ names_priorities (texts_of l.words)
