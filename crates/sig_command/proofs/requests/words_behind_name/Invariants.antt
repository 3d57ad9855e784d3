use Rattle.std.proofs.Common.{◌≡◌, ◌++◌, drop}
use Rattle.std.specs.Vec.Iter.{into_iter_items, into_iter_len}
use Rattle.sig_command.proofs.requests.words_behind_name.Given as goal

-- the words that are taken, and behind them those that are not
abbrev pub invariant-words : goal.invariant-words
invariant-words l = l.rest.items ++ into_iter_items l.words ≡ drop 1 (into_iter_items l.fn.words)

abbrev pub decreases-words : goal.decreases-words
decreases-words l = into_iter_len l.words
