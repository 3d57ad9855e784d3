use Rattle.sig_table.proofs.PriorityTextLemmas.{pair_is_read, pair_is_spelled}
use Rattle.sig_table.proofs.laws.pairs_are_spelled.Goals as goal

pub returns : goal.returns
returns c formats puids different n fields pair = (
  λ h. pair_is_spelled formats n fields pair h,
  λ text. pair_is_read formats puids different n fields pair text,
)
