use Rattle.sig_auto.proofs.BeginLemmas.{not_answer, outside_answer, range_answer}
use Rattle.sig_auto.proofs.start.bytes_of_atom.Goals as goal

pub returns-in-Range : goal.returns-in-Range
returns-in-Range c b small =
    range_answer c.args.atom.now c.in-Range.a c.in-Range.b c.as_bytes.result.now c.as_bytes-in-Range.result.now b c.in-Range.is c.as_bytes.ensures.bytes
    c.as_bytes-in-Range.ensures.bytes c.requires (c.range.ensures b)

pub returns-in-Not : goal.returns-in-Not
returns-in-Not c b small =
    not_answer c.args.atom.now c.in-Not.a c.as_bytes-in-Not.result.now c.as_bytes-in-Not-2.result.now b c.in-Not.is c.as_bytes-in-Not.ensures.bytes
    c.as_bytes-in-Not-2.ensures.bytes small c.requires (c.bytes_outside.ensures b small)

pub returns-in-NotRange : goal.returns-in-NotRange
returns-in-NotRange c b small =
    outside_answer c.args.atom.now c.in-NotRange.a c.in-NotRange.b c.as_bytes-in-NotRange.result.now c.as_bytes-in-NotRange-2.result.now b c.in-NotRange.is
    c.as_bytes-in-NotRange.ensures.bytes c.as_bytes-in-NotRange-2.ensures.bytes small c.requires (c.bytes_outside-in-NotRange.ensures b small)
