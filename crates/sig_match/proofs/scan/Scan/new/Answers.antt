use Rattle.std.proofs.Common.{[], arith}
use Rattle.std.proofs.lemmas.Slice.Zip.{AllZip-long}
use Rattle.sig_table.specs.Views.{SignatureView}
use Rattle.sig_match.specs.Scans.{AreSequenceScansOf}
use Rattle.sig_match.proofs.scan.Scan.new.Goals as goal

pub invariant_of-result : goal.invariant_of-result
invariant_of-result c = (
  c.signature_count-count.ensures.table,
  AllZip-long (λ (s : SignatureView). AreSequenceScansOf [] s.sequences) c.args.table.now.signatures c.in_ok-scans_of.field-0.items c.in_ok-scans_of.ensures,
  let ok = c.in_ok-vec.field-0.ok.0 in omega (arith, c.in_ok-vec.ensures.len, c.signature_count-count.ensures.count),
  omega (arith, c.in_ok-with_capacity.ensures.capacity, c.format_count.ensures.count),
)
