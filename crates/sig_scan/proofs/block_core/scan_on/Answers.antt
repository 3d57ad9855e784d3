use Rattle.sig_scan.proofs.Common.{◌∙◌, ◌≡◌, List, ap, arith, subst, sym, ℕ, AreExcluded, BufferView, IsScanOf}
use Rattle.sig_scan.proofs.ReadLemmas.{HitFormatsOfSome-read, IsRead-more}
use Rattle.sig_scan.proofs.block_core.scan_on.Goals as goal

pub returns-then-not-is_full-clause-hits : goal.returns-then-not-is_full-clause-hits
returns-then-not-is_full-clause-hits g c before given =
    let table = c.args.table.now in
    let bytes : List ℕ = c.args.buffer.bytes in
    let same : c.trimmed.result.bytes ≡ bytes = ap (λ (b : BufferView). b.bytes) c.trimmed.ensures in
    let of = subst (λ l. IsScanOf table l c.in_ok-scan.scan) same (c.in_ok-scan.ensures.fresh table c.requires.begun.is_program c.requires.begun.size
    (subst (AreExcluded table c.args.may_hit.items) (sym same) c.requires.excluded)) in
    HitFormatsOfSome-read c.in_ok-scan.scan table before _ c.in_ok-results_of.field-0 (c.requires.begun.at_end (c.is_full.ensures.free c.if-not-is_full.true))
    c.in_ok-results_of.ensures (record { file = bytes; bytes = c.requires.begun.bytes; is_of = of; given = given })

pub reads-init : goal.reads-init
reads-init g c =
    let table = c.args.table.now in
    let bytes : List ℕ = c.args.buffer.bytes in
    let scan = c.in_ok-scan-2.scan in
    let same : c.in_ok-buffer.buffer.bytes ≡ bytes = ap (λ (b : BufferView). b.bytes) c.in_ok-buffer.ensures in
    let of = subst (λ l. IsScanOf table l scan) same (c.in_ok-scan-2.ensures.fresh table c.requires.begun.is_program c.requires.begun.size
    (subst (AreExcluded table c.args.may_hit.items) (sym same) c.requires.excluded)) in
    let keep = c.in_ok-scan-2.ensures.sizes.keep in
    let room = c.in_ok-scan-2.ensures.sizes.room in
    let grown = ap (λ (b : BufferView). b.room) c.in_ok-buffer.ensures in
    let block = c.requires.begun.some in
    record {
      read = λ before given. record { file = bytes; bytes = c.requires.begun.bytes; is_of = of; given = given };
      room = omega arith;
      len = c.in_ok-scan-2.ensures.sizes.len ∙ c.requires.begun.size;
    }

pub returns-then-not-branch-clause-hits : goal.returns-then-not-branch-clause-hits
returns-then-not-branch-clause-hits g c before given =
    HitFormatsOfSome-read c.read_on.new.self c.args.table.now _ _ c.in_ok-results_of-2.field-0 (c.in_ok-read_on.ensures.reads.at_end c.if-not-branch.true)
    c.in_ok-results_of-2.ensures
    (IsRead-more c.reads.scan c.read_on.new.self c.args.table.now _ _ _ c.in_ok-read_on.ensures.read (c.reads.invariant.read before given))

pub reads-preserved : goal.reads-preserved
reads-preserved g c = record {
  read = λ before given.
      IsRead-more c.reads.scan c.read_on.new.self c.args.table.now _ _ _ c.in_ok-read_on.ensures.read (c.reads.invariant.read before given);
  room = c.read_on.ensures.room;
  len = c.read_on.ensures.len ∙ c.reads.invariant.len;
}
