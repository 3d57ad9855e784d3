use borrow.Rule.Slice.PartMut.{same_len_mid}
use Rattle.sig_scan.proofs.Common.{◌≡◌, ◌-◌, false, true, arith, length, ◌∙◌, sym}
use Rattle.sig_scan.proofs.ReadLemmas.{false_from_not, filled_more, gives_on}
use Rattle.sig_scan.proofs.buffer.read_up_to.Goals as goal

pub reads-preserved : goal.reads-preserved
reads-preserved g c =
    let filled = c.reads.filled in
    let low = c.reads.invariant.some in
    let room = c.read.auto.buf in
    let long = same_len_mid filled (length c.reads.room - filled) c.reads.room c.read.new.buf room in
    let within = c.in_ok-n.ensures.reads.within in
    let other = c.if-filled-room.false in
    let sound : g.R.Input.failed c.reads.input ≡ false = false_from_not _ (λ t. let lie : false ≡ true = c.in_ok-n.ensures.stays_failed t in cc) in
    record {
      some = omega arith;
      given = gives_on _ _ _ _ _ _ (filled_more filled c.in_ok-n.n (length c.reads.room - filled) c.reads.room c.read.new.buf (omega arith) within)
          c.reads.invariant.given c.in_ok-n.ensures.reads.gives;
      lowered = omega (arith, c.in_ok-n.ensures.lowers, c.reads.invariant.lowered);
      failed = c.in_ok-n.ensures.fails ∙ sym sound ∙ c.reads.invariant.failed;
    }
