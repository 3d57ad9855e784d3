use Rattle.sig_scan.proofs.Common.{◌≡◌, ap, ◌+◌, ◌<◌, ◌∙◌, All, Bool, List, Some, arith, false, length, subst, sym, true, ℕ, set, length-set, slice_get-get_or}
use Rattle.sig_scan.proofs.Common.{slice_get_within, slice_get, slice_get-within, TableView, AreSequencesOf, ProgramView, EndsPast, IsScanOf, ScanView}
use Rattle.sig_scan.proofs.Common.{AreNeeded}
use Rattle.sig_scan.proofs.MarkedLemmas.{AreMarked-all, AreMarkedTo, AreMarkedTo-none, AreMarkedTo-set, AreMarkedTo-skip}
use Rattle.sig_scan.proofs.ScanLemmas.{All-at}
use Rattle.sig_scan.proofs.scan.Scan.finish.Goals as goal
use Rattle.sig_scan.proofs.scan.Scan.finish.Goals.{then-marks-signature, else-marks-signature}

pub loop-k-init : goal.loop-k-init
loop-k-init c =
    let same : c.copy_from_slice.new.self ≡ c.close.new.self.may_hit =
    c.copy_from_slice.ensures.after ∙ c.deref.ensures.value ∙ ap (λ (v : ScanView). v.may_hit) c.self.view_is in
    let Owned : ScanView → Type 0 = λ v. (λ (l : List Bool). All (λ g. g < length l) c.self.inside.program.now.owners) v.may_hit in
    record {
      program = ap (λ (v : ScanView). v.program) (sym c.self.view_is);
      owned = subst (λ (l : List Bool). All (λ g. g < length l) c.self.inside.program.now.owners) (sym same)
          (subst Owned c.self.view_is c.self.invariant.owned);
      past = c.close.ensures.past;
      len = ap length same;
      marked = λ table file of.
          let known = c.close.ensures.of table file of in (
            known,
            subst (λ l. AreMarkedTo 0 table file c.self.inside.program.now.owners known.sequences c.close.new.self.may_hit l) (sym same)
                (AreMarkedTo-none table file c.self.inside.program.now.owners known.sequences c.close.new.self.may_hit known.excluded),
          );
    }

pub bounds-marks-signature : goal.bounds-marks-signature
bounds-marks-signature c =
    All-at (λ g. g < length c.loop-k.marks) _ c.loop-k.k c.signature_of-signature.result c.signature_of-signature.ensures c.loop-k.invariant.owned

pub stands-requires : goal.stands-requires
stands-requires c =
    let count = c.sequence_count-k-end.ensures.courses in
    let same = ap (λ (v : ProgramView). length v.courses) c.loop-k.invariant.program in
    omega arith

pub loop-k-preserved : goal.loop-k-preserved
loop-k-preserved c =
    let k = c.loop-k.k in
    let marks = c.loop-k.marks in
    let self = c.loop-k.self in
    let own = c.signature_of-signature.result in
    let program : ProgramView = c.self.inside.program.now in
    let owner : slice_get program.owners k ≡ Some own = c.signature_of-signature.ensures in
    let inside : own < length marks = All-at (λ g. g < length marks) program.owners k own owner c.loop-k.invariant.owned in
    let Now : ScanView → List Bool → Type 0 = λ v l. (v.program ≡ program) × EndsPast v × (length l ≡ length v.may_hit)
    × ((table : TableView) (file : List ℕ) → IsScanOf table file c.args.self.now
    → (of : IsScanOf table file v) × AreMarkedTo (k + 1) table file program.owners of.sequences v.may_hit l) in
    let long = c.if-marks-signature.auto.marks in
    let now : Now c.if-marks-signature.self c.if-marks-signature.marks =
    elim c.if-marks-signature.branch [
      | then-marks-signature w ↦ subst (λ v. Now v c.if-marks-signature.marks) (sym w.self-is)
          (subst (Now w.stands.new.self) (sym w.marks-is) (subst (λ v. Now v (set marks own w.stands.result)) (sym w.stands.ensures.same) (
            c.loop-k.invariant.program,
            c.loop-k.invariant.past,
            length-set marks own w.stands.result ∙ c.loop-k.invariant.len,
            λ table file of. (
                let was = c.loop-k.invariant.marked table file of in
                let known = was.0 in
                let mark : slice_get marks own ≡ Some true = slice_get-get_or marks own false inside ∙ ap (λ (b : Bool). Some b) w.if-marks-signature.true in
                let low = slice_get_within program.owners k own owner in
                let many : length known.sequences ≡ length program.owners = known.are.count ∙ ap (λ (v : ProgramView). length v.owners)
                c.loop-k.invariant.program in
                let s = slice_get-within known.sequences k (omega arith) in
                let needed = subst (λ (v : ProgramView). AreNeeded table v.owners known.sequences) c.loop-k.invariant.program known.are.needed in
                let own_is = subst (λ (v : ProgramView). slice_get v.owners k ≡ Some own) (sym c.loop-k.invariant.program) owner in (
                  known,
                  AreMarkedTo-set k own table file program.owners known.sequences self.may_hit marks w.stands.result s.0 inside mark owner s.1 needed
                      (w.stands.ensures.stands table file known own s.0 c.loop-k.invariant.past own_is (was.1.still own mark) s.1) was.1,
                )),
          )))
      | else-marks-signature w ↦ subst (λ v. Now v c.if-marks-signature.marks) (sym w.self-is) (subst (Now self) (sym w.marks-is) (
        c.loop-k.invariant.program,
        c.loop-k.invariant.past,
        c.loop-k.invariant.len,
        λ table file of. (
            let was = c.loop-k.invariant.marked table file of in
            let mark : slice_get marks own ≡ Some false = slice_get-get_or marks own false inside ∙ ap (λ (b : Bool). Some b) w.if-marks-signature.false in
            (was.0, AreMarkedTo-skip k own table file program.owners was.0.sequences self.may_hit marks mark owner was.1)),
      ))
    ] in
    record {
      program = now.0;
      owned = subst (λ n. All (λ g. g < n) program.owners) (sym long) c.loop-k.invariant.owned;
      past = now.1;
      len = now.2;
      marked = now.3;
    }

pub returns-clause-of : goal.returns-clause-of
returns-clause-of c table file of = (c.loop-k.invariant.marked table file of).0

pub returns-clause-marks : goal.returns-clause-marks
returns-clause-marks c table file of =
    let marked = c.loop-k.invariant.marked table file of in
    let known = marked.0 in
    let program : ProgramView = c.self.inside.program.now in
    let count = c.sequence_count-k-end.ensures.owners in
    let done = c.loop-k-test.false in
    AreMarked-all c.loop-k.k table file program.owners known.sequences c.loop-k.self.may_hit c.loop-k.marks (omega arith)
    (subst (λ (v : ProgramView). AreSequencesOf table v.owners known.sequences) c.loop-k.invariant.program known.are) marked.1
    (c.loop-k.invariant.len ∙ known.size)
