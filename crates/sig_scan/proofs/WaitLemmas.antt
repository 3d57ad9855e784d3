-- What a sequence waits for: at the beginning, behind more bytes, behind a first end, and past what
-- was tried.
use Rattle.sig_scan.proofs.Common.{ℕ, ◌+◌, ◌≤◌, ◌<◌, List, [], ◌∷◌, ◌++◌, length, Option, append_assoc, arith, subst, sym, ◌↔◌, append-nil, All-append, All-nil}
use Rattle.sig_scan.proofs.Common.{IsBytes, IsAtMost, Stands, SequenceView, AreBounded, span, Lies, InTurn, IsFirstEnd, StageView, TailView, Waits, course_of}
use Rattle.sig_scan.proofs.Common.{◌∙◌, Bool, ap, false, refl, true, Item, HasSight, Follows}
use Rattle.sig_scan.proofs.CutLemmas.{Stands-in_turn}
use Rattle.sig_scan.proofs.LengthLemmas.{Lies-in_sight}
use Rattle.sig_scan.proofs.TurnLemmas.{InTurn-first, InTurn-past, IsFirstEnd-seen}

pub Waits-fresh : (s : SequenceView) → Waits false s [] (course_of s).from (course_of s).stages (course_of s).tail
Waits-fresh s = record { residual = λ more bytes. Stands-in_turn s.position s.items more bytes }

pub Waits-fed : (s : SequenceView) (file piece : List ℕ) (from : ℕ) (stages : List StageView) (tail : Option TailView) → IsBytes piece
    → Waits false s file from stages tail → Waits false s (file ++ piece) from stages tail
Waits-fed s file piece from stages tail bytes waits = record {
  residual = λ more later.
      subst (λ (l : List ℕ). Stands s l ↔ InTurn l from stages tail) (sym (append_assoc file piece more))
      (waits.residual (piece ++ more) (All-append (λ b. b < 256) piece more bytes later));
}

pub Waits-advanced : (is_last : Bool) (s : SequenceView) (t : StageView) (file : List ℕ) (from end : ℕ) (stages : List StageView) (tail : Option TailView)
    → IsFirstEnd t file from end → Waits is_last s file from (t ∷ stages) tail → Waits is_last s file (end + t.delay) stages tail
Waits-advanced is_last s t file from end stages tail first waits = record {
  residual = λ more follows.
      let before = waits.residual more follows in
      let behind = InTurn-first (file ++ more) t stages tail from end (IsFirstEnd-seen t file more from end first) in
      (λ stands. behind.0 (before.0 stands), λ turn. before.1 (behind.1 turn));
}

-- a word that begins in sight ends in the bytes
Lies-sighted : (is_last : Bool) (items : List Item) (file more : List ℕ) (start end later : ℕ) → AreBounded items
    → HasSight is_last later (span items) (length file) → start < later → Follows is_last more → Lies items (file ++ more) start end → Lies items file start end
Lies-sighted false items file more start end later bounded sight low follows l = Lies-in_sight items file more start end bounded (omega arith) l
Lies-sighted true items file more start end later bounded sight low none l =
    subst (λ (f : List ℕ). Lies items f start end) (append-nil file) (subst (λ (m : List ℕ). Lies items (file ++ m) start end) none l)

pub Waits-past : (is_last : Bool) (s : SequenceView) (t : StageView) (file : List ℕ) (from later : ℕ) (stages : List StageView) (tail : Option TailView)
    → AreBounded t.items → from ≤ later → HasSight is_last later (span t.items) (length file)
    → ((start end : ℕ) → from ≤ start → start < later → IsAtMost t.until start → ¬ Lies t.items file start end) → Waits is_last s file from (t ∷ stages) tail
    → Waits is_last s file later (t ∷ stages) tail
Waits-past is_last s t file from later stages tail bounded order sight none waits = record {
  residual = λ more follows.
      let before = waits.residual more follows in
      let behind = InTurn-past (file ++ more) t stages tail from later order
      (λ start end low high at l. none start end low high at (Lies-sighted is_last t.items file more start end later bounded sight high follows l)) in
      (λ stands. behind.0 (before.0 stands), λ turn. before.1 (behind.1 turn));
}

follows-none : (is_last : Bool) → Follows is_last []
follows-none false = All-nil (λ b. b < 256)
follows-none true = refl

pub Waits-judged : (is_last : Bool) (s : SequenceView) (file : List ℕ) (from : ℕ) (stages : List StageView) (tail : Option TailView)
    → Waits is_last s file from stages tail → Stands s file ↔ InTurn file from stages tail
Waits-judged is_last s file from stages tail waits =
    subst (λ (l : List ℕ). Stands s l ↔ InTurn l from stages tail) (append-nil file) (waits.residual [] (follows-none is_last))

-- at the end of the file
pub Waits-last : (s : SequenceView) (file : List ℕ) (from : ℕ) (stages : List StageView) (tail : Option TailView) → Stands s file ↔ InTurn file from stages tail
    → Waits true s file from stages tail
Waits-last s file from stages tail is = record {
  residual = λ more none.
      subst (λ (l : List ℕ). Stands s l ↔ InTurn l from stages tail) (sym (ap (λ (m : List ℕ). file ++ m) none ∙ append-nil file)) is;
}
