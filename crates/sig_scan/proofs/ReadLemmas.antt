-- A file that is read: what a scan has of it, and which hits its marks give.
use borrow.Rule.Slice.PartMut.{post_of, put_mid}
use Rattle.sig_scan.proofs.Common.{◌≡◌, ◌∙◌, ℕ, ◌+◌, ◌≤◌, ◌<◌, inl, inr, ap, append_assoc, arith, Bool, false, true, length, List, ◌++◌, None, Option, refl}
use Rattle.sig_scan.proofs.Common.{Some, subst, sym, take, take-append-add, false≢true, append-nil, get_or_past, length-take-le, take-append-le, take_all}
use Rattle.sig_scan.proofs.Common.{All-append, slice_get_cases, slice_get, IfSome, IsSomeAnd, IsBytes, Gives, IsAtEnd, MarksHits, HitFormats, HitFormatsOfSome}
use Rattle.sig_scan.proofs.Common.{Hit, AreMarked, HasRead, IsScanOf, ScanView, Hits, SignatureView, TableView}

some_that : (o : Option SignatureView) (P : SignatureView → Type 0) → IsSomeAnd o P → (s : SignatureView) × (o ≡ Some s) × P s
some_that None P h = absurd h
some_that (Some s) P h = (s, refl, h)

-- the marks of a scan say which signatures hit
pub MarksHits-from_marked : (table : TableView) (file : List ℕ) (marks : List Bool) → length marks ≡ length table.signatures
    → AreMarked table file marks → MarksHits table file marks
MarksHits-from_marked table file marks len marked = record {
  sound = λ index mark.
      elim (slice_get_cases table.signatures index).1 [
        | inl here ↦ (
            let known = (marked index here.0 here.2).0 mark in
            let P : Option SignatureView → Type 0 = λ o. IsSomeAnd o (λ s. Hits s file) in
            subst P (sym here.2) known)
        | inr past ↦ absurd (false≢true (sym (get_or_past marks index false (omega (arith, past.0))) ∙ mark))
      ];
  complete = λ index hit.
      let at = some_that (slice_get table.signatures index) (λ s. Hits s file) hit in
      (marked index at.0 at.1).1 at.2;
}

-- what is read so far is what the input has given
pub record IsRead (scan : ScanView) (table : TableView) (before after : Option (List ℕ)) : Type 0 where
  pub file : List ℕ
  pub bytes : IsBytes file
  pub is_of : IsScanOf table file scan
  pub given : Gives before file after

gives_more : (a b c : Option (List ℕ)) (x y : List ℕ) → Gives a x b → Gives b y c → Gives a (x ++ y) c
gives_more None b c x y h k = tt
gives_more (Some xs) None c x y h k = absurd h
gives_more (Some xs) (Some ys) None x y h k = absurd k
gives_more (Some xs) (Some ys) (Some zs) x y h k = h ∙ ap (λ l. x ++ l) k ∙ sym (append_assoc x y zs)

pub gives_on : (a b c : Option (List ℕ)) (x y z : List ℕ) → z ≡ x ++ y → Gives a x b → Gives b y c → Gives a z c
gives_on a b c x y z is first second = subst (λ l. Gives a l c) (sym is) (gives_more a b c x y first second)

-- and what it gives behind that
pub IsRead-more : (old new : ScanView) (table : TableView) (before at after : Option (List ℕ))
    → ((t : TableView) (file : List ℕ) → IsScanOf t file old → HasRead t file at after new) → IsRead old table before at → IsRead new table before after
IsRead-more old new table before at after step read =
    let more = step table read.file read.is_of in
    record {
      file = read.file ++ more.piece;
      bytes = All-append (λ b. b < 256) read.file more.piece read.bytes more.bytes;
      is_of = more.is_of;
      given = gives_more before at after read.file more.piece read.given more.given;
    }

gives_all : (before after : Option (List ℕ)) (file : List ℕ) → Gives before file after → IsAtEnd after → IfSome before (λ bytes. file ≡ bytes)
gives_all None after file given end = tt
gives_all (Some bytes) None file given end = absurd given
gives_all (Some bytes) (Some rest) file given end = sym (given ∙ ap (λ l. file ++ l) end ∙ append-nil file)

-- all is read
pub HitFormatsOfSome-read : (scan : ScanView) (table : TableView) (before at : Option (List ℕ)) (hits : List Hit) → IsAtEnd at
    → ((file : List ℕ) → IsScanOf table file scan → HitFormats table file hits) → IsRead scan table before at → HitFormatsOfSome table before hits
HitFormatsOfSome-read scan table before at hits end finish read = record {
  file = read.file;
  bytes = read.bytes;
  is_to_come = gives_all before at read.file read.given end;
  hit_formats = finish read.file read.is_of;
}

-- what is written over a whole buffer
pub written : {A : Type 0} (to back : List A) (len : ℕ) → length to ≡ len → take len (to ++ back) ≡ to
written to back len all = take-append-le len to back (omega arith) ∙ take_all len to (omega arith)

-- the filled front of a room, and what was read behind it
pub filled_more : (filled n k : ℕ) (room buf : List ℕ) → filled ≤ length room → n ≤ length buf
    → take (filled + n) (put_mid filled k room buf) ≡ take filled room ++ take n buf
filled_more filled n k room buf low within =
    let at : length (take filled room) ≡ filled = length-take-le filled room low in
    ap (λ m. take (m + n) (put_mid filled k room buf)) (sym at) ∙ take-append-add (take filled room) (buf ++ post_of filled k room) n ∙ ap
    (λ l. take filled room ++ l) (take-append-le n buf (post_of filled k room) within)

-- what is not true is false
pub false_from_not : (b : Bool) → (b ≡ true → ⊥) → b ≡ false
false_from_not true never = absurd (never refl)
false_from_not false never = refl
