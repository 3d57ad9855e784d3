-- What is printed of files, one after another.
use Rattle.std.proofs.Common.{◌≡◌, ℕ, List, [], ◌∷◌, ◌++◌, ◌+◌, ◌<◌, Bool, None, Option, Ok, Err, Result, IfErr, IfOk, Some, drop, false, inl, inr, true, ap}
use Rattle.std.proofs.Common.{append_assoc, arith, eqb-true, get_or, length, map, refl, subst, sym, take, ◌∙◌}
use Rattle.std.specs.Prelude.{◌≢◌, ◌==◌, if◌then◌else◌, is_ok, is_some, ◌&&◌}
use Rattle.std.proofs.lemmas.Grind.{flat_map-append}
use Rattle.std.proofs.lemmas.List.{append-nil, map-append, map_more, take-append-drop}
use Rattle.std.proofs.lemmas.List.Elements.{All-append, All-nil, All-push}
use Rattle.sig_bits.specs.Device.{Adds, AddsFront}
use Rattle.sig_engines.specs.FileProgress.{done_text, end_text}
use Rattle.sig_engines.specs.FileTexts.{head_text}
use Rattle.sig_engines.specs.ManyFiles.{AddsAll, AddsFiles, Answer, CutsAll, CutsFiles, StopsAll, StopsFiles, Printed, PrintedFile, counted, err_text}
use Rattle.sig_engines.specs.ManyFiles.{err_texts, is_whole, out_text, out_texts, run_text, summary_text, tally_of, visits_of}
use Rattle.sig_engines.specs.Stores.{Holding, IsUnlisted}
use Rattle.sig_engines.specs.Tallies.{done_of, none_yet, plus, with_file, with_none, with_one, with_several}
use Rattle.sig_engines.specs.Visits.{AreEach, AreOf, AreVisits, IsOne, Visit, to_match, to_tell}
use Rattle.sig_engines.specs.declared.ask.MatchAsk.{MatchAsk}
use Rattle.sig_engines.specs.declared.error.FileFault.TheVariants.{Run}
use Rattle.sig_engines.specs.declared.error.NameFault.TheVariants.{File, IsFolder}
use Rattle.sig_engines.specs.declared.error.RunError.{RunError}
use Rattle.sig_engines.specs.declared.error.RunError.TheVariants.{OutOfMemory, Write}
use Rattle.sig_engines.specs.declared.tally.Tally.{Tally}
use Rattle.sig_engines.proofs.WriteLemmas.{adds_then}
use Rattle.sig_engines.proofs.TellingLemmas.{adds_front, adds_nothing, front_then}

-- ---- one visit

pub one_printed : (P : Visit → Printed → Type 0) (visit : Visit) (printed : Printed) (progress : Bool) (tally : Tally) (before after : Option (List ℕ))
    (failed : Bool) (err_before err_after : Option (List ℕ)) → P visit printed → Adds before (out_text printed) after
    → (failed ≡ false → Adds err_before (err_text progress (done_of (counted tally printed)) visit.name printed) err_after)
    → AddsFiles [] P (IsOne visit) progress tally before after failed err_before err_after (counted tally printed)
one_printed P visit printed progress tally before after failed err_before err_after is adds reports =
    let f : PrintedFile = record { visit = visit; printed = printed } in
    record {
      files = f ∷ [];
      are = refl;
      each = All-push (λ (f : PrintedFile). P f.visit f.printed) [] f (All-nil (λ (f : PrintedFile). P f.visit f.printed)) is;
      is = refl;
      adds = subst (λ l. Adds before l after) (sym (append-nil (out_text printed))) adds;
      reports = λ sound. subst (λ l. Adds err_before l err_after) (sym (append-nil (err_text progress (done_of (counted tally printed)) visit.name printed)))
          (reports sound);
    }

-- its lines are not written whole
pub one_cut : (P : Visit → Printed → Type 0) (visit : Visit) (answer : Answer) (progress : Bool) (tally : Tally) (before after : Option (List ℕ))
    (failed : Bool) (err_before err_after : Option (List ℕ)) → P visit (Ok answer) → AddsFront before answer.text after
    → (failed ≡ false → Adds err_before (done_text progress (done_of (counted tally (Ok answer)))) err_after)
    → CutsFiles [] P (IsOne visit) progress tally before after failed err_before err_after
one_cut P visit answer progress tally before after failed err_before err_after is front reports =
    let f : PrintedFile = record { visit = visit; printed = Ok answer } in
    record {
      files = f ∷ [];
      others = [];
      are_first = refl;
      each = All-push (λ (f : PrintedFile). P f.visit f.printed) [] f (All-nil (λ (f : PrintedFile). P f.visit f.printed)) is;
      adds = subst (λ l. AddsFront before l after) (sym (append-nil answer.text)) front;
      reports = λ sound. subst (λ l. Adds err_before l err_after) (sym (append-nil (done_text progress (done_of (counted tally (Ok answer)))))) (reports sound);
    }

-- ---- one after another

-- nothing yet
pub files_none : (head : List ℕ) (P : Visit → Printed → Type 0) (A : List Visit → Type 0) (progress : Bool) (tally : Tally) (before after : Option (List ℕ))
    (failed : Bool) (err_before : Option (List ℕ)) → A [] → Adds before head after
    → AddsFiles head P A progress tally before after failed err_before err_before tally
files_none head P A progress tally before after failed err_before none adds = record {
  files = [];
  are = none;
  each = All-nil (λ (f : PrintedFile). P f.visit f.printed);
  is = refl;
  adds = subst (λ l. Adds before l after) (sym (append-nil head)) adds;
  reports = λ sound. adds_nothing err_before;
}

-- not even the head is written whole
pub head_cut : (head : List ℕ) (P : Visit → Printed → Type 0) (A : List Visit → Type 0) (progress : Bool) (tally : Tally) (before after : Option (List ℕ))
    (failed : Bool) (err : Option (List ℕ)) → ((v : List Visit) × A v) → AddsFront before head after
    → CutsFiles head P A progress tally before after failed err err
head_cut head P A progress tally before after failed err some front = record {
  files = [];
  others = some.0;
  are_first = some.1;
  each = All-nil (λ (f : PrintedFile). P f.visit f.printed);
  adds = subst (λ l. AddsFront before l after) (sym (append-nil head)) front;
  reports = λ sound. adds_nothing err;
}

-- the same files, which are these, too
pub files_as : (head : List ℕ) (P : Visit → Printed → Type 0) (A B : List Visit → Type 0) (progress : Bool) (a b : Tally) (before after : Option (List ℕ))
    (failed : Bool) (err_before err_after : Option (List ℕ)) → ((v : List Visit) → A v → B v)
    → AddsFiles head P A progress a before after failed err_before err_after b → AddsFiles head P B progress a before after failed err_before err_after b
files_as head P A B progress a b before after failed err_before err_after are one = record {
  files = one.files;
  are = are (visits_of one.files) one.are;
  each = one.each;
  is = one.is;
  adds = one.adds;
  reports = one.reports;
}

pub cut_as : (head : List ℕ) (P : Visit → Printed → Type 0) (A B : List Visit → Type 0) (progress : Bool) (a : Tally) (before after : Option (List ℕ))
    (failed : Bool) (err_before err_after : Option (List ℕ)) → ((v : List Visit) → A v → B v)
    → CutsFiles head P A progress a before after failed err_before err_after → CutsFiles head P B progress a before after failed err_before err_after
cut_as head P A B progress a before after failed err_before err_after are one = record {
  files = one.files;
  others = one.others;
  are_first = are (visits_of one.files ++ one.others) one.are_first;
  each = one.each;
  adds = one.adds;
  reports = one.reports;
}

-- the first of some files, all of them written
pub files_stopped : (head : List ℕ) (P : Visit → Printed → Type 0) (A B : List Visit → Type 0) (progress : Bool) (a b : Tally) (before after : Option (List ℕ))
    (failed : Bool) (err_before err_after : Option (List ℕ)) → ((v : List Visit) → A v → (w : List Visit) × B (v ++ w))
    → AddsFiles head P A progress a before after failed err_before err_after b → StopsFiles head P B progress a before after failed err_before err_after
files_stopped head P A B progress a b before after failed err_before err_after more one =
    let first = more (visits_of one.files) one.are in
    record {
      files = one.files;
      others = first.0;
      are_first = first.1;
      each = one.each;
      adds = one.adds;
      reports = one.reports;
    }

pub files_first : (head : List ℕ) (P : Visit → Printed → Type 0) (A B : List Visit → Type 0) (progress : Bool) (a b : Tally) (before after : Option (List ℕ))
    (failed : Bool) (err_before err_after : Option (List ℕ)) → ((v : List Visit) → A v → (w : List Visit) × B (v ++ w))
    → AddsFiles head P A progress a before after failed err_before err_after b → CutsFiles head P B progress a before after failed err_before err_after
files_first head P A B progress a b before after failed err_before err_after more one =
    let first = more (visits_of one.files) one.are in
    record {
      files = one.files;
      others = first.0;
      are_first = first.1;
      each = one.each;
      adds = adds_front before after (head ++ out_texts one.files) one.adds;
      reports = one.reports;
    }

out_texts-append : (xs ys : List PrintedFile) → out_texts (xs ++ ys) ≡ out_texts xs ++ out_texts ys
out_texts-append xs ys = flat_map-append (λ (f : PrintedFile). out_text f.printed) xs ys

both : (head : List ℕ) (xs ys : List PrintedFile) → (head ++ out_texts xs) ++ out_texts ys ≡ head ++ out_texts (xs ++ ys)
both head xs ys = append_assoc head (out_texts xs) (out_texts ys) ∙ ap (λ l. head ++ l) (sym (out_texts-append xs ys))

tally_of-append : (tally : Tally) (xs ys : List PrintedFile) → tally_of tally (xs ++ ys) ≡ tally_of (tally_of tally xs) ys
tally_of-append tally [] ys = refl
tally_of-append tally (f ∷ xs) ys = tally_of-append (counted tally f.printed) xs ys

err_texts-append : (progress : Bool) (tally : Tally) (xs ys : List PrintedFile)
    → err_texts progress tally (xs ++ ys) ≡ err_texts progress tally xs ++ err_texts progress (tally_of tally xs) ys
err_texts-append progress tally [] ys = refl
err_texts-append progress tally (f ∷ xs) ys =
    let next = counted tally f.printed in
    let first = err_text progress (done_of next) f.visit.name f.printed in
    ap (λ l. first ++ l) (err_texts-append progress next xs ys) ∙ sym
    (append_assoc first (err_texts progress next xs) (err_texts progress (tally_of next xs) ys))

visits_of-append : (xs ys : List PrintedFile) → visits_of (xs ++ ys) ≡ visits_of xs ++ visits_of ys
visits_of-append xs ys = map-append (λ (f : PrintedFile). f.visit) xs ys

-- what is told of some files, and then of others
err_both : (progress : Bool) (a b : Tally) (xs ys : List PrintedFile) (before mid after : Option (List ℕ)) → b ≡ tally_of a xs
    → Adds before (err_texts progress a xs) mid → Adds mid (err_texts progress b ys) after → Adds before (err_texts progress a (xs ++ ys)) after
err_both progress a b xs ys before mid after is first second =
    subst (λ l. Adds before l after) (ap (λ t. err_texts progress a xs ++ err_texts progress t ys) is ∙ sym (err_texts-append progress a xs ys))
    (adds_then before mid after (err_texts progress a xs) (err_texts progress b ys) first second)

-- what is printed of some files, and then of others
pub files_then : (head : List ℕ) (P : Visit → Printed → Type 0) (A B C : List Visit → Type 0) (progress : Bool) (a b c : Tally)
    (before mid after : Option (List ℕ)) (first_failed failed : Bool) (err_before err_mid err_after : Option (List ℕ))
    → ((v w : List Visit) → A v → B w → C (v ++ w)) → AddsFiles head P A progress a before mid first_failed err_before err_mid b
    → AddsFiles [] P B progress b mid after failed err_mid err_after c → (failed ≡ false → first_failed ≡ false)
    → AddsFiles head P C progress a before after failed err_before err_after c
files_then head P A B C progress a b c before mid after first_failed failed err_before err_mid err_after join one two stays = record {
  files = one.files ++ two.files;
  are = subst C (sym (visits_of-append one.files two.files)) (join (visits_of one.files) (visits_of two.files) one.are two.are);
  each = All-append (λ (f : PrintedFile). P f.visit f.printed) one.files two.files one.each two.each;
  is = two.is ∙ ap (λ t. tally_of t two.files) one.is ∙ sym (tally_of-append a one.files two.files);
  adds = subst (λ l. Adds before l after) (both head one.files two.files)
      (adds_then before mid after (head ++ out_texts one.files) (out_texts two.files) one.adds two.adds);
  reports = λ sound. err_both progress a b one.files two.files err_before err_mid err_after one.is (one.reports (stays sound)) (two.reports sound);
}

-- what is printed of some files, and then not of all
pub files_cut : (head : List ℕ) (P : Visit → Printed → Type 0) (A B C : List Visit → Type 0) (progress : Bool) (a b : Tally)
    (before mid after : Option (List ℕ)) (first_failed failed : Bool) (err_before err_mid err_after : Option (List ℕ))
    → ((v w : List Visit) → A v → B w → (more : List Visit) × C (v ++ w ++ more)) → AddsFiles head P A progress a before mid first_failed err_before err_mid b
    → CutsFiles [] P B progress b mid after failed err_mid err_after → (failed ≡ false → first_failed ≡ false)
    → CutsFiles head P C progress a before after failed err_before err_after
files_cut head P A B C progress a b before mid after first_failed failed err_before err_mid err_after join one two stays =
    let v = visits_of one.files in
    let w = visits_of two.files in
    let joined = join v (w ++ two.others) one.are two.are_first in
    let rest = two.others ++ joined.0 in
    let same : (v ++ (w ++ two.others)) ++ joined.0 ≡ visits_of (one.files ++ two.files) ++ rest =
    ap (λ l. l ++ joined.0) (sym (append_assoc v w two.others)) ∙ append_assoc (v ++ w) two.others joined.0 ∙ ap (λ l. l ++ rest)
    (sym (visits_of-append one.files two.files)) in
    record {
      files = one.files ++ two.files;
      others = rest;
      are_first = subst C same joined.1;
      each = All-append (λ (f : PrintedFile). P f.visit f.printed) one.files two.files one.each two.each;
      adds = subst (λ l. AddsFront before l after) (both head one.files two.files)
          (front_then before mid after (head ++ out_texts one.files) (out_texts two.files) one.adds two.adds);
      reports = λ sound. err_both progress a b one.files two.files err_before err_mid err_after one.is (one.reports (stays sound)) (two.reports sound);
    }

-- ---- faults that are counted

counted_failed : (tally : Tally) (hits bytes : ℕ) → (with_file tally hits bytes).failed ≡ tally.failed
counted_failed tally hits bytes = go (hits == 0) (hits == 1)
  where
    go : (none one : Bool) → (if none then with_none tally bytes else (if one then with_one tally bytes else with_several tally bytes)).failed ≡ tally.failed
    go true one = refl
    go false true = refl
    go false false = refl

-- where there is none at the end, there was none before
pub failed_before : (tally : Tally) (files : List PrintedFile) → (tally_of tally files).failed ≡ 0 → tally.failed ≡ 0
failed_before tally [] none = none
failed_before tally (f ∷ files) none = go f.printed (failed_before (counted tally f.printed) files none)
  where
    go : (printed : Printed) → (counted tally printed).failed ≡ 0 → tally.failed ≡ 0
    go (Ok answer) is = sym (counted_failed tally answer.hits answer.bytes) ∙ is
    go (Err fault) is = omega (arith, is)

-- the first ones have none
pub first_failed : (P : Visit → Printed → Type 0) (A : List Visit → Type 0) (progress : Bool) (a b : Tally) (before after : Option (List ℕ)) (failed : Bool)
    (err_before err_after : Option (List ℕ)) → AddsFiles [] P A progress a before after failed err_before err_after b → b.failed ≡ 0 → a.failed ≡ 0
first_failed P A progress a b before after failed err_before err_after one none = failed_before a one.files (ap (λ t. t.failed) (sym one.is) ∙ none)

never_none : (n : ℕ) → (plus n 1 == 0) ≡ false
never_none n = go (plus n 1 == 0) refl
  where
    go : (b : Bool) → (plus n 1 == 0) ≡ b → b ≡ false
    go true is = let none = eqb-true (plus n 1) 0 is in absurd (omega (arith, none))
    go false is = refl

and_true : (b : Bool) → b ≡ (b && true)
and_true true = refl
and_true false = refl

and_false : (b : Bool) → false ≡ (b && false)
and_false true = refl
and_false false = refl

whole_behind : (tally : Tally) (files : List PrintedFile) → ((tally_of tally files).failed == 0) ≡ ((tally.failed == 0) && is_whole files)
whole_behind tally [] = and_true (tally.failed == 0)
whole_behind tally (f ∷ files) = whole_behind (counted tally f.printed) files ∙ go f.printed
  where
    go : (printed : Printed) → (((counted tally printed).failed == 0) && is_whole files) ≡ ((tally.failed == 0) && (is_ok printed && is_whole files))
    go (Ok answer) = ap (λ n. (n == 0) && is_whole files) (counted_failed tally answer.hits answer.bytes)
    go (Err fault) = ap (λ b. b && is_whole files) (never_none tally.failed) ∙ and_false (tally.failed == 0)

-- none is counted where no file has one
whole_of : (files : List PrintedFile) → ((tally_of none_yet files).failed == 0) ≡ is_whole files
whole_of files = whole_behind none_yet files

-- ---- a whole run

told_all : (progress : Bool) (files : List PrintedFile) (more : List ℕ) (first begun told ended : Option (List ℕ)) → Adds first (done_text progress 0) begun
    → Adds begun (err_texts progress none_yet files) told → Adds told (end_text progress ++ more) ended → Adds first (run_text progress files ++ more) ended
told_all progress files more first begun told ended begins tells ends =
    let done = done_text progress 0 in
    let texts = err_texts progress none_yet files in
    subst (λ l. Adds first l ended) (sym (append_assoc (done ++ texts) (end_text progress) more))
    (adds_then first told ended (done ++ texts) (end_text progress ++ more) (adds_then first begun told done texts begins tells) ends)

told_cut : (progress : Bool) (files : List PrintedFile) (first begun told ended : Option (List ℕ)) → Adds first (done_text progress 0) begun
    → Adds begun (err_texts progress none_yet files) told → Adds told (end_text progress) ended → Adds first (run_text progress files) ended
told_cut progress files first begun told ended begins tells ends =
    let done = done_text progress 0 in
    let texts = err_texts progress none_yet files in
    adds_then first told ended (done ++ texts) (end_text progress) (adds_then first begun told done texts begins tells) ends

pub if_all : (ask : MatchAsk) (P : Visit → Printed → Type 0) (A : List Visit → Type 0) (before after : Option (List ℕ)) (begun_failed told_failed failed : Bool)
    (first begun told ended : Option (List ℕ)) (matched : Result Tally RunError) (result : Result Bool RunError)
    → (begun_failed ≡ false → Adds first (done_text ask.progress 0) begun)
    → IfOk matched (AddsFiles (head_text ask.csv) P A ask.progress none_yet before after told_failed begun told) → (told_failed ≡ false → begun_failed ≡ false)
    → (failed ≡ false → told_failed ≡ false) → IfOk result (λ whole. (tally : Tally) × (matched ≡ Ok tally) × (whole ≡ (tally.failed == 0))
    × (failed ≡ false → Adds told (end_text ask.progress ++ summary_text ask.summary tally) ended))
    → IfOk result (AddsAll ask P A before after failed first ended)
if_all ask P A before after begun_failed told_failed failed first begun told ended matched (Ok whole) begins added stays goes_on ends =
    let tally = ends.0 in
    let one : AddsFiles (head_text ask.csv) P A ask.progress none_yet before after told_failed begun told tally =
    subst (λ m. IfOk m (AddsFiles (head_text ask.csv) P A ask.progress none_yet before after told_failed begun told)) ends.1 added in
    record {
      files = one.files;
      are = one.are;
      each = one.each;
      is = ends.2 ∙ ap (λ t. t.failed == 0) one.is ∙ whole_of one.files;
      adds = one.adds;
      reports = λ sound.
          let mid = goes_on sound in
          let last = subst (λ t. Adds told (end_text ask.progress ++ summary_text ask.summary t) ended) one.is (ends.3 sound) in
          told_all ask.progress one.files (summary_text ask.summary (tally_of none_yet one.files)) first begun told ended (begins (stays mid)) (one.reports mid)
          last;
    }
if_all ask P A before after begun_failed told_failed failed first begun told ended matched (Err e) begins added stays goes_on ends = tt

pub if_cut : (ask : MatchAsk) (P : Visit → Printed → Type 0) (A : List Visit → Type 0) (before after : Option (List ℕ)) (begun_failed told_failed failed : Bool)
    (first begun told ended : Option (List ℕ)) (matched : Result Tally RunError) (result : Result Bool RunError)
    → (begun_failed ≡ false → Adds first (done_text ask.progress 0) begun)
    → IfErr matched (λ e. CutsFiles (head_text ask.csv) P A ask.progress none_yet before after told_failed begun told)
    → (told_failed ≡ false → begun_failed ≡ false) → (failed ≡ false → told_failed ≡ false)
    → IfErr result (λ e. (matched ≡ Err e) × (failed ≡ false → Adds told (end_text ask.progress) ended))
    → IfErr result (λ e. CutsAll ask P A before after failed first ended)
if_cut ask P A before after begun_failed told_failed failed first begun told ended matched (Ok whole) begins cuts stays goes_on ends = tt
if_cut ask P A before after begun_failed told_failed failed first begun told ended matched (Err e) begins cuts stays goes_on ends =
    let one : CutsFiles (head_text ask.csv) P A ask.progress none_yet before after told_failed begun told =
    subst (λ m. IfErr m (λ e. CutsFiles (head_text ask.csv) P A ask.progress none_yet before after told_failed begun told)) ends.0 cuts in
    record {
      files = one.files;
      others = one.others;
      are_first = one.are_first;
      each = one.each;
      adds = one.adds;
      reports = λ sound. let mid = goes_on sound in told_cut ask.progress one.files first begun told ended (begins (stays mid)) (one.reports mid)
          (ends.1 sound);
    }

pub if_stopped : (ask : MatchAsk) (P : Visit → Printed → Type 0) (A : List Visit → Type 0) (before after : Option (List ℕ))
    (begun_failed told_failed failed : Bool) (first begun told ended : Option (List ℕ)) (matched : Result Tally RunError) (result : Result Bool RunError)
    → (begun_failed ≡ false → Adds first (done_text ask.progress 0) begun)
    → IfErr matched (λ e. e ≢ Write → StopsFiles (head_text ask.csv) P A ask.progress none_yet before after told_failed begun told)
    → (told_failed ≡ false → begun_failed ≡ false) → (failed ≡ false → told_failed ≡ false)
    → IfErr result (λ e. (matched ≡ Err e) × (failed ≡ false → Adds told (end_text ask.progress) ended))
    → IfErr result (λ e. e ≢ Write → StopsAll ask P A before after failed first ended)
if_stopped ask P A before after begun_failed told_failed failed first begun told ended matched (Ok whole) begins stops stays goes_on ends = tt
if_stopped ask P A before after begun_failed told_failed failed first begun told ended matched (Err e) begins stops stays goes_on ends = λ other.
    let one : StopsFiles (head_text ask.csv) P A ask.progress none_yet before after told_failed begun told =
    subst (λ m. IfErr m (λ e. e ≢ Write → StopsFiles (head_text ask.csv) P A ask.progress none_yet before after told_failed begun told)) ends.0 stops other in
    record {
      files = one.files;
      others = one.others;
      are_first = one.are_first;
      each = one.each;
      adds = one.adds;
      reports = λ sound. let mid = goes_on sound in told_cut ask.progress one.files first begun told ended (begins (stays mid)) (one.reports mid)
          (ends.1 sound);
    }

-- with no fault nothing is told
pub quiet_all : {E : Type 0} (first begun told ended : E) (progress summary : Bool) (matched : Result Tally RunError) (result : Result Bool RunError)
    (Ended : Bool → Type 0) → (progress ≡ false → begun ≡ first) → IfOk matched (λ tally. progress ≡ false → tally.failed ≡ 0 → told ≡ begun)
    → (progress ≡ false → summary ≡ false → ended ≡ told) → IfOk result
    (λ whole. (tally : Tally) × (matched ≡ Ok tally) × (whole ≡ (tally.failed == 0)) × Ended whole) → result ≡ Ok true → progress ≡ false → summary ≡ false
    → ended ≡ first
quiet_all first begun told ended progress summary matched (Ok true) Ended begins quiet ends is same no_progress no_summary =
    let mid : told ≡ begun = subst (λ m. IfOk m (λ tally. progress ≡ false → tally.failed ≡ 0 → told ≡ begun)) is.1 quiet no_progress
    (eqb-true is.0.failed 0 (sym is.2)) in
    ends no_progress no_summary ∙ mid ∙ begins no_progress
quiet_all first begun told ended progress summary matched (Ok false) Ended begins quiet ends is same no_progress no_summary = cc
quiet_all first begun told ended progress summary matched (Err e) Ended begins quiet ends is same no_progress no_summary = cc

-- ---- the visits of names

-- of some things, and then of others
pub each_then : {X : Type 0} (A : X → List Visit → Type 0) (xs ys : List X) (v w : List Visit) → AreEach A xs v → AreEach A ys w → AreEach A (xs ++ ys) (v ++ w)
each_then A [] ys v w first second = rw first second
each_then A (x ∷ xs) ys v w first second =
    (first.0, first.1 ++ w, ap (λ l. l ++ w) first.2 ∙ append_assoc first.0 first.1 w, first.3, each_then A xs ys first.1 w first.4 second)

-- of one alone
pub each_one : {X : Type 0} (A : X → List Visit → Type 0) (x : X) (v : List Visit) → A x v → AreEach A (x ∷ []) v
each_one A x v is = (v, [], sym (append-nil v), is, refl)

-- where each thing has some, all have
pub each_some : {X : Type 0} (A : X → List Visit → Type 0) → ((x : X) → (v : List Visit) × A x v) → (xs : List X) → (v : List Visit) × AreEach A xs v
each_some A some [] = ([], refl)
each_some A some (x ∷ xs) =
    let first = some x in
    let rest = each_some A some xs in
    (first.0 ++ rest.0, (first.0, rest.0, refl, first.1, rest.1))

pub no_memory : (held : Holding) (name : List ℕ) → IsUnlisted held name (Run OutOfMemory)
no_memory None name = λ same. cc
no_memory (Some files) name = inl refl

-- each name has some visits: that it is listed never is said
pub some_of : (recursive : Bool) (held : Holding) (name : List ℕ) → (v : List Visit) × AreOf recursive held name v
some_of recursive None name = (to_match name ∷ [], inl (refl, λ text. tt))
some_of recursive (Some files) name = go recursive (is_some (files.items name)) refl
  where
    go : (recursive has : Bool) → is_some (files.items name) ≡ has → (v : List Visit) × AreOf recursive (Some files) name v
    go recursive false is = (to_match name ∷ [], inl (refl, λ text. is))
    go false true is = (to_tell name IsFolder ∷ [], inr (is, refl))
    go true true is = (to_tell name (File (Run OutOfMemory)) ∷ [], inr (is, inl (Run OutOfMemory, no_memory (Some files) name, refl)))

pub some_visits : (recursive : Bool) (held : Holding) (names : List (List ℕ)) → (v : List Visit) × AreVisits recursive held names v
some_visits recursive held names = each_some (AreOf recursive held) (some_of recursive held) names

-- of the first names, and of the others
pub visits_then : (recursive : Bool) (held : Holding) (xs ys : List (List ℕ)) (v w : List Visit) → AreVisits recursive held xs v → AreVisits recursive held ys w
    → AreVisits recursive held (xs ++ ys) (v ++ w)
visits_then recursive held xs ys v w first second = each_then (AreOf recursive held) xs ys v w first second

-- of the first names, and of one more
pub visits_next : (recursive : Bool) (held : Holding) (xs : List (List ℕ)) (y : List ℕ) (v w : List Visit) → AreVisits recursive held xs v
    → AreOf recursive held y w → AreVisits recursive held (xs ++ y ∷ []) (v ++ w)
visits_next recursive held xs y v w first second = visits_then recursive held xs (y ∷ []) v w first (each_one (AreOf recursive held) y w second)

-- of the first names, and some of the others
pub visits_more : (recursive : Bool) (held : Holding) (xs ys : List (List ℕ)) (v : List Visit) → AreVisits recursive held xs v → (w : List Visit)
    × AreVisits recursive held (xs ++ ys) (v ++ w)
visits_more recursive held xs ys v first =
    let some = some_visits recursive held ys in
    (some.0, visits_then recursive held xs ys v some.0 first some.1)

-- of the first names, of one more, and some of the others
pub visits_next_more : (recursive : Bool) (held : Holding) (xs : List (List ℕ)) (y : List ℕ) (zs : List (List ℕ)) (v w : List Visit)
    → AreVisits recursive held xs v → AreOf recursive held y w → (more : List Visit) × AreVisits recursive held (xs ++ (y ∷ []) ++ zs) (v ++ w ++ more)
visits_next_more recursive held xs y zs v w first second =
    let some = some_visits recursive held zs in
    (some.0, visits_then recursive held (xs ++ y ∷ []) zs (v ++ w) some.0 (visits_next recursive held xs y v w first second) some.1)

-- ---- the names of a list

-- what is printed of the first names, and then of the next
pub files_on : {X : Type 0} (head : List ℕ) (P : Visit → Printed → Type 0) (recursive : Bool) (held : Holding) (f : X → List ℕ) (names : List X) (i : ℕ) (d : X)
    (progress : Bool) (a b c : Tally) (before mid after : Option (List ℕ)) (first_failed failed : Bool) (err_before err_mid err_after : Option (List ℕ))
    → i < length names → AddsFiles head P (AreVisits recursive held (map f (take i names))) progress a before mid first_failed err_before err_mid b
    → AddsFiles [] P (AreOf recursive held (f (get_or names i d))) progress b mid after failed err_mid err_after c → (failed ≡ false → first_failed ≡ false)
    → AddsFiles head P (AreVisits recursive held (map f (take (i + 1) names))) progress a before after failed err_before err_after c
files_on head P recursive held f names i d progress a b c before mid after first_failed failed err_before err_mid err_after within one two stays =
    files_then head P (AreVisits recursive held (map f (take i names))) (AreOf recursive held (f (get_or names i d)))
    (AreVisits recursive held (map f (take (i + 1) names))) progress a b c before mid after first_failed failed err_before err_mid err_after
    (λ v w first second. subst (λ l. AreVisits recursive held l (v ++ w)) (sym (map_more f names i d within))
    (visits_next recursive held (map f (take i names)) (f (get_or names i d)) v w first second))
    one two stays

-- what is printed of the first names, and not all of the next
pub files_off : {X : Type 0} (head : List ℕ) (P : Visit → Printed → Type 0) (recursive : Bool) (held : Holding) (f : X → List ℕ) (names : List X) (i : ℕ)
    (d : X) (progress : Bool) (a b : Tally) (before mid after : Option (List ℕ)) (first_failed failed : Bool) (err_before err_mid err_after : Option (List ℕ))
    → i < length names → AddsFiles head P (AreVisits recursive held (map f (take i names))) progress a before mid first_failed err_before err_mid b
    → CutsFiles [] P (AreOf recursive held (f (get_or names i d))) progress b mid after failed err_mid err_after → (failed ≡ false → first_failed ≡ false)
    → CutsFiles head P (AreVisits recursive held (map f names)) progress a before after failed err_before err_after
files_off head P recursive held f names i d progress a b before mid after first_failed failed err_before err_mid err_after within one two stays =
    let later = map f (drop (i + 1) names) in
    let all : map f (take i names) ++ f (get_or names i d) ∷ [] ++ later ≡ map f names =
    ap (λ l. l ++ later) (sym (map_more f names i d within)) ∙ sym (map-append f (take (i + 1) names) (drop (i + 1) names)) ∙ ap (map f)
    (take-append-drop (i + 1) names) in
    files_cut head P (AreVisits recursive held (map f (take i names))) (AreOf recursive held (f (get_or names i d))) (AreVisits recursive held (map f names))
    progress a b before mid after first_failed failed err_before err_mid err_after
    (λ v w first second.
    let more = visits_next_more recursive held (map f (take i names)) (f (get_or names i d)) later v w first second in
    (more.0, subst (λ l. AreVisits recursive held l (v ++ w ++ more.0)) all more.1))
    one two stays

-- ---- what is answered of them

pub if_files_as : (head : List ℕ) (P : Visit → Printed → Type 0) (A B : List Visit → Type 0) (progress : Bool) (tally : Tally) (before after : Option (List ℕ))
    (failed : Bool) (err_before err_after : Option (List ℕ)) (result : Result Tally RunError) → ((v : List Visit) → A v → B v)
    → IfOk result (AddsFiles head P A progress tally before after failed err_before err_after)
    → IfOk result (AddsFiles head P B progress tally before after failed err_before err_after)
if_files_as head P A B progress tally before after failed err_before err_after (Ok becomes) are adds =
    files_as head P A B progress tally becomes before after failed err_before err_after are adds
if_files_as head P A B progress tally before after failed err_before err_after (Err e) are adds = adds

-- what is said of an error follows from what else is
pub if_err : {A E : Type 0} (result : Result A E) (P Q : E → Type 0) → ((e : E) → P e → Q e) → IfErr result P → IfErr result Q
if_err (Ok x) P Q goes is = tt
if_err (Err e) P Q goes is = goes e is

pub if_both : {A E : Type 0} (result : Result A E) (P Q O : E → Type 0) → ((e : E) → P e → Q e → O e) → IfErr result P → IfErr result Q → IfErr result O
if_both (Ok x) P Q O goes is and = tt
if_both (Err e) P Q O goes is and = goes e is and

pub if_cut_as : (head : List ℕ) (P : Visit → Printed → Type 0) (A B : List Visit → Type 0) (progress : Bool) (tally : Tally) (before after : Option (List ℕ))
    (failed : Bool) (err_before err_after : Option (List ℕ)) (result : Result Tally RunError) → ((v : List Visit) → A v → B v)
    → IfErr result (λ e. CutsFiles head P A progress tally before after failed err_before err_after)
    → IfErr result (λ e. CutsFiles head P B progress tally before after failed err_before err_after)
if_cut_as head P A B progress tally before after failed err_before err_after (Ok becomes) are cuts = cuts
if_cut_as head P A B progress tally before after failed err_before err_after (Err e) are cuts =
    cut_as head P A B progress tally before after failed err_before err_after are cuts
