-- The formats are decided one after another, and their lines are written.
use Rattle.std.proofs.Common.{◌≡◌, ℕ, true, suc, ◌+◌, ◌-◌, ◌<◌, ◌&&◌, List, [], ◌∷◌, ◌++◌, Bool, Option, Result, Ok, Err, append_assoc, arith, ap, inl, inr}
use Rattle.std.proofs.Common.{length, map, refl, subst, sym, ◌∙◌}
use Rattle.std.specs.Prelude.{IfErr, OnOk}
use Rattle.std.specs.List.{list_all, range_with_len}
use Rattle.std.proofs.lemmas.Grind.{flat_map-append}
use Rattle.std.proofs.lemmas.List.{append-nil, map-append}
use Rattle.std.proofs.lemmas.List.Elements.{All-nil, All-push}
use Rattle.sig_bits.specs.Device.{Adds, AddsFront}
use Rattle.sig_find.specs.Lives.{fate_of, format_fate, is_alive}
use Rattle.sig_find.specs.declared.life.Fate.{Fate}
use Rattle.sig_find.specs.declared.life.SignatureLife.{SignatureLife}
use Rattle.sig_table.specs.Views.{TableView}
use Rattle.sig_engines.specs.Fates.{AddsFates, AddsFrontOfFates, AreFatesCut, AreFatesTold, AreFirstFormats, IsFateCut, IsFateTold, IsKnownFormat, KnownFormat}
use Rattle.sig_engines.specs.Fates.{fate_lines, fates_line, format_fates, known_lines, signature_fates}
use Rattle.sig_engines.specs.declared.error.CutShort.{CutShort}
use Rattle.sig_engines.specs.declared.error.CutShort.TheVariants.{OutOfMemory, Write}
use Rattle.sig_engines.proofs.WriteLemmas.{adds_then}
use Rattle.sig_engines.proofs.TellingLemmas.{adds_nothing, front_then}

-- ---- the first formats

pub formats_from : (n i : ℕ) → i < n → range_with_len i (n - i) ≡ i ∷ range_with_len (i + 1) (n - (i + 1))
formats_from n i below =
    let one : n - i ≡ suc (n - (i + 1)) = omega (arith, below) in
    ap (range_with_len i) one

pub begins : (hex : Bool) (table : TableView) (budget : ℕ) (before : Option (List ℕ))
    → AreFatesTold hex table budget (range_with_len 0 (length table.formats)) [] [] before before
begins hex table budget before = record {
  known = [];
  are_first = record { at = refl; each = All-nil (IsKnownFormat table budget) };
  formats_are = refl;
  signatures_are = refl;
  adds = adds_nothing before;
}

first_more : (table : TableView) (budget : ℕ) (known : List KnownFormat) (others later : List ℕ) (k : KnownFormat) → others ≡ k.format ∷ later
    → AreFirstFormats table budget known others → IsKnownFormat table budget k → AreFirstFormats table budget (known ++ k ∷ []) later
first_more table budget known others later k is are one = record {
  at = are.at ∙ ap (λ l. map (λ (k : KnownFormat). k.format) known ++ l) is ∙ sym
      (append_assoc (map (λ (k : KnownFormat). k.format) known) (k.format ∷ []) later) ∙ ap (λ l. l ++ later)
      (sym (map-append (λ (k : KnownFormat). k.format) known (k ∷ [])));
  each = All-push (IsKnownFormat table budget) known k are.each one;
}

lines_more : (hex : Bool) (table : TableView) (known : List KnownFormat) (k : KnownFormat)
    → known_lines hex table (known ++ k ∷ []) ≡ known_lines hex table known ++ fate_lines hex table k.format (format_fate k.lives) k.lives
lines_more hex table known k =
    flat_map-append (λ (k : KnownFormat). fate_lines hex table k.format (format_fate k.lives) k.lives) known (k ∷ []) ∙ ap
    (λ l. known_lines hex table known ++ l) (append-nil (fate_lines hex table k.format (format_fate k.lives) k.lives))

format_fates_more : (known : List KnownFormat) (k : KnownFormat) → format_fates (known ++ k ∷ []) ≡ format_fates known ++ format_fate k.lives ∷ []
format_fates_more known k = map-append (λ (k : KnownFormat). format_fate k.lives) known (k ∷ [])

signature_fates_more : (known : List KnownFormat) (k : KnownFormat)
    → signature_fates (known ++ k ∷ []) ≡ signature_fates known ++ map (λ (l : SignatureLife). fate_of l.life) k.lives
signature_fates_more known k =
    flat_map-append (λ (k : KnownFormat). map (λ (l : SignatureLife). fate_of l.life) k.lives) known (k ∷ []) ∙ ap (λ l. signature_fates known ++ l)
    (append-nil (map (λ (l : SignatureLife). fate_of l.life) k.lives))

-- one format more
pub goes_on : (hex : Bool) (table : TableView) (budget format : ℕ) (others later : List ℕ) (old_formats new_formats old_signatures new_signatures : List Fate)
    (before mid after : Option (List ℕ)) → others ≡ format ∷ later
    → AreFatesTold hex table budget others old_formats old_signatures before mid
    → IsFateTold hex table budget format old_formats new_formats old_signatures new_signatures mid after
    → AreFatesTold hex table budget later new_formats new_signatures before after
goes_on hex table budget format others later old_formats new_formats old_signatures new_signatures before mid after is are one =
    let k : KnownFormat = record { format = format; lives = one.lives } in
    record {
      known = are.known ++ k ∷ [];
      are_first = first_more table budget are.known others later k is are.are_first one.known;
      formats_are = one.formats ∙ ap (λ l. l ++ format_fate one.lives ∷ []) are.formats_are ∙ sym (format_fates_more are.known k);
      signatures_are = one.signatures ∙ ap (λ l. l ++ map (λ (l : SignatureLife). fate_of l.life) one.lives) are.signatures_are ∙ sym
          (signature_fates_more are.known k);
      adds = subst (λ l. Adds before l after) (sym (lines_more hex table are.known k))
          (adds_then before mid after (known_lines hex table are.known) (fate_lines hex table format (format_fate one.lives) one.lives) are.adds one.adds);
    }

-- the lines of a format are not written whole
pub ends_cut : (e : CutShort) (hex : Bool) (table : TableView) (budget format : ℕ) (others later : List ℕ) (formats signatures : List Fate) (is_failed : Bool)
    (before mid after : Option (List ℕ)) → others ≡ format ∷ later
    → AreFatesTold hex table budget others formats signatures before mid → IsFateCut e hex table budget format is_failed mid after
    → AreFatesCut e hex table budget is_failed before after
ends_cut Write hex table budget format others later formats signatures is_failed before mid after is are cut =
    let one = cut.1 in
    let k : KnownFormat = record { format = format; lives = one.lives } in (
      cut.0,
      record {
        known = are.known ++ k ∷ [];
        others = later;
        are_first = first_more table budget are.known others later k is are.are_first one.known;
        text = known_lines hex table (are.known ++ k ∷ []);
        is_text = inl refl;
        adds = subst (λ l. AddsFront before l after) (sym (lines_more hex table are.known k))
            (front_then before mid after (known_lines hex table are.known) (fate_lines hex table format (format_fate one.lives) one.lives) are.adds one.adds);
      },
    )
ends_cut OutOfMemory hex table budget format others later formats signatures is_failed before mid after is are cut = record {
  known = are.known;
  others = others;
  are_first = are.are_first;
  adds = subst (Adds before (known_lines hex table are.known)) (sym cut) are.adds;
}

-- memory ran out between two formats
pub stops : (hex : Bool) (table : TableView) (budget : ℕ) (others : List ℕ) (formats signatures : List Fate) (is_failed : Bool) (before after : Option (List ℕ))
    → AreFatesTold hex table budget others formats signatures before after → AreFatesCut OutOfMemory hex table budget is_failed before after
stops hex table budget others formats signatures is_failed before after are = record {
  known = are.known;
  others = others;
  are_first = are.are_first;
  adds = are.adds;
}

-- ---- the last line

line_of_all : (hex : Bool) (table : TableView) (budget : ℕ) (formats signatures : List Fate) (before after : Option (List ℕ))
    (are : AreFatesTold hex table budget [] formats signatures before after)
    → fates_line formats signatures ≡ fates_line (format_fates are.known) (signature_fates are.known)
line_of_all hex table budget formats signatures before after are = rw (are.formats_are, are.signatures_are) refl

pub all_answered : (hex : Bool) (table : TableView) (budget : ℕ) (formats signatures : List Fate) (line : List ℕ) (before mid after : Option (List ℕ))
    (is_yes : Bool) → AreFatesTold hex table budget [] formats signatures before mid → line ≡ fates_line formats signatures → Adds mid line after
    → is_yes ≡ (list_all is_alive formats && list_all is_alive signatures) → AddsFates is_yes hex table budget before after
all_answered hex table budget formats signatures line before mid after is_yes are is adds answers = record {
  known = are.known;
  are_all = are.are_first;
  yes = answers ∙ ap (λ l. list_all is_alive l && list_all is_alive signatures) are.formats_are ∙ ap
      (λ l. list_all is_alive (format_fates are.known) && list_all is_alive l) are.signatures_are;
  adds = adds_then before mid after (known_lines hex table are.known) (fates_line (format_fates are.known) (signature_fates are.known)) are.adds
      (subst (λ l. Adds mid l after) (is ∙ line_of_all hex table budget formats signatures before mid are) adds);
}

pub last_is_cut : (e : CutShort) (hex : Bool) (table : TableView) (budget : ℕ) (formats signatures : List Fate) (line : List ℕ) (is_failed : Bool)
    (before mid after : Option (List ℕ)) → AreFatesTold hex table budget [] formats signatures before mid → line ≡ fates_line formats signatures
    → (e ≡ Write) × (is_failed ≡ true) × AddsFront mid line after → AreFatesCut e hex table budget is_failed before after
last_is_cut e hex table budget formats signatures line is_failed before mid after are is cut =
    let last = fates_line (format_fates are.known) (signature_fates are.known) in
    let front : AddsFrontOfFates hex table budget before after = record {
      known = are.known;
      others = [];
      are_first = are.are_first;
      text = known_lines hex table are.known ++ last;
      is_text = inr (refl, refl);
      adds = front_then before mid after (known_lines hex table are.known) last are.adds
          (subst (λ l. AddsFront mid l after) (is ∙ line_of_all hex table budget formats signatures before mid are) cut.2);
    } in
    subst (λ e. AreFatesCut e hex table budget is_failed before after) (sym cut.0) (cut.1, front)

-- ---- one format

pub format_is_told : {E : Type 0} (result : Result Unit E) (hex : Bool) (table : TableView) (budget format : ℕ) (lives : List SignatureLife)
    (old_formats new_formats old_signatures new_signatures : List Fate) (lines : List ℕ) (before after : Option (List ℕ))
    → IsKnownFormat table budget (record { format = format; lives = lives })
    → new_formats ≡ old_formats ++ format_fate lives ∷ [] → new_signatures ≡ old_signatures ++ map (λ (l : SignatureLife). fate_of l.life) lives
    → lines ≡ fate_lines hex table format (format_fate lives) lives → OnOk result (Adds before lines after)
    → OnOk result (IsFateTold hex table budget format old_formats new_formats old_signatures new_signatures before after)
format_is_told (Ok t) hex table budget format lives old_formats new_formats old_signatures new_signatures lines before after known formats signatures is adds =
    record {
      lives = lives;
      known = known;
      formats = formats;
      signatures = signatures;
      adds = subst (λ l. Adds before l after) is adds;
    }
format_is_told (Err e) hex table budget format lives old_formats new_formats old_signatures new_signatures lines before after known formats signatures is adds =
    tt

pub format_is_cut : (result : Result Unit CutShort) (hex : Bool) (table : TableView) (budget format : ℕ) (lives : List SignatureLife) (lines : List ℕ)
    (is_failed : Bool) (before after : Option (List ℕ)) → IsKnownFormat table budget (record { format = format; lives = lives })
    → lines ≡ fate_lines hex table format (format_fate lives) lives
    → IfErr result (λ e. (e ≡ Write) × (is_failed ≡ true) × AddsFront before lines after)
    → IfErr result (λ e. IsFateCut e hex table budget format is_failed before after)
format_is_cut (Ok t) hex table budget format lives lines is_failed before after known is cut = tt
format_is_cut (Err e) hex table budget format lives lines is_failed before after known is cut =
    subst (λ e. IsFateCut e hex table budget format is_failed before after) (sym cut.0) (
      cut.1,
      record {
        lives = lives;
        known = known;
        adds = subst (λ l. AddsFront before l after) is cut.2;
      },
    )
