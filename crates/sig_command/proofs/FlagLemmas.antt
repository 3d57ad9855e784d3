-- Whether words name a priority file, word by word.
use Rattle.std.proofs.Common.{◌≡◌, ◌||◌, ◌+◌, ◌<◌, ◌∙◌, ℕ, Bool, true, false, not, List, [], ◌∷◌, add-one, ap, codes, cond, drop, drop-cons, get_or, length}
use Rattle.std.proofs.Common.{refl, suc, sym}
use Rattle.std.specs.Prelude.{String, string_bytes, take_while}
use Rattle.std.specs.List.{list_any}
use Rattle.std.specs.Str.{bytes_eq}
use Rattle.std.proofs.lemmas.List.Sums.{take_while-cons}
use Rattle.clap.specs.Words.{Text}
use Rattle.sig_command.specs.CommandLine.{names_priorities, texts_of}

abbrev pub is_end : Text → Bool
is_end word = bytes_eq word (codes "--")

abbrev pub is_flag : Text → Bool
is_flag word = bytes_eq word (codes "--no-priorities")

-- the first word decides, or leaves it to the others
names_priorities-cons : (word : Text) (words : List Text) → names_priorities (word ∷ words) ≡ cond (is_end word) true
    (cond (is_flag word) false (names_priorities words))
names_priorities-cons word words = ap (λ l. not (list_any is_flag l)) (take_while-cons (λ w. not (is_end w)) word words) ∙ go (is_end word)
  where
    flag : (f rest : Bool) → not (f || rest) ≡ cond f false (not rest)
    flag true rest = refl
    flag false rest = refl

    go : (end : Bool) → not (list_any is_flag (cond (not end) (word ∷ take_while (λ w. not (is_end w)) words) [])) ≡ cond end true
        (cond (is_flag word) false (names_priorities words))
    go true = refl
    go false = flag (is_flag word) (list_any is_flag (take_while (λ w. not (is_end w)) words))

module _ {A : Type 0} (words : List (String A)) (i : ℕ) (word : String A) (within : i < length words) (is : word ≡ get_or words i word) where
  at : names_priorities (texts_of (drop i words)) ≡ cond (is_end (string_bytes word)) true
      (cond (is_flag (string_bytes word)) false (names_priorities (texts_of (drop (i + 1) words))))
  at =
      ap (λ (ws : List (String A)). names_priorities (texts_of ws)) (drop-cons words i word within)
      ∙ ap (λ (w : String A). names_priorities (string_bytes w ∷ texts_of (drop (suc i) words))) (sym is)
      ∙ rw add-one (names_priorities-cons (string_bytes word) (texts_of (drop (suc i) words)))

  pub flag_decides : is_end (string_bytes word) ≡ false → is_flag (string_bytes word) ≡ true → names_priorities (texts_of (drop i words)) ≡ false
  flag_decides none flag =
      at ∙ ap (λ b. cond b true (cond (is_flag (string_bytes word)) false (names_priorities (texts_of (drop (i + 1) words))))) none
      ∙ ap (λ b. cond b false (names_priorities (texts_of (drop (i + 1) words)))) flag

  pub others_decide : is_end (string_bytes word) ≡ false → is_flag (string_bytes word) ≡ false
      → names_priorities (texts_of (drop i words)) ≡ names_priorities (texts_of (drop (i + 1) words))
  others_decide none other =
      at ∙ ap (λ b. cond b true (cond (is_flag (string_bytes word)) false (names_priorities (texts_of (drop (i + 1) words))))) none
      ∙ ap (λ b. cond b false (names_priorities (texts_of (drop (i + 1) words)))) other
