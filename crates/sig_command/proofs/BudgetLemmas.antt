-- The number that `--budget` names.
use Rattle.std.proofs.Common.{◌≡◌, ◌<◌, ◌^◌, ℕ, List, Option, None, Some, Result, Ok, Err, codes, refl, subst, sym, ◌∙◌}
use Rattle.std.specs.Str.Parse.{ParsesUnsigned, digits_value, without_leading_plus}
use Rattle.clap.specs.Matches.{ReadsOne}
use Rattle.clap.specs.Words.{Row, Text, one_of}
use Rattle.sig_command.specs.CommandLine.{NamesBudget}

-- a number that is read is the one that is named
pub budget_is_read : (E : Type 0) (G : Text → Result ℕ E → Type 0) (rows : List Row) (text : Option Text) (result : Option ℕ) (n : ℕ)
    → one_of (codes "N") rows ≡ text → (text ≡ None → result ≡ None) → ((t : Text) → text ≡ Some t → ReadsOne G t result)
    → ((t : Text) (x : Result ℕ E) → G t x → ParsesUnsigned 32 10 t x) → result ≡ Some n → NamesBudget n rows
budget_is_read E G rows None result n found none value only is =
    let bad : None ≡ Some n = sym (none refl) ∙ is in
    cc
budget_is_read E G rows (Some t) result n found none value only is =
    let read : G t (Ok n) = subst (λ (r : Option ℕ). ReadsOne G t r) is (value t refl) in
    let parsed = only t (Ok n) read in
    let within : digits_value 10 (without_leading_plus t) < 2 ^ 32 = parsed.0.1 in
    record { digits = t; given = found; numeral = parsed.0.0; value = sym parsed.1; within = subst (λ (m : ℕ). m < 2 ^ 32) (sym parsed.1) within }

-- where none is read, none is named
pub no_budget : (E : Type 0) (G : Text → Result ℕ E → Type 0) (rows : List Row) (text : Option Text) (result : Option ℕ) → one_of (codes "N") rows ≡ text
    → ((t : Text) → text ≡ Some t → ReadsOne G t result) → ((t : Text) (x : Result ℕ E) → G t x → ParsesUnsigned 32 10 t x) → result ≡ None → (n : ℕ)
    → NamesBudget n rows → ⊥
no_budget E G rows text result found value only is n named =
    let same : text ≡ Some named.digits = sym found ∙ named.given in
    let read : (e : E) × G named.digits (Err e) = subst (λ (r : Option ℕ). ReadsOne G named.digits r) is (value named.digits same) in
    let within : digits_value 10 (without_leading_plus named.digits) < 2 ^ 32 = subst (λ (m : ℕ). m < 2 ^ 32) (sym named.value) named.within in
    only named.digits (Err read.0) read.1 (named.numeral, within)
