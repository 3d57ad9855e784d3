-- The values of an argument, by the rows of a parse.
use Rattle.std.proofs.Common.{◌≡◌, ◌<◌, ◌≤◌, Bool, true, false, not, ◌||◌, ◌⊎◌, List, [], ◌∷◌, Option, Some, None, ap, arith, codes, get_or, inl, inr, length}
use Rattle.std.proofs.Common.{map, refl, subst, sym, ◌∙◌}
use Rattle.std.specs.Prelude.{IsSomeAnd, find, is_some, option_and_then, option_map, slice_get}
use Rattle.std.specs.Borrow.{Bor}
use Rattle.std.specs.Str.{bytes_eq}
use Rattle.clap.specs.Facts.{Entry}
use Rattle.clap.specs.Matches.{first_value, matched_of, one_text, raw_values}
use Rattle.clap.specs.Values.{read_as}
use Rattle.clap.specs.Walk.{Text, all_of, first_of, one_of, row_of, rows_of, texts}
use Rattle.clap.specs.declared.builder.value_parser.Reading.{Reading}
use Rattle.clap.specs.declared.parser.matches.Found.{Found}
use Rattle.sig_command.specs.CommandLine.{HasFlag, NamesMany, is_named}
use Rattle.sig_command.specs.declared.args.MatchOptions.{MatchOptions}

first_text : (values : List (Bor Text)) → slice_get (texts values) 0 ≡ option_map (λ s. s.now) (slice_get values 0)
first_text [] = refl
first_text (v ∷ vs) = refl

-- the first value that the entries have under an id
abbrev value_in : List Entry → Text → Option Text
value_in entries id = option_and_then (λ a. option_map (λ s. s.now) (slice_get a.vals.items 0))
    (option_map (λ e. e.1) (find (λ e. bytes_eq e.0.now id) entries))

first_of-entries : (entries : List Entry) (id : Text) → first_of id (map row_of entries) ≡ value_in entries id
first_of-entries [] id = refl
first_of-entries (e ∷ es) id = go (bytes_eq e.0.now id) refl (first_of-entries es id)
  where
    go : (t : Bool) → bytes_eq e.0.now id ≡ t → first_of id (map row_of es) ≡ value_in es id → first_of id (map row_of (e ∷ es)) ≡ value_in (e ∷ es) id
    go true is rest = rw is (first_text e.1.vals.items)
    go false is rest = rw is rest

-- an argument's first value is that of its row
pub first_of-rows : (found : Found) (id : Text) → first_of id (rows_of found) ≡ first_value found id
first_of-rows found id = first_of-entries found.entries.items id

-- all the values that the entries have under an id
abbrev values_in : List Entry → Text → Option (List Text)
values_in entries id = option_map raw_values (option_map (λ e. e.1) (find (λ e. bytes_eq e.0.now id) entries))

all_of-entries : (entries : List Entry) (id : Text) → all_of id (map row_of entries) ≡ values_in entries id
all_of-entries [] id = refl
all_of-entries (e ∷ es) id = go (bytes_eq e.0.now id) refl (all_of-entries es id)
  where
    go : (t : Bool) → bytes_eq e.0.now id ≡ t → all_of id (map row_of es) ≡ values_in es id → all_of id (map row_of (e ∷ es)) ≡ values_in (e ∷ es) id
    go true is rest = rw is refl
    go false is rest = rw is rest

-- an argument's values are those of its row
pub all_of-rows : (found : Found) (id : Text) → all_of id (rows_of found) ≡ option_map raw_values (matched_of found id)
all_of-rows found id = all_of-entries found.entries.items id

-- and as a getter reads it
read_text : (reading : Reading) (values : List (Bor Text)) → option_map (read_as reading) (slice_get (texts values) 0) ≡ option_map (λ s. read_as reading s.now)
    (slice_get values 0)
read_text reading [] = refl
read_text reading (v ∷ vs) = refl

-- what is read of the first value that the entries have under an id
abbrev read_in : List Entry → Text → Option Text
read_in entries id = option_and_then (λ a. option_map (λ s. read_as a.reading s.now) (slice_get a.vals.items 0))
    (option_map (λ e. e.1) (find (λ e. bytes_eq e.0.now id) entries))

one_of-entries : (entries : List Entry) (id : Text) → one_of id (map row_of entries) ≡ read_in entries id
one_of-entries [] id = refl
one_of-entries (e ∷ es) id = go (bytes_eq e.0.now id) refl (one_of-entries es id)
  where
    go : (t : Bool) → bytes_eq e.0.now id ≡ t → one_of id (map row_of es) ≡ read_in es id → one_of id (map row_of (e ∷ es)) ≡ read_in (e ∷ es) id
    go true is rest = rw is (read_text e.1.reading e.1.vals.items)
    go false is rest = rw is rest

pub one_of-rows : (found : Found) (id : Text) → one_of id (rows_of found) ≡ one_text found id
one_of-rows found id = one_of-entries found.entries.items id

-- an optional pair, by its two parts
pub pair_of_parts : {A B C : Type 0} (f : A → B) (g : A → C) (o : Option A) (x : B) (y : C) → option_map f o ≡ Some x
    → option_map (λ (p : B × C). p.1) (option_map {U = B × C} (λ a. (f a, g a)) o) ≡ Some y → option_map {U = B × C} (λ a. (f a, g a)) o ≡ Some (x, y)
pair_of_parts f g None x y first second = cc
pair_of_parts f g (Some a) x y first second = cc

-- nothing is added to a test by one that is false
pub or_false : (a b : Bool) → b ≡ false → (a || b) ≡ a
or_false true b is = refl
or_false false b is = is

-- whether a flag is among the words, as its getter reads it
pub flag_is_read : (found : Found) (name : Text) (is_given : Bool) → (one_text found name ≡ Some (codes "true") → is_given ≡ true)
    → (one_text found name ≡ Some (codes "false") → is_given ≡ false) → (one_text found name ≡ None → is_given ≡ false) → HasFlag name is_given (rows_of found)
flag_is_read found name is_given value other none = record {
  given = λ h. value (sym (one_of-rows found name) ∙ h);
  left_out = λ h. other (sym (one_of-rows found name) ∙ h);
  absent = λ h. none (sym (one_of-rows found name) ∙ h);
}

pub not_true : (b : Bool) → not b ≡ true → b ≡ false
not_true true is = sym is
not_true false is = refl

-- an option that has this value
pub some_of : {T : Type 0} (o : Option T) (x : T) → IsSomeAnd o (λ y. y ≡ x) → o ≡ Some x
some_of None x is = absurd is
some_of (Some y) x is = ap Some is

-- the names of files that a getter gives: none, one, or several
pub none_named : (found : Found) (names : List (Bor Text)) → length names < 1
    → Some (map (λ n. n.now) names) ≡ option_map raw_values (matched_of found (codes "FILE")) → (text : Text) (texts : List Text)
    → all_of (codes "FILE") (rows_of found) ≡ Some (text ∷ texts) → ⊥
none_named found [] few is text texts are = let bad : Some [] ≡ Some (text ∷ texts) = is ∙ sym (all_of-rows found (codes "FILE")) ∙ are in cc
none_named found (n ∷ ns) few is text texts are = absurd (omega (arith, few))

pub one_named : (found : Found) (names : List (Bor Text)) (d : Bor Text) → 1 ≤ length names → length names < 2
    → Some (map (λ n. n.now) names) ≡ option_map raw_values (matched_of found (codes "FILE"))
    → all_of (codes "FILE") (rows_of found) ≡ Some ((get_or names 0 d).now ∷ [])
one_named found [] d some one is = absurd (omega (arith, some))
one_named found (n ∷ []) d some one is = all_of-rows found (codes "FILE") ∙ sym is
one_named found (n ∷ m ∷ ns) d some one is = absurd (omega (arith, one))

pub many_named : (found : Found) (names : List (Bor Text)) (options : MatchOptions) (is_given : Bool) → 0 < length names → (1 < length names)
    ⊎ ((is_given ≡ true) ⊎ (is_named options ≡ true)) → HasFlag (codes "with-names") is_given (rows_of found)
    → Some (map (λ n. n.now) names) ≡ option_map raw_values (matched_of found (codes "FILE")) → first_of (codes "NAMES") (rows_of found) ≡ None
    → NamesMany names options (rows_of found)
many_named found names options is_given some several flag is unlisted =
    record { are = all_of-rows found (codes "FILE") ∙ sym is; some = some; unlisted = unlisted; named = by several }
  where
    by : (1 < length names) ⊎ ((is_given ≡ true) ⊎ (is_named options ≡ true)) → (1 < length names)
        ⊎ (HasFlag (codes "with-names") true (rows_of found) ⊎ (is_named options ≡ true))
    by (inl many) = inl many
    by (inr (inl given)) = inr (inl (subst (λ b. HasFlag (codes "with-names") b (rows_of found)) given flag))
    by (inr (inr has)) = inr (inr has)

-- neither of two is so
pub neither_first : (a b : Bool) → (a || b) ≡ false → a ≡ false
neither_first false b is = refl
neither_first true b is = let bad : true ≡ false = is in cc

pub neither_second : (a b : Bool) → (a || b) ≡ false → b ≡ false
neither_second false b is = is
neither_second true b is = let bad : true ≡ false = is in cc

pub none_given : (o : Option (Bor Text)) → is_some o ≡ false → option_map (λ w. w.now) o ≡ None
none_given None is = refl
none_given (Some w) is = let bad : true ≡ false = is in cc
