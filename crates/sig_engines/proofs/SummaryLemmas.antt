-- The lines of formats are written one after another.
use Rattle.std.proofs.Common.{◌≡◌, ◌∙◌, ℕ, ◌+◌, ◌-◌, ◌<◌, suc, Bool, List, [], ◌∷◌, ◌++◌, ap, append_assoc, arith, false, length, map, refl, sym, true}
use Rattle.std.specs.Prelude.{cond, filter, flat_map}
use Rattle.std.specs.List.{range_with_len}
use Rattle.std.proofs.lemmas.List.{append-nil, map-id}
use Rattle.std.proofs.lemmas.List.FromFn.{filter_of_map_range_with_len_more}
use Rattle.std.proofs.lemmas.Grind.{flat_map-append}
use Rattle.sig_table.specs.Views.{TableView}
use Rattle.sig_engines.specs.Notes.{formats_below, formats_in, summary_line}
use Rattle.sig_engines.specs.declared.note.Note.{Note}

-- the formats in fewer lines than one more are those in just so many and those in fewer
below_is : (formats : ℕ) (notes : List Note) (n m : ℕ) → n ≡ suc m → formats_below formats notes n ≡ formats_in formats notes m ++ formats_below formats notes m
below_is formats notes n m is = rw is refl

pub fewer_written : (table : TableView) (notes : List Note) (formats fewer : ℕ) (before after all : List ℕ) → fewer < length notes + 1
    → before ++ flat_map (summary_line table notes) (formats_below formats notes (length notes + 1 - fewer)) ≡ all
    → after ≡ before ++ flat_map (summary_line table notes) (formats_in formats notes (length notes - fewer))
    → after ++ flat_map (summary_line table notes) (formats_below formats notes (length notes + 1 - (fewer + 1))) ≡ all
fewer_written table notes formats fewer before after all within whole is =
    let line = summary_line table notes in
    let m = length notes - fewer in
    let here : length notes + 1 - fewer ≡ suc m = omega (arith, within) in
    let next : length notes + 1 - (fewer + 1) ≡ m = omega (arith, within) in
    let split : flat_map line (formats_below formats notes (length notes + 1 - fewer)) ≡ flat_map line (formats_in formats notes m) ++ flat_map line
    (formats_below formats notes m) =
    ap (flat_map line) (below_is formats notes (length notes + 1 - fewer) m here) ∙ flat_map-append line (formats_in formats notes m)
    (formats_below formats notes m) in
    ap (λ n. after ++ flat_map line (formats_below formats notes n)) next ∙ ap (λ l. l ++ flat_map line (formats_below formats notes m)) is
    ∙ append_assoc before (flat_map line (formats_in formats notes m)) (flat_map line (formats_below formats notes m)) ∙ ap (λ l. before ++ l) (sym split)
    ∙ whole

-- ---- the formats that are in so many lines

range_more : (p : ℕ → Bool) (n : ℕ) → filter p (range_with_len 0 (n + 1)) ≡ filter p (range_with_len 0 n) ++ cond (p n) (n ∷ []) []
range_more p n =
    let all : map (λ (x : ℕ). x) (range_with_len 0 (n + 1)) ≡ range_with_len 0 (n + 1) = map-id (range_with_len 0 (n + 1)) in
    let some : map (λ (x : ℕ). x) (range_with_len 0 n) ≡ range_with_len 0 n = map-id (range_with_len 0 n) in
    ap (filter p) (sym all) ∙ filter_of_map_range_with_len_more p (λ (x : ℕ). x) 0 n n (omega arith) ∙ ap (λ l. filter p l ++ cond (p n) (n ∷ []) []) some

-- the next format is in just so many, and its line is written
pub format_written : (line : ℕ → List ℕ) (p : ℕ → Bool) (n : ℕ) (begun before after : List ℕ) → p n ≡ true
    → before ≡ begun ++ flat_map line (filter p (range_with_len 0 n)) → after ≡ before ++ line n
    → after ≡ begun ++ flat_map line (filter p (range_with_len 0 (n + 1)))
format_written line p n begun before after is whole more =
    let all : flat_map line (filter p (range_with_len 0 (n + 1))) ≡ flat_map line (filter p (range_with_len 0 n)) ++ line n =
    ap (flat_map line) (range_more p n ∙ ap (λ b. filter p (range_with_len 0 n) ++ cond b (n ∷ []) []) is) ∙ flat_map-append line
    (filter p (range_with_len 0 n)) (n ∷ [])
    ∙ ap (λ l. flat_map line (filter p (range_with_len 0 n)) ++ l) (append-nil (line n)) in
    more ∙ ap (λ l. l ++ line n) whole ∙ append_assoc begun (flat_map line (filter p (range_with_len 0 n))) (line n) ∙ ap (λ l. begun ++ l) (sym all)

-- it is not
pub format_passed : (line : ℕ → List ℕ) (p : ℕ → Bool) (n : ℕ) (begun before : List ℕ) → p n ≡ false
    → before ≡ begun ++ flat_map line (filter p (range_with_len 0 n))
    → before ≡ begun ++ flat_map line (filter p (range_with_len 0 (n + 1)))
format_passed line p n begun before is_not whole =
    whole ∙ ap (λ l. begun ++ flat_map line l) (sym (range_more p n ∙ ap (λ b. filter p (range_with_len 0 n) ++ cond b (n ∷ []) []) is_not ∙ append-nil
    (filter p (range_with_len 0 n))))
