-- What is taken of a list of names, where its bytes are known.
use Rattle.std.proofs.Common.{◌≡◌, ◌++◌, ◌∷◌, ◌∙◌, [], ℕ, List, Bool, true, false, None, Option, Some, Ok, Result, ap, arith, append_assoc, refl, sym}
use Rattle.std.proofs.lemmas.Bool.{eq-eqb, ne_eqb}
use Rattle.std.proofs.lemmas.List.{append-nil}
use Rattle.std.specs.Prelude.{IfSome, not, option_map, length, ◌==◌}
use Rattle.sig_bits.specs.Device.{Gives, IsAtEnd}
use Rattle.sig_engines.specs.Listed.{AreListed, LacksByte, MovesName, TakesNames, last_name, listed, names_behind}
use Rattle.sig_engines.proofs.ListedLemmas.{lacks_both, takes_first, takes_last}

-- a name with its end
pub taken : (end : ℕ) (all come : Option (List ℕ)) (name piece rest moved : List ℕ) → LacksByte end name → Gives all name (option_map (λ r. piece ++ r) come)
    → MovesName end true piece name rest moved → TakesNames end all (moved ∷ []) (option_map (λ r. rest ++ r) come)
taken end None come name piece rest moved lacks given moves = tt
taken end (Some all) None name piece rest moved lacks given moves = given
taken end (Some all) (Some come) name piece rest moved lacks given moves =
    let front : List ℕ = moves.0 in
    let whole : all ≡ (name ++ front) ++ end ∷ (rest ++ come) =
    given ∙ ap (λ p. name ++ (p ++ come)) moves.3 ∙ ap (λ l. name ++ l) (append_assoc front (end ∷ rest) come) ∙ sym
    (append_assoc name front (end ∷ (rest ++ come))) in
    ap (listed end) whole ∙ takes_first end (name ++ front) (rest ++ come) (lacks_both end name front lacks moves.2) ∙ ap (λ m. m ∷ listed end (rest ++ come))
    (sym moves.1)

-- what stands behind the last end
last : (end : ℕ) (all come after : Option (List ℕ)) (name piece read rest moved : List ℕ) → LacksByte end name
    → Gives all name (option_map (λ r. piece ++ r) come) → MovesName end false piece name rest moved → Gives come read after → read ≡ [] → IsAtEnd after
    → IfSome all (λ a. listed end a ≡ last_name moved)
last end None come after name piece read rest moved lacks given moves gives none at_end = tt
last end (Some all) None after name piece read rest moved lacks given moves gives none at_end = absurd given
last end (Some all) (Some come) None name piece read rest moved lacks given moves gives none at_end = absurd gives
last end (Some all) (Some come) (Some after) name piece read rest moved lacks given moves gives none at_end =
    let nothing : come ≡ [] = gives ∙ ap (λ r. r ++ after) none ∙ at_end in
    let whole : all ≡ moved = given ∙ ap (λ c. name ++ (piece ++ c)) nothing ∙ ap (λ l. name ++ l) (append-nil piece) ∙ sym moves.0 in
    ap (listed end) whole ∙ takes_last end moved (rw moves.0 (lacks_both end name piece lacks moves.1))

of_some : {E : Type 0} (moved : List ℕ) (is_empty : Bool) → is_empty ≡ (length moved == 0) → ◌≡◌ {A = Result Bool E} (Ok (not is_empty)) (Ok true)
    → last_name moved ≡ moved ∷ []
of_some [] is_empty empty answers = let is : is_empty ≡ true = empty ∙ eq-eqb 0 0 refl in cc
of_some (b ∷ bytes) is_empty empty answers = refl

-- a last name without an end
pub last_taken : {E : Type 0} (end : ℕ) (all come after : Option (List ℕ)) (name piece read rest moved : List ℕ) → LacksByte end name
    → Gives all name (option_map (λ r. piece ++ r) come) → MovesName end false piece name rest moved → Gives come read after → read ≡ [] → IsAtEnd after
    → (is_empty : Bool) → is_empty ≡ (length moved == 0) → ◌≡◌ {A = Result Bool E} (Ok (not is_empty)) (Ok true)
    → TakesNames end all (moved ∷ []) (option_map (λ r. read ++ r) after)
unfolding names_behind
last_taken end None come after name piece read rest moved lacks given moves gives none at_end is_empty empty answers = tt
last_taken end (Some all) None after name piece read rest moved lacks given moves gives none at_end is_empty empty answers = absurd given
last_taken end (Some all) (Some come) None name piece read rest moved lacks given moves gives none at_end is_empty empty answers = absurd gives
last_taken end (Some all) (Some come) (Some after) name piece read rest moved lacks given moves gives none at_end is_empty empty answers =
    let is : listed end all ≡ last_name moved = last end (Some all) (Some come) (Some after) name piece read rest moved lacks given moves gives none at_end in
    is ∙ of_some moved is_empty empty answers ∙ ap (λ r. moved ∷ listed end r) (sym (ap (λ r. r ++ after) none ∙ at_end))

of_none : {E : Type 0} (moved : List ℕ) (is_empty : Bool) → is_empty ≡ (length moved == 0) → ◌≡◌ {A = Result Bool E} (Ok (not is_empty)) (Ok false)
    → last_name moved ≡ []
of_none [] is_empty empty answers = refl
of_none (b ∷ bytes) is_empty empty answers = let is : is_empty ≡ false = empty ∙ ne_eqb (length (b ∷ bytes)) 0 (λ e. omega (arith, e)) in cc

-- no name at all
pub none_taken : {E : Type 0} (end : ℕ) (all come after : Option (List ℕ)) (name piece read rest moved : List ℕ) → LacksByte end name
    → Gives all name (option_map (λ r. piece ++ r) come) → MovesName end false piece name rest moved → Gives come read after → read ≡ [] → IsAtEnd after
    → (is_empty : Bool) → is_empty ≡ (length moved == 0) → ◌≡◌ {A = Result Bool E} (Ok (not is_empty)) (Ok false) → AreListed end all []
none_taken end None come after name piece read rest moved lacks given moves gives none at_end is_empty empty answers = tt
none_taken end (Some all) come after name piece read rest moved lacks given moves gives none at_end is_empty empty answers =
    sym (last end (Some all) come after name piece read rest moved lacks given moves gives none at_end ∙ of_none moved is_empty empty answers)

-- ---- names, one after another

-- no name is taken yet
pub takes_none : (end : ℕ) (all : Option (List ℕ)) → TakesNames end all [] all
takes_none end None = tt
takes_none end (Some all) = refl

-- one name more
pub takes_more : (end : ℕ) (all mid after : Option (List ℕ)) (names more : List (List ℕ)) → TakesNames end all names mid → TakesNames end mid more after
    → TakesNames end all (names ++ more) after
takes_more end None mid after names more first next = tt
takes_more end (Some all) None after names more first next = absurd first
takes_more end (Some all) (Some mid) None names more first next = absurd next
takes_more end (Some all) (Some mid) (Some after) names more first next =
    first ∙ ap (λ l. names ++ l) next ∙ sym (append_assoc names more (listed end after))

-- these are all names of the list
pub takes_all : (end : ℕ) (all after : Option (List ℕ)) (names : List (List ℕ)) → TakesNames end all names after → AreListed end after []
    → AreListed end all names
takes_all end None after names is_taken done = tt
takes_all end (Some all) None names is_taken done = absurd is_taken
takes_all end (Some all) (Some after) names is_taken done = sym (append-nil names) ∙ ap (λ l. names ++ l) done ∙ sym is_taken

-- the first of them
pub takes_first_of : (end : ℕ) (all after : Option (List ℕ)) (names : List (List ℕ)) → TakesNames end all names after → (later : List (List ℕ))
    × AreListed end all (names ++ later)
takes_first_of end None after names is_taken = ([], tt)
takes_first_of end (Some all) None names is_taken = absurd is_taken
takes_first_of end (Some all) (Some after) names is_taken = (listed end after, sym is_taken)

-- some names more, and then others
pub takes_first_more : (end : ℕ) (all mid after : Option (List ℕ)) (names more : List (List ℕ)) → TakesNames end all names mid → TakesNames end mid more after
    → (later : List (List ℕ)) × AreListed end all (names ++ more ++ later)
takes_first_more end all mid after names more is_taken next =
    takes_first_of end all after (names ++ more) (takes_more end all mid after names more is_taken next)

-- the names of any list
pub some_listed : (end : ℕ) (all : Option (List ℕ)) → (names : List (List ℕ)) × AreListed end all names
some_listed end all = takes_first_of end all all [] (takes_none end all)
