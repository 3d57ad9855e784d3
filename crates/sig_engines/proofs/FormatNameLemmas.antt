-- The names of formats in a table of them.
use Rattle.std.proofs.Common.{◌≡◌, ◌⊎◌, ◌∙◌, ◌++◌, ◌+◌, ◌∷◌, [], ℕ, Bool, Err, Ok, Result, inl, inr, List, None, Option, Some, ap, false, map, refl, true}
use Rattle.std.proofs.lemmas.List.{map-append}
use Rattle.sig_engines.specs.FormatNames.{NameList, names_from, read_on, with_name}
use Rattle.sig_engines.specs.declared.format_names.NamesError.{NamesError}
use Rattle.sig_engines.specs.declared.format_names.NamesError.TheVariants.{OutOfMemory}
use Rattle.sig_table.specs.Judging.{Records}
use Rattle.std.specs.Map.{lookup}
use Rattle.std.specs.Prelude.{is_some, option_map}

-- what is found among entries is found among their values
pub lookup-values : {K X Y : Type 0} (value_of : X → Y) (test : K → Bool) (es : List (K × X))
    → option_map value_of (lookup test es) ≡ lookup test (map {B = K × Y} (λ e. (e.0, value_of e.1)) es)
lookup-values value_of test [] = refl
lookup-values {K = K} {X = X} {Y = Y} value_of test (e ∷ es) = go (test e.0) refl (lookup-values value_of test es)
  where
    go : (b : Bool) → test e.0 ≡ b → option_map value_of (lookup test es) ≡ lookup test (map {B = K × Y} (λ e. (e.0, value_of e.1)) es)
        → option_map value_of (lookup test (e ∷ es)) ≡ lookup test (map {B = K × Y} (λ e. (e.0, value_of e.1)) (e ∷ es))
    go true is rest = rw is refl
    go false is rest = rw is rest

pub none_of : {X : Type 0} (o : Option X) → is_some o ≡ false → o ≡ None
none_of None is = refl
none_of (Some x) is = let bad : true ≡ false = is in cc

pub some_map : {X Y : Type 0} (f : X → Y) (o : Option X) → is_some (option_map f o) ≡ is_some o
some_map f None = refl
some_map f (Some x) = refl

-- one entry more
pub values-more : {K X Y : Type 0} (value_of : X → Y) (es more : List (K × X)) (k : K) (x : X) → more ≡ es ++ (k, x) ∷ []
    → map {B = K × Y} (λ e. (e.0, value_of e.1)) more ≡ map {B = K × Y} (λ e. (e.0, value_of e.1)) es ++ (k, value_of x) ∷ []
values-more value_of es more k x is = ap (λ l. map (λ e. (e.0, value_of e.1)) l) is ∙ map-append (λ e. (e.0, value_of e.1)) es ((k, x) ∷ [])

-- ---- rows, one after another

pub from_none : (row : ℕ) (names : NameList) (records : Records) → records ≡ [] → names_from row names records ≡ Ok names
unfolding names_from
from_none row names records none = rw none refl

pub from_more : (row : ℕ) (names more : NameList) (records later : Records) (fields : List (List ℕ)) → records ≡ fields ∷ later
    → with_name row names fields ≡ Ok more → names_from row names records ≡ names_from (row + 1) more later
unfolding names_from
from_more row names more records later fields are with = rw are (ap (λ r. read_on r (λ m. names_from (row + 1) m later)) with)

from_fault : (row : ℕ) (names : NameList) (records later : Records) (fields : List (List ℕ)) (e : NamesError) → records ≡ fields ∷ later
    → with_name row names fields ≡ Err e → names_from row names records ≡ Err e
unfolding names_from
from_fault row names records later fields e are with = rw are (ap (λ r. read_on r (λ m. names_from (row + 1) m later)) with)

-- the fault of a row is that of all
pub rows_fault : (all : Result NameList NamesError) (row : ℕ) (names : NameList) (records later : Records) (fields : List (List ℕ)) (e : NamesError)
    → all ≡ names_from row names records → records ≡ fields ∷ later → (e ≡ OutOfMemory) ⊎ (with_name row names fields ≡ Err e) → (e ≡ OutOfMemory)
    ⊎ (all ≡ Err e)
rows_fault all row names records later fields e goes are (inl memory) = inl memory
rows_fault all row names records later fields e goes are (inr is) = inr (goes ∙ from_fault row names records later fields e are is)
