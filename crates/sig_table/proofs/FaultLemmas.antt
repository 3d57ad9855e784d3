-- How a refusal goes on.
use Rattle.std.proofs.Common.{◌≡◌, Bool, true, false, ◌||◌, sym, ap, ◌∙◌, Result, Ok, Err, IfOk, IfErr}
use Rattle.std.specs.Bool.{OnFalse}
use Rattle.sig_table.specs.declared.error.TableError.{TableError}
use Rattle.sig_table.specs.declared.error.TableError.TheVariants as error
use Rattle.sig_table.specs.Judging.{IsFault, Exact, is_memory, is_read}

OnFalse-map : {A B : Type 0} (b : Bool) → (A → B) → OnFalse b A → OnFalse b B
OnFalse-map true f h = h
OnFalse-map false f h = f h

-- a fault that is no failed read is told
pub IsFault-told : {A : Type 0} (told : Result A TableError) (e : TableError) → is_read e ≡ false → told ≡ Err e → IsFault told e
IsFault-told told e no_read is = record { no_read = no_read; exact = OnFalse-of (is_memory e) is }
  where
    OnFalse-of : {P : Type 0} (b : Bool) → P → OnFalse b P
    OnFalse-of true h = tt
    OnFalse-of false h = h

-- what refuses the one refuses the other
pub IsFault-map : {A B : Type 0} (a : Result A TableError) (b : Result B TableError) (e : TableError) → (a ≡ Err e → b ≡ Err e) → IsFault a e → IsFault b e
IsFault-map a b e f h = record { no_read = h.no_read; exact = OnFalse-map (is_memory e) f h.exact }

-- and of files
pub Exact-from_IsFault : {A B : Type 0} (a : Result A TableError) (b : Result B TableError) (e : TableError) → (a ≡ Err e → b ≡ Err e) → IsFault a e
    → OnFalse (is_read e || is_memory e) (b ≡ Err e)
Exact-from_IsFault a b e f h = rw h.no_read (OnFalse-map (is_memory e) f h.exact)

-- a last step that only memory can refuse
pub Exact-last : {A : Type 0} (r told : Result A TableError) (x : A) → IfOk r (λ y. y ≡ x) → IfErr r (λ e. e ≡ error.OutOfMemory) → told ≡ Ok x → Exact r told
Exact-last (Ok y) told x same memory h = h ∙ ap (λ z. Ok z) (sym same)
Exact-last (Err e) told x same memory h = rw memory tt
