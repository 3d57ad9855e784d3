-- What holds at each place of two or three lists.
use Rattle.std.proofs.Common.{List, [], ◌∷◌, All}
use Rattle.std.specs.List.{AllZip}
use Rattle.std.proofs.lemmas.List.Elements.{All-cons, All-head, All-nil, All-tail, All-weaker}
use Rattle.sig_product.specs.Rows.{AllTriples}

-- a partner for each member
pub choose : {A B : Type 0} (R : A → B → Type 0) (xs : List A) → All (λ x. (y : B) × R x y) xs → (ys : List B) × AllZip R xs ys
choose R [] some = ([], tt)
choose {A} {B} R (x ∷ xs) some =
    let P : A → Type 0 = λ x. (y : B) × R x y in
    let one : P x = All-head P x xs some in
    let more = choose R xs (All-tail P x xs some) in
    (one.0 ∷ more.0, (one.1, more.1))

pub gather : {A B : Type 0} (P : A → Type 0) (R : A → B → Type 0) → ((x : A) → P x → (y : B) × R x y) → (xs : List A) → All P xs → (ys : List B)
    × AllZip R xs ys
gather {A} {B} P R some xs all = choose R xs (All-weaker P (λ x. (y : B) × R x y) some xs all)

-- what holds of two places, each place alone
pub zip_weaker : {A B : Type 0} (R S : A → B → Type 0) → ((x : A) (y : B) → R x y → S x y) → (xs : List A) (ys : List B) → AllZip R xs ys → AllZip S xs ys
zip_weaker R S to [] [] h = tt
zip_weaker R S to [] (y ∷ ys) h = absurd h
zip_weaker R S to (x ∷ xs) [] h = absurd h
zip_weaker R S to (x ∷ xs) (y ∷ ys) h = (to x y h.0, zip_weaker R S to xs ys h.1)

pub zip_both : {A B : Type 0} (R S U : A → B → Type 0) → ((x : A) (y : B) → R x y → S x y → U x y) → (xs : List A) (ys : List B) → AllZip R xs ys
    → AllZip S xs ys → AllZip U xs ys
zip_both R S U to [] [] h k = tt
zip_both R S U to [] (y ∷ ys) h k = absurd h
zip_both R S U to (x ∷ xs) [] h k = absurd h
zip_both R S U to (x ∷ xs) (y ∷ ys) h k = (to x y h.0 k.0, zip_both R S U to xs ys h.1 k.1)

pub zip_chain : {A B C : Type 0} (R : A → B → Type 0) (S : B → C → Type 0) (U : A → C → Type 0) → ((x : A) (y : B) (z : C) → R x y → S y z → U x z)
    → (xs : List A) (ys : List B) (zs : List C) → AllZip R xs ys → AllZip S ys zs → AllZip U xs zs
zip_chain R S U to [] [] [] h k = tt
zip_chain R S U to [] [] (z ∷ zs) h k = absurd k
zip_chain R S U to [] (y ∷ ys) zs h k = absurd h
zip_chain R S U to (x ∷ xs) [] zs h k = absurd h
zip_chain R S U to (x ∷ xs) (y ∷ ys) [] h k = absurd k
zip_chain R S U to (x ∷ xs) (y ∷ ys) (z ∷ zs) h k = (to x y z h.0 k.0, zip_chain R S U to xs ys zs h.1 k.1)

-- what holds of the members of the second list
pub zip_right : {A B : Type 0} (R : A → B → Type 0) (P : B → Type 0) → ((x : A) (y : B) → R x y → P y) → (xs : List A) (ys : List B) → AllZip R xs ys → All P ys
zip_right R P to [] [] h = All-nil P
zip_right R P to [] (y ∷ ys) h = absurd h
zip_right R P to (x ∷ xs) [] h = absurd h
zip_right R P to (x ∷ xs) (y ∷ ys) h = All-cons P y ys (to x y h.0) (zip_right R P to xs ys h.1)

-- what holds of the members of the first list holds beside the second
pub zip_left : {A B : Type 0} (R S : A → B → Type 0) (P : A → Type 0) → ((x : A) (y : B) → P x → R x y → S x y) → (xs : List A) (ys : List B) → All P xs
    → AllZip R xs ys → AllZip S xs ys
zip_left R S P to [] [] all h = tt
zip_left R S P to [] (y ∷ ys) all h = absurd h
zip_left R S P to (x ∷ xs) [] all h = absurd h
zip_left R S P to (x ∷ xs) (y ∷ ys) all h = (to x y (All-head P x xs all) h.0, zip_left R S P to xs ys (All-tail P x xs all) h.1)

pub zip_first : {A B : Type 0} (R : A → B → Type 0) (P : A → Type 0) → ((x : A) (y : B) → R x y → P x) → (xs : List A) (ys : List B) → AllZip R xs ys → All P xs
zip_first R P to [] [] h = All-nil P
zip_first R P to [] (y ∷ ys) h = absurd h
zip_first R P to (x ∷ xs) [] h = absurd h
zip_first R P to (x ∷ xs) (y ∷ ys) h = All-cons P x xs (to x y h.0) (zip_first R P to xs ys h.1)

-- a third list between a first and a second
pub triples_from : {A B C : Type 0} (R : A → B → Type 0) (S : A → C → Type 0) (U : A → B → C → Type 0) → ((x : A) (y : B) (z : C) → R x y → S x z → U x y z)
    → (xs : List A) (ys : List B) (zs : List C) → AllZip R xs ys → AllZip S xs zs → AllTriples U xs ys zs
triples_from R S U to [] [] [] h k = tt
triples_from R S U to [] [] (z ∷ zs) h k = absurd k
triples_from R S U to [] (y ∷ ys) zs h k = absurd h
triples_from R S U to (x ∷ xs) [] zs h k = absurd h
triples_from R S U to (x ∷ xs) (y ∷ ys) [] h k = absurd k
triples_from R S U to (x ∷ xs) (y ∷ ys) (z ∷ zs) h k = (to x y z h.0 k.0, triples_from R S U to xs ys zs h.1 k.1)

-- what holds of the members of the second list holds beside the first
pub zip_with_right : {A B : Type 0} (R S : A → B → Type 0) (P : B → Type 0) → ((x : A) (y : B) → P y → R x y → S x y) → (xs : List A) (ys : List B) → All P ys
    → AllZip R xs ys → AllZip S xs ys
zip_with_right R S P to [] [] all h = tt
zip_with_right R S P to [] (y ∷ ys) all h = absurd h
zip_with_right R S P to (x ∷ xs) [] all h = absurd h
zip_with_right R S P to (x ∷ xs) (y ∷ ys) all h = (to x y (All-head P y ys all) h.0, zip_with_right R S P to xs ys (All-tail P y ys all) h.1)

-- what holds of the first list and the third
pub zip_from_triples : {A B C : Type 0} (R : A → B → Type 0) (U : A → B → C → Type 0) (T S : A → C → Type 0)
    → ((x : A) (y : B) (z : C) → R x y → U x y z → T x z → S x z) → (xs : List A) (ys : List B) (zs : List C) → AllZip R xs ys → AllTriples U xs ys zs
    → AllZip T xs zs → AllZip S xs zs
zip_from_triples R U T S to [] [] [] h u t = tt
zip_from_triples R U T S to [] [] (z ∷ zs) h u t = absurd u
zip_from_triples R U T S to [] (y ∷ ys) zs h u t = absurd h
zip_from_triples R U T S to (x ∷ xs) [] zs h u t = absurd h
zip_from_triples R U T S to (x ∷ xs) (y ∷ ys) [] h u t = absurd u
zip_from_triples R U T S to (x ∷ xs) (y ∷ ys) (z ∷ zs) h u t = (to x y z h.0 u.0 t.0, zip_from_triples R U T S to xs ys zs h.1 u.1 t.1)
