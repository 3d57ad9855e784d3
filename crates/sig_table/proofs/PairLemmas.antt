-- The pairs with that of a record more.
use Rattle.std.proofs.Common.{◌≡◌, ℕ, false, List, [], ◌∷◌, ◌++◌, sym, ap, refl, Ok, Err, None}
use Rattle.sig_table.proofs.FaultLemmas.{IsFault-map, IsFault-told}
use Rattle.sig_table.proofs.JudgingLemmas.{unless-err}
use Rattle.sig_table.specs.declared.error.TableError.{TableError}
use Rattle.sig_table.specs.declared.puid.Puid.{Puid}
use Rattle.sig_table.specs.Files.{PairRowsView, with_pair_row}
use Rattle.sig_table.specs.Judging.{IsFault, is_read, unless}
use Rattle.sig_table.specs.Loading.{pair_fault, pair_of, with_pair}
use Rattle.sig_table.specs.RankingViews.{RankingView}

module _ (formats : List Puid) (n : ℕ) (pairs : List (ℕ × ℕ)) (fields : List (List ℕ)) where
  pub with_pair-more : (pair : ℕ × ℕ) → pair_of formats n fields ≡ Ok pair → pair_fault pairs n pair ≡ None
      → with_pair formats n pairs fields ≡ Ok (pairs ++ pair ∷ [])
  unfolding with_pair
  with_pair-more pair read fine = rw (read, fine) refl

  pub with_pair-unread : (e : TableError) → pair_of formats n fields ≡ Err e → with_pair formats n pairs fields ≡ Err e
  unfolding with_pair
  with_pair-unread e read = rw read refl

  pub with_pair-faulty : {A : Type 0} (x : A) (pair : ℕ × ℕ) (e : TableError) → pair_of formats n fields ≡ Ok pair
      → unless (pair_fault pairs n pair) (Ok x) ≡ Err e → with_pair formats n pairs fields ≡ Err e
  unfolding with_pair
  with_pair-faulty x pair e read fault = rw read (unless-err (pair_fault pairs n pair) x _ e fault)

-- pairs with their formats, with a record more
module _ (formats : List Puid) (n : ℕ) (old : RankingView) (fields : List (List ℕ)) (pair : ℕ × ℕ) where
  pub with_pair_row-more : (more : RankingView) → pair_of formats n fields ≡ Ok pair
      → (pair_fault old.pairs n pair ≡ None) × (more ≡ record old { pairs = old.pairs ++ pair ∷ [] })
      → with_pair_row n (record { formats = formats; pairs = old.pairs }) fields ≡ Ok (record { formats = formats; pairs = more.pairs })
  with_pair_row-more more read h = rw (with_pair-more formats n old.pairs fields pair read h.0)
      (ap (λ (x : RankingView). Ok (record { formats = formats; pairs = x.pairs })) (sym h.1))

  pub with_pair_row-faulty : (e : TableError) → pair_of formats n fields ≡ Ok pair → IsFault (unless (pair_fault old.pairs n pair) (Ok old)) e
      → IsFault (with_pair_row n (record { formats = formats; pairs = old.pairs }) fields) e
  with_pair_row-faulty e read h = IsFault-map _ _ e (λ fault. rw (with_pair-faulty formats n old.pairs fields old pair e read fault) refl) h

pub with_pair_row-unread : (n : ℕ) (rows : PairRowsView) (fields : List (List ℕ)) (e : TableError) → is_read e ≡ false → pair_of rows.formats n fields ≡ Err e
    → IsFault (with_pair_row n rows fields) e
with_pair_row-unread n rows fields e no_read read = IsFault-told _ _ no_read (rw (with_pair-unread rows.formats n rows.pairs fields e read) refl)
