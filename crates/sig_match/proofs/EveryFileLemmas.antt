-- Every file has hit formats: whether a sequence stands in a file is decided.
use Rattle.std.proofs.Common.{◌≡◌, ◌⊎◌, ℕ, zero, suc, ◌+◌, ◌<◌, List, [], ◌∷◌, ◌++◌, All, Option, Some, None, length, slice_get, ap, refl, subst}
use Rattle.std.proofs.Common.{sym, ◌∙◌, inl, inr, arith}
use Rattle.std.proofs.lemmas.Bool.{cases_eq}
use Rattle.std.proofs.lemmas.List.Elements.{All-cons, All-head, All-nil, All-tail}
use Rattle.std.proofs.lemmas.Option.{get_or_from_slice_get, slice_get_within}
use Rattle.sig_auto.proofs.Exports.{stands_or_not}
use Rattle.sig_bits.specs.Bytes.{IsBytes}
use Rattle.sig_table.specs.declared.ids.SigId.{SigId}
use Rattle.sig_table.specs.Standing.{Hits, Stands}
use Rattle.sig_table.specs.Tables.{IsSequence, IsTable}
use Rattle.sig_table.specs.Views.{SequenceView, SignatureView, TableView}
use Rattle.sig_core.specs.FirstHits.{IsFirstBelow}
use Rattle.sig_core.specs.Hits.{HitFormats, HitsAt, Left, kept_hits}
use Rattle.sig_core.specs.declared.results.Hit.{Hit}
use Rattle.sig_core.proofs.Exports.{HitFormats-from_Listed, Listed, Listed-keep, Listed-none, Listed-push}

-- each of the sequences stands in the file, or one does not
all_stand_or_not : (file : List ℕ) → IsBytes file → (sequences : List SequenceView) → All IsSequence sequences → All (λ s. Stands s file) sequences
    ⊎ ¬ All (λ s. Stands s file) sequences
all_stand_or_not file bytes [] are = inl (All-nil (λ s. Stands s file))
all_stand_or_not file bytes (s ∷ sequences) are =
    elim (stands_or_not s file (All-head IsSequence s sequences are) bytes) [
      | inr fails ↦ inr (λ all. fails (All-head (λ s. Stands s file) s sequences all))
      | inl stands ↦ elim (all_stand_or_not file bytes sequences (All-tail IsSequence s sequences are)) [
        | inl later ↦ inl (All-cons (λ s. Stands s file) s sequences stands later)
        | inr fail ↦ inr (λ all. fail (All-tail (λ s. Stands s file) s sequences all))
      ]
    ]

-- an option is there or not
some_or_none : (o : Option SignatureView) → ((s : SignatureView) × (o ≡ Some s)) ⊎ (o ≡ None)
some_or_none None = inr refl
some_or_none (Some s) = inl (s, refl)

module _ (table : TableView) (file : List ℕ) (is : IsTable table) (bytes : IsBytes file) where
  hits_at_or_not : (format index : ℕ) → HitsAt table file format index ⊎ ¬ HitsAt table file format index
  hits_at_or_not format index = elim (some_or_none (slice_get table.signatures index)) [
    | inr none ↦ inr (λ hit. let e : None ≡ Some hit.signature = sym none ∙ hit.at in cc)
    | inl there ↦
        let own : SignatureView = there.0 in
        let within : index < length table.signatures = slice_get_within table.signatures index own there.1 in
        let sequences : All IsSequence own.sequences =
        subst (λ (s : SignatureView). All IsSequence s.sequences) (get_or_from_slice_get table.signatures index own own there.1)
        (is.each index own within).sequences in
        elim (cases_eq own.format format) [
          | inr other ↦ inr (λ hit. let both : Some own ≡ Some hit.signature = sym there.1 ∙ hit.at in let same : own ≡ hit.signature = cc in
              other (ap (λ (s : SignatureView). s.format) same ∙ hit.of_format))
          | inl of ↦ elim (all_stand_or_not file bytes own.sequences sequences) [
            | inl stand ↦ inl (record { signature = own; at = there.1; of_format = of; hits = stand })
            | inr fail ↦ inr (λ hit. let both : Some own ≡ Some hit.signature = sym there.1 ∙ hit.at in let same : own ≡ hit.signature = cc in
                fail (subst (λ s. Hits s file) (sym same) hit.hits))
          ]
        ]
  ]

  -- the first signature of a format that hits, of the first so many
  first_below : (format limit : ℕ) → (first : Option SigId) × IsFirstBelow table file limit format first
  first_below format zero = (None, λ index below. absurd (omega arith))
  first_below format (suc limit) = next (first_below format limit).0 (first_below format limit).1
    where
      next : (first : Option SigId) → IsFirstBelow table file limit format first → (more : Option SigId) × IsFirstBelow table file (suc limit) format more
      next (Some s) is_first = (Some s, is_first)
      next None never = elim (hits_at_or_not format limit) [
        | inl hit ↦ (Some (record { 0 = limit }), record { hits = hit; first = never })
        | inr fails ↦ (
          None,
          λ index below hit. elim (cases_eq index limit) [
            | inl same ↦ fails (subst (HitsAt table file format) same hit)
            | inr other ↦ never index (omega arith) hit
          ],
        )
      ]

  -- the hits of the first so many formats
  listed : (formats : ℕ) → (hits : List Hit) × Listed table file (length table.signatures) formats hits
  listed zero = ([], Listed-none table file (length table.signatures))
  listed (suc formats) =
      let before = listed formats in
      let next : formats + 1 ≡ suc formats = omega arith in
      let found = add (first_below formats (length table.signatures)).0 (first_below formats (length table.signatures)).1 before.0 before.1 in
      (found.0, subst (λ n. Listed table file (length table.signatures) n found.0) next found.1)
    where
      add : (first : Option SigId) → IsFirstBelow table file (length table.signatures) formats first → (hits : List Hit)
          → Listed table file (length table.signatures) formats hits
          → (more : List Hit) × Listed table file (length table.signatures) (formats + 1) more
      add None never hits are = (hits, Listed-keep table file (length table.signatures) formats hits None refl never are)
      add (Some s) is_first hits are =
          let hit : Hit = record { format = record { 0 = formats }; signature = s } in
          (hits ++ hit ∷ [], Listed-push table file (length table.signatures) formats hits hit (Some s) refl refl is_first are)

  pub hit_formats_there : (hits : List Hit) × HitFormats table file hits
  hit_formats_there =
      let all = listed (length table.formats) in
      (all.0, HitFormats-from_Listed table file all.0 is all.1)

  pub left_there : (left : List Hit) × Left table file left
  left_there =
      let all = hit_formats_there in
      (kept_hits table all.0, record { hits = all.0; all_hits = all.1; kept = refl })
