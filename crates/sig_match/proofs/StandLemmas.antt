-- When a sequence stands in a file, by its frontiers.
use Rattle.std.proofs.Common.{◌≡◌, ℕ, ◌+◌, ◌-◌, ◌≤◌, List, [], ◌++◌, length, map, take, drop, Option, Some, None, inl, inr, refl, subst, sym, ap, ◌∙◌, arith}
use Rattle.std.proofs.Common.{append_assoc, length-append, length-drop}
use Rattle.std.specs.Prelude.{IfSome, slice_range}
use Rattle.std.proofs.lemmas.List.{take-append-drop, length-take-le, take_at, drop_at, drop_all}
use Rattle.std.proofs.lemmas.List.Folds.{drop_split}
use Rattle.memchr.specs.Find.{OccursAt}
use Rattle.sig_expr.specs.declared.item.Item.{Item}
use Rattle.sig_expr.specs.declared.item.Item.TheVariants as item
use Rattle.sig_expr.specs.Words.{Lang}
use Rattle.sig_table.specs.declared.position.Position.{Position}
use Rattle.sig_table.specs.declared.position.Position.TheVariants as position
use Rattle.sig_table.specs.Standing.{Cut, StandsAt}
use Rattle.sig_match.specs.declared.whole.frontier.Interval.{Interval}
use Rattle.sig_match.specs.Frontiers.{Gains, HasExactly, IsIn, IsWithin, MayBegin, MayEnd, Meets, Reaches}
use Rattle.sig_match.specs.Runs.{Bounds, IsThis}
use Rattle.sig_match.proofs.LangLemmas.{Carries-items, Carries-none, IsThis-from_Lang, Lang-from_IsThis}
use Rattle.sig_match.proofs.ReachLemmas.{Carries, Carries-start, Reaches-nil, Reaches-nil_at, length-slice_range}
use Rattle.sig_match.proofs.RunLemmas.{IsThis-from_OccursAt, OccursAt-from_IsThis}

-- a word in its place cuts the file
pub Cut-from_Reaches : (items : List Item) (file : List ℕ) (S : ℕ → Type 0) (e : ℕ) → Reaches (Lang items) file S e → Cut items file
Cut-from_Reaches items file S e r = record {
  front = take r.start file;
  word = slice_range file r.start e;
  back = drop e file;
  cut =
      sym (take-append-drop r.start file)
      ∙ ap (λ l. take r.start file ++ l) (drop_split file r.start e r.in_order)
      ∙ sym (append_assoc (take r.start file) (slice_range file r.start e) (drop e file));
  is_word = r.is_word;
}

-- where a cut's word ends
abbrev pub cut_end : (items : List Item) (file : List ℕ) → Cut items file → ℕ
cut_end items file c = length c.front + length c.word

-- the lengths of a cut
pub cut_end-length : (items : List Item) (file : List ℕ) (c : Cut items file) → cut_end items file c + length c.back ≡ length file
cut_end-length items file c =
    sym (ap length c.cut ∙ length-append (c.front ++ c.word) c.back ∙ ap (λ n. n + length c.back) (length-append c.front c.word))

-- a cut's word is in its place
pub Reaches-from_Cut : (items : List Item) (file : List ℕ) (S : ℕ → Type 0) (c : Cut items file) → S (length c.front)
    → Reaches (Lang items) file S (cut_end items file c)
Reaches-from_Cut items file S c h =
    let whole = cut_end-length items file c in
    let rest : drop (length c.front) file ≡ c.word ++ c.back =
    ap (drop (length c.front)) (c.cut ∙ append_assoc c.front c.word c.back) ∙ drop_at c.front (c.word ++ c.back) (length c.front) refl in
    let len : (length c.front + length c.word) - length c.front ≡ length c.word = omega arith in
    let word : slice_range file (length c.front) (cut_end items file c) ≡ c.word =
    ap (λ n. take n (drop (length c.front) file)) len ∙ ap (take (length c.word)) rest ∙ take_at c.word c.back (length c.word) refl in
    record {
      start = length c.front;
      is_start = h;
      in_order = omega arith;
      within = omega arith;
      is_word = subst (Lang items) (sym word) c.is_word;
    }

-- a word that may begin and end there stands
StandsAt-from_Reaches : (p : Position) (longest : Option ℕ) (items : List Item) (file : List ℕ) (e : ℕ)
    → Reaches (Lang items) file (MayBegin p longest (length file)) e → MayEnd p (length file) e → StandsAt p items file
unfolding Cut-from_Reaches
StandsAt-from_Reaches (position.Bof min max) longest items file e r may =
    let order = r.in_order in
    let within = r.within in
    let len = length-take-le r.start file (omega arith) in
    let low = r.is_start.0 in
    let high = r.is_start.1 in
    (Cut-from_Reaches items file (MayBegin (position.Bof min max) longest (length file)) e r, rw len low, rw len high)
StandsAt-from_Reaches (position.Eof min max) longest items file e r may =
    let within = r.within in
    let len = length-drop e file in
    let low = may.0 in
    let high = may.1 in
    (Cut-from_Reaches items file (MayBegin (position.Eof min max) longest (length file)) e r, rw len (omega arith), rw len (omega arith))
StandsAt-from_Reaches position.Variable longest items file e r may =
    Cut-from_Reaches items file (MayBegin position.Variable longest (length file)) e r

-- where a word may begin whose end is near enough to the file's
eof_start : (min max : ℕ) (longest : Option ℕ) (items : List Item) (file : List ℕ) → IfSome longest (Bounds (Lang items)) → (c : Cut items file)
    → length c.back ≤ max → MayBegin (position.Eof min max) longest (length file) (length c.front)
eof_start min max None items file bounds c near = tt
eof_start min max (Some n) items file bounds c near =
    let whole = cut_end-length items file c in
    let short = bounds c.word c.is_word in
    omega arith

-- an end of a word that stands
pub record Standing (p : Position) (longest : Option ℕ) (items : List Item) (file : List ℕ) : Type 0 where
  pub end : ℕ
  pub reaches : Reaches (Lang items) file (MayBegin p longest (length file)) end
  pub may_end : MayEnd p (length file) end

Standing-from_StandsAt : (p : Position) (longest : Option ℕ) (items : List Item) (file : List ℕ) → IfSome longest (Bounds (Lang items)) → StandsAt p items file
    → Standing p longest items file
Standing-from_StandsAt (position.Bof min max) longest items file bounds h = record {
  end = cut_end items file h.0;
  reaches = Reaches-from_Cut items file (MayBegin (position.Bof min max) longest (length file)) h.0 (h.1, h.2);
  may_end = tt;
}
Standing-from_StandsAt (position.Eof min max) longest items file bounds h =
    let whole = cut_end-length items file h.0 in
    let low = h.1 in
    let high = h.2 in
    record {
      end = cut_end items file h.0;
      reaches = Reaches-from_Cut items file (MayBegin (position.Eof min max) longest (length file)) h.0 (eof_start min max longest items file bounds h.0 high);
      may_end = (omega arith, omega arith);
    }
Standing-from_StandsAt position.Variable longest items file bounds h = record {
  end = cut_end items file h;
  reaches = Reaches-from_Cut items file (MayBegin position.Variable longest (length file)) h tt;
  may_end = tt;
}

-- from this frontier on these items are still to come, of all
pub record StillToCome (p : Position) (items later : List Item) (file : List ℕ) (frontier : List Interval) : Type 0 where
  pub longest : Option ℕ
  pub bounds : IfSome longest (Bounds (Lang items))
  pub carries : Carries (Lang items) (Lang later) file (MayBegin p longest (length file)) frontier

-- all are, from the starts on
pub StillToCome-all : (p : Position) (longest : Option ℕ) (items : List Item) (file : List ℕ) (start : Interval) (frontier : List Interval)
    → IfSome longest (Bounds (Lang items)) → ((o : ℕ) → o ≤ length file → (IsWithin start o → MayBegin p longest (length file) o)
    × (MayBegin p longest (length file) o → IsWithin start o)) → Gains (IsWithin start) [] frontier → StillToCome p items items file frontier
StillToCome-all p longest items file start frontier bounds starts gains = record {
  longest = longest;
  bounds = bounds;
  carries = Carries-start (Lang items) file (MayBegin p longest (length file)) frontier
      (λ a within h. elim (gains.sound a h) [ inl none ↦ absurd none | inr within_start ↦ (starts a within).0 within_start ])
      (λ a within h. gains.gained a ((starts a within).1 h));
}

-- some more are done
pub StillToCome-more : (p : Position) (items : List Item) (i n : ℕ) (file : List ℕ) (old new : List Interval) → StillToCome p items (drop i items) file old
    → HasExactly (Reaches (Lang (take n (drop i items))) file (IsIn old)) new → StillToCome p items (drop (i + n) items) file new
StillToCome-more p items i n file old new still next = record {
  longest = still.longest;
  bounds = still.bounds;
  carries = Carries-items items i n file (MayBegin p still.longest (length file)) old new still.carries next;
}

-- nothing is, where all items are done
pub StillToCome-done : (p : Position) (items : List Item) (i : ℕ) (file : List ℕ) (frontier : List Interval) → length items ≤ i
    → StillToCome p items (drop i items) file frontier → StillToCome p items [] file frontier
StillToCome-done p items i file frontier all still = let P : List Item → Type 0 = λ l. StillToCome p items l file frontier in
    subst P (drop_all i items all) still

-- nor where no start is left
pub StillToCome-none : (p : Position) (items later : List Item) (file : List ℕ) (frontier : List Interval) → frontier ≡ []
    → StillToCome p items later file frontier → StillToCome p items [] file frontier
StillToCome-none p items later file frontier none still = record {
  longest = still.longest;
  bounds = still.bounds;
  carries = Carries-none (Lang items) (Lang later) (Lang []) file (MayBegin p still.longest (length file)) frontier none still.carries;
}

-- nothing is to come, and an end is in the frontier exactly where the sequence stands
pub stands_by_end : (p : Position) (items : List Item) (file : List ℕ) (frontier : List Interval) → StillToCome p items [] file frontier
    → (Meets (λ o. (o ≤ length file) × MayEnd p (length file) o) frontier → StandsAt p items file)
    × (StandsAt p items file → Meets (λ o. (o ≤ length file) × MayEnd p (length file) o) frontier)
stands_by_end p items file frontier still = (
  λ m. StandsAt-from_Reaches p still.longest items file m.offset
      (still.carries.sound m.offset (Reaches-nil_at file (IsIn frontier) m.offset m.is_in m.is_offset.0)) m.is_offset.1,
  λ h.
      let s = Standing-from_StandsAt p still.longest items file still.bounds h in
      record {
        offset = s.end;
        is_in = Reaches-nil file (IsIn frontier) s.end (still.carries.complete s.end s.reaches);
        is_offset = (s.reaches.within, s.may_end);
      },
)

-- only a run is to come, and it is at an offset of the frontier exactly where the sequence stands
pub stands_by_run : (p : Position) (items later : List Item) (run file : List ℕ) (frontier : List Interval) → ((len o : ℕ) → MayEnd p len o)
    → later ≡ map item.Byte run → StillToCome p items later file frontier → (Meets (OccursAt file run) frontier → StandsAt p items file)
    × (StandsAt p items file → Meets (OccursAt file run) frontier)
stands_by_run p items later run file frontier may is_run still =
    let P : List Item → Type 0 = λ l. Carries (Lang items) (Lang l) file (MayBegin p still.longest (length file)) frontier in
    let carries = subst P is_run still.carries in (
      λ m.
          let fits = m.is_offset.fits in
          let end : ℕ = m.offset + length run in
          let r : Reaches (Lang (map item.Byte run)) file (IsIn frontier) end = record {
            start = m.offset;
            is_start = m.is_in;
            in_order = omega arith;
            within = fits;
            is_word = Lang-from_IsThis run (slice_range file m.offset end) (IsThis-from_OccursAt file run m.offset end refl m.is_offset);
          } in
          StandsAt-from_Reaches p still.longest items file end (carries.sound end r) (may (length file) end),
      λ h.
          let s = Standing-from_StandsAt p still.longest items file still.bounds h in
          let r = carries.complete s.end s.reaches in
          let order = r.in_order in
          let is : IsThis run (slice_range file r.start s.end) = IsThis-from_Lang run (slice_range file r.start s.end) r.is_word in
          let len : s.end - r.start ≡ length run = sym (length-slice_range file r.start s.end r.in_order r.within) ∙ ap length is in
          record { offset = r.start; is_in = r.is_start; is_offset = OccursAt-from_IsThis file run r.start s.end (omega arith) r.within is },
    )
