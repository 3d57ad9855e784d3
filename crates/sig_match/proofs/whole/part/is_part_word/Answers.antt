use Rattle.std.proofs.Common.{rules, ◌≡◌, length, ℕ, Bool, true, false, List, inl, inr, ap, ◌∙◌, not, Decides}
use Rattle.std.proofs.lemmas.Slice.Eq.{bytes_eq-Decides}
use Rattle.std.proofs.lemmas.Bool.{cases_Bool}
use Rattle.std.specs.Str.{bytes_eq}
use Rattle.sig_expr.specs.Words.{IsBefore}
use Rattle.sig_match.proofs.whole.part.is_part_word.Goals as goal

-- the test that two lists differ
differs : (xs ys : List ℕ) (r : Bool) → r ≡ not (bytes_eq xs ys) → (r ≡ true → xs ≡ ys → ⊥) × ((xs ≡ ys → ⊥) → r ≡ true)
differs xs ys r e =
    let decides : Decides (bytes_eq xs ys) (xs ≡ ys) = bytes_eq-Decides xs ys in
    elim (cases_Bool (bytes_eq xs ys)) [
      | inl t ↦ (let no : r ≡ false = e ∙ ap not t in (λ yes _. cc, λ ne. absurd (ne (decides.0 t))))
      | inr f ↦ (let yes : r ≡ true = e ∙ ap not f in (λ _ same. (let t = decides.1 same in cc), λ _. yes))
    ]

pub returns-in-Not : goal.returns-in-Not
returns-in-Not c =
    let len : length c.args.bytes.now ≡ length c.in-Not.a = search rules in
    let differ = differs c.args.bytes.now c.as_bytes-in-Not.result.now c.ne.result c.ne.ensures in
    rw (c.in-Not.is, ← c.as_bytes-in-Not.ensures.bytes) (
      λ t. ((rw c.as_bytes-in-Not.ensures.bytes len, c.requires.bytes), differ.0 t),
      λ word. differ.1 word.1,
    )

pub returns-then-is_before : goal.returns-then-is_before
returns-then-is_before c =
    let len : length c.args.bytes.now ≡ length c.in-NotRange.a = search rules in
    let before : IsBefore c.args.bytes.now c.in-NotRange.a = search rules in
    rw c.in-NotRange.is (λ _. ((len, c.requires.bytes), inl before), λ _. c.if-is_before.true)

pub returns-else-is_before : goal.returns-else-is_before
returns-else-is_before c =
    let len : length c.args.bytes.now ≡ length c.in-NotRange.a = search rules in
    rw (c.in-NotRange.is, ← c.as_bytes-else-is_before.ensures.bytes, ← c.as_bytes-in-NotRange.ensures.bytes) (
      λ t. ((rw c.as_bytes-in-NotRange.ensures.bytes len, c.requires.bytes), inr (c.is_before-else-is_before.ensures.0 t)),
      λ word. elim word.1 [ inl before ↦ absurd (let t = c.is_before.ensures.1 before in cc) | inr after ↦ c.is_before-else-is_before.ensures.1 after ],
    )
