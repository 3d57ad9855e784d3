use Rattle.std.proofs.Common.{rules, length, ◌≡◌, ◌∙◌, sym, subst, not, nat_eq, position, refl, Some, None}
use Rattle.std.specs.Prelude.{filter}
use Rattle.std.proofs.lemmas.Bool.{false≢true}
use Rattle.std.proofs.lemmas.Fn.{filter_same}
use Rattle.sig_table.specs.Puids.{puid_eq}
use Rattle.sig_table.specs.Views.{SignatureView, TableView}
use Rattle.sig_table.proofs.RemovalLemmas.{IsTable-without, has_no_place, has_place, without-is}
use Rattle.sig_table.specs.Tables.{IsTable}
use Rattle.sig_table.specs.Links.{AreLinked}
use Rattle.sig_table.proofs.LinkLemmas.{formats_known}
use Rattle.sig_table.proofs.table.Table.remove_signature_for_puid.Goals as goal

pub invariant_of-self : goal.invariant_of-self
invariant_of-self c =
    let t : TableView = record {
      formats = c.self.inside.formats.items;
      signatures = c.self.inside.signatures.items;
      priorities =
          c.self.inside.priorities.keys;
    } in
    let kept : c.retain.new.self.items ≡ filter (λ (s : SignatureView). not (nat_eq s.format c.in-Some.place)) c.self.inside.signatures.items =
    filter_same _ _ _ (λ x b f' k. search rules) _ _ c.retain.ensures.filtered in
    let table : IsTable (record t { signatures = c.retain.new.self.items }) = rw kept (IsTable-without t c.in-Some.place c.self.invariant.0) in (
      table,
      c.mark.ensures.formats ∙ c.self.invariant.1,
      subst (λ signatures. AreLinked signatures c.mark.new.self.firsts.items c.mark.new.self.nexts.items) c.deref.ensures.value c.mark.ensures.links,
    )

pub mark-requires-clause-known : goal.mark-requires-clause-known
mark-requires-clause-known c =
    let t : TableView = record {
      formats = c.self.inside.formats.items;
      signatures = c.self.inside.signatures.items;
      priorities =
          c.self.inside.priorities.keys;
    } in
    let kept : c.retain.new.self.items ≡ filter (λ (s : SignatureView). not (nat_eq s.format c.in-Some.place)) c.self.inside.signatures.items =
    filter_same _ _ _ (λ x b f' k. search rules) _ _ c.retain.ensures.filtered in
    let table : IsTable (record t { signatures = c.retain.new.self.items }) = rw kept (IsTable-without t c.in-Some.place c.self.invariant.0) in
    formats_known (record t { signatures = c.retain.new.self.items }) c.deref.result.now (length c.self.inside.links.firsts.items) table c.deref.ensures.value
    c.self.invariant.1

pub returns-clause-removes : goal.returns-clause-removes
returns-clause-removes c =
    let t : TableView = record {
      formats = c.self.inside.formats.items;
      signatures = c.self.inside.signatures.items;
      priorities =
          c.self.inside.priorities.keys;
    } in
    let kept : c.retain.new.self.items ≡ filter (λ (s : SignatureView). not (nat_eq s.format c.in-Some.place)) c.self.inside.signatures.items =
    filter_same _ _ _ (λ x b f' k. search rules) _ _ c.retain.ensures.filtered in
    let h : position (λ p. puid_eq p c.args.puid.now) c.args.self.now.formats ≡ Some c.in-Some.place = sym c.in-Some.ensures in
    let found = rw (← c.self.view_is) at h in
    λ _. rw (← c.self.view_is) (without-is t c.retain.new.self.items c.args.puid.now c.in-Some.place found kept)

pub returns-in_default-clause-answers : goal.returns-in_default-clause-answers
returns-in_default-clause-answers c =
    let none : position (λ p. puid_eq p c.args.puid.now) c.args.self.now.formats ≡ None = sym c.place_of.ensures ∙ c.in_default.is in
    (λ t. absurd (false≢true t), λ there. absurd (has_no_place c.args.self.now.formats c.args.puid.now none there))

pub returns-clause-answers : goal.returns-clause-answers
returns-clause-answers c =
    let h : position (λ p. puid_eq p c.args.puid.now) c.args.self.now.formats ≡ Some c.in-Some.place = sym c.in-Some.ensures in
    (λ _. has_place c.args.self.now.formats c.args.puid.now c.in-Some.place h, λ _. refl)
