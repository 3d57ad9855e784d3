use Rattle.std.proofs.Common.{◌≡◌, ◌∙◌, sym, ap, not, []}
use Rattle.std.specs.List.{position_or_len}
use Rattle.sig_table.specs.Puids.{puid_eq}
use Rattle.sig_table.specs.Views.{TableView}
use Rattle.sig_table.proofs.LimitLemmas.{IsSequence-judged, IsWhole-with_row}
use Rattle.sig_table.proofs.DraftLemmas.{OnOk-holds, any-numbers, numbers-with_row, place-of, place-within, position-puid, puid_eq-is, with_row-is}
use Rattle.sig_table.proofs.draft.Draft.insert.Goals as goal

pub push_new_signature-requires : goal.push_new_signature-requires
push_new_signature-requires c = c.in-Ok-insert_full.ensures.added ∙ ap (λ b. not b)
    (rw c.self.invariant.numbers (any-numbers c.args.row.number c.self.inside.signatures.items))

pub new-sequence-requires : goal.new-sequence-requires
new-sequence-requires c = IsSequence-judged c.args.self c.args.row c.requires.judged.0 c.requires.read c.requires.judged.1

pub push_sequence-requires-clause-at : goal.push_sequence-requires-clause-at
push_sequence-requires-clause-at c =
    let enrolled = OnOk-holds c.push_new_signature.result (sym c.is_err.ensures.value ∙ c.if-is_err.false) c.push_new_signature.ensures in
    place-of c.args.row.number _ c.in-Ok-insert_full.place c.self.inside.numbers.keys c.self.inside.signatures.items c.push_new_signature.new.signatures.items
    c.self.invariant.numbers c.in-Ok-insert_full.ensures.index enrolled

pub push_sequence-requires-clause-within : goal.push_sequence-requires-clause-within
push_sequence-requires-clause-within c =
    let enrolled = OnOk-holds c.push_new_signature.result (sym c.is_err.ensures.value ∙ c.if-is_err.false) c.push_new_signature.ensures in
    place-within c.args.row.number _ c.in-Ok-insert_full.place c.self.inside.numbers.keys c.self.inside.signatures.items
    c.push_new_signature.new.signatures.items c.self.invariant.numbers c.in-Ok-insert_full.ensures.index enrolled

pub invariant_of-result : goal.invariant_of-result
invariant_of-result c =
    let t : TableView = record { formats = c.self.inside.puids.keys; signatures = c.self.inside.signatures.items; priorities = [] } in
    let enrolled = OnOk-holds c.push_new_signature.result (sym c.is_err.ensures.value ∙ c.if-is_err.false) c.push_new_signature.ensures in
    let grew = OnOk-holds c.push_sequence.result (sym c.is_err-2.ensures.value ∙ c.if-is_err-2.false) c.push_sequence.ensures in
    let formats = rw puid_eq-is at c.in-Ok.ensures.keys in
    let format : c.in-Ok.format ≡ position_or_len (puid_eq c.args.row.puid) c.self.inside.puids.keys =
    c.in-Ok.ensures.index ∙ position-puid c.args.row.puid c.self.inside.puids.keys in
    let signatures = rw (enrolled, format, c.new-sequence.ensures) at grew in
    let whole = IsWhole-with_row t c.args.row c.requires.judged.0 _ _ (record { limits = c.self.invariant.table; has_all = c.self.invariant.has_all })
    c.requires.read (rw (← c.self.view_is) at c.requires.judged.1) formats signatures in
    record {
      table = whole.limits;
      has_all = whole.has_all;
      numbers = numbers-with_row c.args.row.number _ c.args.row.sequence _ _ c.self.inside.signatures.items _ c.self.invariant.numbers
          c.in-Ok-insert_full.ensures.keys signatures;
    }

pub returns-clause-row : goal.returns-clause-row
returns-clause-row c =
    let t : TableView = record { formats = c.self.inside.puids.keys; signatures = c.self.inside.signatures.items; priorities = [] } in
    let enrolled = OnOk-holds c.push_new_signature.result (sym c.is_err.ensures.value ∙ c.if-is_err.false) c.push_new_signature.ensures in
    let grew = OnOk-holds c.push_sequence.result (sym c.is_err-2.ensures.value ∙ c.if-is_err-2.false) c.push_sequence.ensures in
    let formats = rw puid_eq-is at c.in-Ok.ensures.keys in
    let format : c.in-Ok.format ≡ position_or_len (puid_eq c.args.row.puid) c.self.inside.puids.keys =
    c.in-Ok.ensures.index ∙ position-puid c.args.row.puid c.self.inside.puids.keys in
    let signatures = rw (enrolled, format, c.new-sequence.ensures) at grew in
    rw (← c.self.view_is) (with_row-is t c.args.row _ _ formats signatures)
