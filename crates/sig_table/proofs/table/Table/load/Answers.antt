use Rattle.std.proofs.Common.{◌≡◌, ◌∙◌, sym}
use Rattle.std.proofs.lemmas.Result.{err_from_is_err_and}
use Rattle.sig_table.specs.Loading.{records_of}
use Rattle.sig_table.proofs.FaultLemmas.{Exact-from_IsFault, Exact-last}
use Rattle.sig_table.proofs.LoadLemmas.{table_of-unranked, table_of-unread, table_of-whole}
use Rattle.sig_table.proofs.FileFaultLemmas.{is_judged-of}
use Rattle.sig_table.proofs.table.Table.load.Goals as goal

pub returns-in_err-draft-clause-exact : goal.returns-in_err-draft-clause-exact
returns-in_err-draft-clause-exact g c s p to_s to_p =
    let r = err_from_is_err_and c.from_residual-in_err-draft.result c.from_residual-in_err-draft.ensures.1 in
    let text : c.deref.result.now ≡ s = c.deref.ensures.value ∙ rw to_s at c.in_ok-text.ensures.text in
    rw (r.1, r.2) (Exact-from_IsFault _ _ _ (λ h. table_of-unread (records_of s) (records_of p) _ (rw text at h)) c.in_err-draft.ensures)

pub returns-in_err-pairs-clause-exact : goal.returns-in_err-pairs-clause-exact
returns-in_err-pairs-clause-exact g c s p to_s to_p =
    let r = err_from_is_err_and c.from_residual-in_err-pairs.result c.from_residual-in_err-pairs.ensures.1 in
    let text : c.deref.result.now ≡ s = c.deref.ensures.value ∙ rw to_s at c.in_ok-text.ensures.text in
    let later : c.deref-2.result.now ≡ p = c.deref-2.ensures.value ∙ rw to_p at c.in_ok-text-2.ensures.text in
    let read = rw text at c.in_ok-draft.ensures in
    rw (r.1, r.2) (Exact-from_IsFault _ _ _ (λ h. table_of-unranked (records_of s) (records_of p) _ _ read (rw later at h)) c.in_err-pairs.ensures.pairs.1)

pub returns-clause-exact : goal.returns-clause-exact
returns-clause-exact g c s p to_s to_p =
    let text : c.deref.result.now ≡ s = c.deref.ensures.value ∙ rw to_s at c.in_ok-text.ensures.text in
    let later : c.deref-2.result.now ≡ p = c.deref-2.ensures.value ∙ rw to_p at c.in_ok-text-2.ensures.text in
    let read = rw text at c.in_ok-draft.ensures in
    let ranked = rw later at c.in_ok-pairs.ensures.pairs in
    Exact-last _ _ _ c.into_table.ensures.table c.into_table.ensures.memory (table_of-whole (records_of s) (records_of p) _ _ read ranked)

pub returns-in_err-draft-clause-reads : goal.returns-in_err-draft-clause-reads
returns-in_err-draft-clause-reads g c =
    let r = err_from_is_err_and c.from_residual-in_err-draft.result c.from_residual-in_err-draft.ensures.1 in
    rw (r.1, r.2) (record {
      table = tt;
      fault = λ judged. record { sound = c.in_ok-text.ensures.sound; at_end = c.in_ok-text.ensures.at_end };
      later_fault = λ judged later. absurd (cc (sym (is_judged-of _ _ c.in_err-draft.ensures judged) ∙ later));
    })
