-- What other crates use of the lemmas of this one.
pub use Rattle.sig_table.proofs.DraftLemmas.{puid_eq-is}
pub use Rattle.sig_table.proofs.FormatsAgainLemmas.{slice_get-within}
pub use Rattle.sig_table.proofs.PublicLemmas.{Contains-cons_cases, ranks-Decides, some_is_not_outranked}
pub use Rattle.sig_table.proofs.TableAgainLemmas.{ranked_again}
pub use Rattle.sig_table.proofs.JudgingLemmas.{answered}
pub use Rattle.sig_table.proofs.PassingLemmas.{binds, with_record-puid}
pub use Rattle.sig_table.proofs.SignatureRowLemmas.{is_table_of}
