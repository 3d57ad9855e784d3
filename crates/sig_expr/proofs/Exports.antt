-- What other crates use of the lemmas of this one.
pub use Rattle.sig_expr.proofs.LawLemmas.{encode_upper, expression_read, IsBefore-cases, IsBefore-either, IsBefore-lower, IsBefore-same, IsUpTo-before}
pub use Rattle.sig_expr.proofs.LawLemmas.{IsUpTo-behind, IsUpTo-cases, IsUpTo-first, IsUpTo-itself, IsUpTo-rest, IsUpTo-same, leaves_no_all, meant_refused}
pub use Rattle.sig_expr.proofs.LawLemmas.{not_before_itself, read_expression, read_spells, refused_meant, upper_digits}
unfoldable pub use Rattle.sig_expr.proofs.LawLemmas.{encode_with}
