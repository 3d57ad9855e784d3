-- A table without the signatures of a format.
use Rattle.std.specs.Prelude.{ℕ, List, not, nat_eq, filter}
use Rattle.std.specs.List.{position_or_len}
use Rattle.sig_table.specs.Views.{TableView}
use Rattle.sig_table.specs.Puids.{puid_eq}
use Rattle.sig_table.specs.declared.puid.Puid.{Puid}

-- where the format of this name stands
abbrev pub place_of : List Puid → Puid → ℕ
place_of formats puid = position_or_len (λ p. puid_eq p puid) formats

-- the signatures of the other formats, in their order, under all formats and priorities
abbrev pub without : TableView → ℕ → TableView
without table format = record table { signatures = filter (λ s. not (nat_eq s.format format)) table.signatures }
