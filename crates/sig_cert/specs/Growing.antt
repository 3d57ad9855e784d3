-- When a check may run out of memory.
use Rattle.std.specs.Prelude.{◌≡◌, ℕ, ◌<◌, ◌≤◌, List, [], ◌∷◌, drop, length, take}
use Rattle.sig_cert.specs.Layouts.{Version, magic, version_byte}
use Rattle.sig_cert.specs.Pairs.{AreRelated, format_pairs, signatures_of}
use Rattle.sig_cert.specs.Verdicts.{number_of}
use Rattle.sig_table.specs.Views.{TableView}

-- neither of the two formats outranks the other, and both have signatures
pub record IsOpenPair (table : TableView) (pair : ℕ × ℕ) : Type 0 where
  pub unrelated : ¬ AreRelated table pair
  pub first : 0 < length (signatures_of table pair.0)
  pub second : 0 < length (signatures_of table pair.1)

-- the table has two such formats
pub record HasOpenPair (table : TableView) : Type 0 where
  pub pair : ℕ × ℕ
  pub order : pair.0 < pair.1
  pub known : pair.1 < length table.formats
  pub is_open : IsOpenPair table pair

-- the bytes begin with the count of the table's pairs
pub record CountPassed (table : TableView) (bytes : List ℕ) : Type 0 where
  pub whole : 4 ≤ length bytes
  pub count : number_of (take 4 bytes) ≡ length (format_pairs (length table.formats))

-- the bytes begin with a version, and then that
pub record VersionPassed (table : TableView) (bytes : List ℕ) : Type 0 where
  pub whole : 1 ≤ length bytes
  pub version : Version
  pub is_version : take 1 bytes ≡ version_byte version ∷ []
  pub behind : CountPassed table (drop 1 bytes)

-- the bytes begin with the magic, and then that
pub record HeadPassed (table : TableView) (bytes : List ℕ) : Type 0 where
  pub whole : 4 ≤ length bytes
  pub is_magic : take 4 bytes ≡ magic
  pub behind : VersionPassed table (drop 4 bytes)

-- the magic, the version and the count of pairs are right, and the table has two unrelated formats with signatures
pub record MayGrow (table : TableView) (certificate : List ℕ) : Type 0 where
  pub head : HeadPassed table certificate
  pub pair : HasOpenPair table
