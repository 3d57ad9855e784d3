-- A `csv` writer between two records.
use Rattle.std.specs.Prelude.{◌≡◌, false}
use Rattle.csv.specs.Writing.{default_writer, fields_written, has_written, writer_setup}
use Rattle.csv.specs.declared.writer.Writer.{Writer}

-- it has its defaults, and no field of the next record is written
pub record IsAtStart {W : Type 0} (writer : Writer W) : Type 0 where
  pub setup : writer_setup writer ≡ default_writer
  pub fields : fields_written writer ≡ 0
  pub shown : has_written writer ≡ false
