-- What a writer over memory has written, and when it is between two records.
use Rattle.std.specs.Prelude.{◌≡◌, ◌++◌, ℕ, List, Vec, false}
use Rattle.csv.specs.Writing.{default_writer, fields_written, has_written, writer_pending, writer_setup, writer_under}
use Rattle.csv.specs.declared.writer.Writer.{Writer}

-- the bytes that are in the vector, and then those that are still in the buffer
abbrev pub written : {A : Type 0} → Writer (Vec ℕ A) → List ℕ
written writer = (writer_under writer).items ++ writer_pending writer

-- a writer of the default form, with no field of a record yet
pub record IsBetween {W : Type 0} (writer : Writer W) : Type 0 where
  pub form : writer_setup writer ≡ default_writer
  pub fields : fields_written writer ≡ 0
  pub shown : has_written writer ≡ false
