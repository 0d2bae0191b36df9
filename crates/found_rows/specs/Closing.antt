-- The bytes of a field after the quote that opens it.
use Rattle.std.specs.Prelude.{◌≡◌, ◌≢◌, ◌<◌, ℕ, List, length, slice_index}
use Rattle.csv.specs.declared.parser.State.TheVariants as st
use Rattle.csv_rows.specs.Cuts.{state_after}
use Rattle.found_rows.specs.Written.{EndsNoField, between}

-- after an opening quote these bytes leave the field open: the quotes among them are in pairs
pub record LeavesOpen (text : List ℕ) (start to : ℕ) : Type 0 where
  pub stays : EndsNoField st.InQuoted (between start to text)
  pub inside : state_after st.InQuoted (between start to text) ≡ st.InQuoted

-- and these end with the quote that closes it, or with the text
pub record IsClosed (text : List ℕ) (start to : ℕ) : Type 0 where
  pub stays : EndsNoField st.InQuoted (between start to text)
  pub behind : to < length text → state_after st.InQuoted (between start to text) ≡ st.AfterQuote
  pub other : to < length text → slice_index text to ≢ 34
