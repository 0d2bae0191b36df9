use Rattle.std.proofs.Common.{◌≡◌, ℕ, List, Some, length, true}
use Rattle.csv.specs.Reading.{Reached, Ready, default_config, source_of, strip_bom}
use Rattle.csv.specs.declared.parser.State.TheVariants as st
use Rattle.csv.specs.declared.reader.Trim.TheVariants as trim
use Rattle.csv_rows.specs.Store.{Covers, stored}
use Rattle.csv_rows.proofs.reading.read_by_csv.Given as goal

abbrev pub invariant-records : goal.invariant-records
invariant-records l = record {
  trim : l.rdr.trim ≡ trim.None;
  ready : Ready l.rdr;
  flexible : l.rdr.flexible ≡ true;
  config : l.rdr.config ≡ default_config;
  fields : Covers l.ends.items (length l.text.items);
  rows : Covers l.row_ends (length l.ends.items);
  count : length l.row_ends ≡ l._n;
  left : List ℕ;
  known : source_of (λ s. Some s.now) l.rdr ≡ Some left;
  reached : Reached default_config st.StartRecord (strip_bom l.fn.bytes) (stored l.text.items l.ends.items l.row_ends) l.rdr.state left;
}
