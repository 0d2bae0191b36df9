use Rattle.std.proofs.Common.{◌≡◌, ◌++◌, take}
use Rattle.csv.specs.declared.parser.State.TheVariants as st
use Rattle.csv_rows.specs.Cuts.{state_after}
use Rattle.found_rows.specs.Inside.{state_of}
use Rattle.found_rows.specs.Written.{copied}
use Rattle.found_rows.proofs.written.copy_field.Given as goal

abbrev pub invariant-loop-byte : goal.invariant-loop-byte
invariant-loop-byte l = record {
  inside : state_of l.inside ≡ state_after st.StartField (take l.byte-index l.written);
  bytes : l.copied.items ≡ l.fn.copied.items ++ copied st.StartField (take l.byte-index l.written);
}
