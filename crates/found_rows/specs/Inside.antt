-- Where a reader is in a field, as a state of csv's machine.
use Rattle.csv.specs.declared.parser.State.{State}
use Rattle.csv.specs.declared.parser.State.TheVariants as st
use Rattle.found_rows.specs.declared.written.Inside.{Inside}
use Rattle.found_rows.specs.declared.written.Inside.TheVariants as inside

abbrev pub state_of : Inside → State
state_of inside.Front = st.StartField
state_of inside.Quoted = st.InQuoted
state_of inside.AfterQuote = st.AfterQuote
state_of inside.Bare = st.InField
