-- What a handle owns: the memory of a box with its caller, or nothing.
use Rattle.std.specs.Prelude.{ℕ, Option, None, Some}
use Rattle.std.specs.Coded.{coded_option}
use base.Fml.{Fml, ftrue}
use base.Stored.{Coded}
use denote.RawPtr.{Ptr}
use Rattle.std.specs.Box.Ownership.{box_owns}
use Rattle.std_heap.specs.contracts.GlobalAllocator.TheImpl.{ghosts}
use Rattle.c_table.specs.Owned.{the_heap}
use Rattle.c_records.specs.contracts.caller.Caller.{the_row}

abbrev pub caller_owns : Ptr → Option the_row.Denot → Fml
caller_owns at None = ftrue
caller_owns at (Some x) = box_owns (ghosts.dealloc_token the_heap) the_row at x

abbrev pub value_code : Coded (Option the_row.Denot)
value_code = coded_option the_row.coded

-- whether there is a caller, as a word
abbrev pub tag_of : Option the_row.Denot → ℕ
tag_of None = 0
tag_of (Some x) = 1
