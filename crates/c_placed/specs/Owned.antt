-- What a caller's memory is, what it is to have a place in it, and what a handle owns: the memory of a box with its
-- side.
use Rattle.std.specs.Prelude.{ℕ, ◌/◌, [], Option, None, Some}
use Rattle.std.specs.Coded.{coded_option}
use mir.Syntax.{Ty, w128, ty_int, ty_array}
use base.Fml.{Fml, ftrue}
use base.Stored.{Coded}
use denote.RawPtr.{Ptr, room_for}
use denote.Struct.Lending.{lent_at}
use Rattle.std.specs.Box.Ownership.{box_owns}
use Rattle.std.specs.Global.{Global}
use Rattle.std_heap.specs.contracts.GlobalAllocator.TheImpl.{ghosts}
use Rattle.placed_queue.specs.contracts.queue.Queue.{the_row as queue_row}
use Rattle.c_placed.specs.contracts.end.End.{the_row}

-- n bytes, as units of 16 that are aligned to 16
abbrev pub units_of : ℕ → Ty
units_of n = ty_array (ty_int w128) (n / 16)

-- room for them at p, whatever lies there now
abbrev pub bytes_at : Ptr → ℕ → Fml
bytes_at p n = room_for (units_of n) p

-- this queue lies at p, shared for good; or nothing
abbrev pub lies_for_good : Ptr → Option queue_row.Denot → Fml
lies_for_good p None = ftrue
lies_for_good p (Some x) = lent_at queue_row p x []

abbrev pub which_code : Coded (Option queue_row.Denot)
which_code = coded_option queue_row.coded

-- the heap, of which there is one
abbrev pub the_heap : Global
the_heap = record { memory = record { seal = tt } }

abbrev pub end_owns : Ptr → Option the_row.Denot → Fml
end_owns at None = ftrue
end_owns at (Some x) = box_owns (ghosts.dealloc_token the_heap) the_row at x

abbrev pub value_code : Coded (Option the_row.Denot)
value_code = coded_option the_row.coded

-- whether there is a side, as a word
abbrev pub tag_of : Option the_row.Denot → ℕ
tag_of None = 0
tag_of (Some x) = 1
