-- What a call makes of the word under a key, and its reply.
use Rattle.std.specs.Prelude.{ℕ, ◌+◌, ◌%◌, ◌^◌, ◌==◌, cond, Option, Some, None, unwrap_or}
use Rattle.c_table.specs.declared.word.WordCall.{WordCall}
use Rattle.c_table.specs.declared.word.WordCall.TheVariants.{Put, Add, PutAbsent, CompareAndSwap, Get, Delete}

-- the word of a key that has `expected` becomes n; any other stays
abbrev pub swapped : Option ℕ → ℕ → ℕ → Option ℕ
swapped (Some found) expected n = Some (cond (found == expected) n found)
swapped None expected n = None

-- the word afterwards, if any
abbrev pub after : Option ℕ → WordCall → Option ℕ
after before (Put n) = Some n
after before (Add n) = Some ((unwrap_or before 0 + n) % 2 ^ 64)
after before (PutAbsent n) = Some (unwrap_or before n)
after before (CompareAndSwap expected n) = swapped before expected n
after before Get = before
after before Delete = None

-- the reply is the word before
abbrev pub stepped : Option ℕ → WordCall → Option ℕ × Option ℕ
stepped before call = (after before call, before)
