-- What a call makes of the number under a key, and its reply.
use Rattle.std.specs.Prelude.{ℕ, Option, Some, None}
use Rattle.dshash_numbers.specs.declared.number.NumberCall.{NumberCall}
use Rattle.dshash_numbers.specs.declared.number.NumberCall.TheVariants.{Put, Get, Delete}

-- the number afterwards, if any
abbrev pub after : Option ℕ → NumberCall → Option ℕ
after before (Put n) = Some n
after before Get = before
after before Delete = None

-- the reply is the number before
abbrev pub stepped : Option ℕ → NumberCall → Option ℕ × Option ℕ
stepped before call = (after before call, before)
