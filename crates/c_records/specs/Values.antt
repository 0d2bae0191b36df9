-- What a call makes of the record under a key, and its reply.
use Rattle.std.specs.Prelude.{Option, Some, None, unwrap_or}
use Rattle.c_records.specs.declared.value.Record.{Record}
use Rattle.c_records.specs.declared.value.RecordCall.{RecordCall}
use Rattle.c_records.specs.declared.value.RecordCall.TheVariants.{Put, PutAbsent, Get, Delete}

-- the record afterwards, if any
abbrev pub after : Option Record → RecordCall → Option Record
after before (Put r) = Some r
after before (PutAbsent r) = Some (unwrap_or before r)
after before Get = before
after before Delete = None

-- the reply is the record before
abbrev pub stepped : Option Record → RecordCall → Option Record × Option Record
stepped before call = (after before call, before)
