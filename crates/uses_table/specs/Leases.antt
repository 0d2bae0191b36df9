-- What a call makes of the lease under a key, and its reply.
use Rattle.std.specs.Prelude.{◌-◌, ◌==◌, if◌then◌else◌, Bool, false, Option, Some, None}
use Rattle.uses_table.specs.declared.lease.Lease.{Lease}
use Rattle.uses_table.specs.declared.lease.LeaseCall.{LeaseCall}
use Rattle.uses_table.specs.declared.lease.LeaseCall.TheVariants.{Read, Grant, Tick}

-- there is a lease, and it outlasts no further round
abbrev pub is_due : Option Lease → Bool
is_due None = false
is_due (Some lease) = lease.rounds == 0

-- what a round leaves of a lease: nothing if it is due, and otherwise the same for a round less
abbrev pub ticked : Option Lease → Option Lease
ticked None = None
ticked (Some lease) = if lease.rounds == 0 then None else (Some (record { value = lease.value; rounds = lease.rounds - 1 }))

-- the lease afterwards
abbrev pub leaves : Option Lease → LeaseCall → Option Lease
leaves before Read = before
leaves before (Grant lease) = Some lease
leaves before Tick = ticked before

-- the reply is the lease before
abbrev pub stepped : Option Lease → LeaseCall → Option Lease × Option Lease
stepped before call = (leaves before call, before)
