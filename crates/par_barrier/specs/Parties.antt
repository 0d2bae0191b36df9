-- Which callers take part in a barrier, and what the end of a phase is (barrier.c of PostgreSQL, with parties that
-- attach and detach at will).
use Rattle.std.specs.Prelude.{ℕ, Bool, false, not, ◌==◌, ◌+◌, ◌%◌, ◌^◌, List, [], ◌∷◌, ◌++◌, Option, Some, None}
use Rattle.std.specs.List.{filter, list_all, list_any}
use Rattle.par_barrier.specs.declared.history.BarrierState.{BarrierState}

-- whether the caller n is one of these
abbrev pub is_among : ℕ → List ℕ → Bool
is_among n callers = list_any (λ m. m == n) callers

-- these callers without n
abbrev pub without : ℕ → List ℕ → List ℕ
without n callers = filter (λ m. not (m == n)) callers

-- whether all of the first are among the second
abbrev pub are_among : List ℕ → List ℕ → Bool
are_among callers others = list_all (λ n. is_among n others) callers

-- the phase after this one
abbrev pub next_phase : ℕ → ℕ
next_phase p = (p + 1) % 2 ^ 64

-- a barrier that nobody takes part in
abbrev pub nobody : BarrierState
nobody = record { phase = 0; attached = []; arrived = []; elected = None }

-- n takes part
abbrev pub joined : ℕ → BarrierState → BarrierState
joined n s = record s { attached = s.attached ++ n ∷ [] }

-- n has arrived
abbrev pub with_arrival : ℕ → BarrierState → BarrierState
with_arrival n s = record s { arrived = s.arrived ++ n ∷ [] }

-- n takes part no more, and has not arrived
abbrev pub parted : ℕ → BarrierState → BarrierState
parted n s = record s { attached = without n s.attached; arrived = without n s.arrived }

-- the phase has ended: it is one more, nobody has arrived in the new one, and n is elected
abbrev pub ended : ℕ → BarrierState → BarrierState
ended n s = record s { phase = next_phase s.phase; arrived = []; elected = Some n }

-- the phase has ended, and nobody is elected
abbrev pub abandoned : BarrierState → BarrierState
abandoned s = record s { phase = next_phase s.phase; arrived = []; elected = None }

-- whether n is the caller that was elected last
abbrev pub is_elected : ℕ → Option ℕ → Bool
is_elected n None = false
is_elected n (Some m) = m == n
