-- What each call of a barrier is answered and does: of the caller n in the state s, the reply r and the state t after
-- it.
use Rattle.std.specs.Prelude.{◌≡◌, ◌≢◌, ℕ, true, false, List, [], ◌∷◌, ◌++◌}
use Rattle.par_barrier.specs.declared.history.BarrierState.{BarrierState}
use Rattle.par_barrier.specs.declared.history.BarrierCall.{BarrierCall}
use Rattle.par_barrier.specs.declared.history.BarrierCall.TheVariants.{Attach, Arrive, Look, Detach, ArriveAndDetach, ArriveAndDetachExceptLast}
use Rattle.par_barrier.specs.declared.history.BarrierReply.{BarrierReply}
use Rattle.par_barrier.specs.declared.history.BarrierReply.TheVariants.{Attached, Waiting, Released, Left, AlreadyIn, NotIn, Twice}
use Rattle.par_barrier.specs.Parties.{is_among, without, are_among, next_phase, joined, with_arrival, parted, ended, abandoned, is_elected}

-- What follows for the others where a caller has left the state s: if all that take part have arrived, the phase ends and
-- the first of them is elected
pub record Leaves (s : BarrierState) (r : BarrierReply) (t : BarrierState) : Type 0 where
  pub stays : are_among s.attached s.arrived ≡ false → (r ≡ Left s.phase false) × (t ≡ s)
  pub ends : are_among s.attached s.arrived ≡ true → (first : ℕ) (others : List ℕ) → s.arrived ≡ first ∷ others → (r ≡ Left (next_phase s.phase) false) × (t ≡ ended first s)

module _ (n : ℕ) (s : BarrierState) (r : BarrierReply) (t : BarrierState) where
  -- the caller does not take part; nothing changes
  pub record IsAbsent : Type 0 where
    pub told : r ≡ NotIn s.phase
    pub same : t ≡ s

  -- BarrierAttach: a caller that takes part already is refused, any other takes part from then on
  pub record Attaches : Type 0 where
    pub refused : is_among n s.attached ≡ true → (r ≡ AlreadyIn s.phase) × (t ≡ s)
    pub attached : is_among n s.attached ≡ false → (r ≡ Attached s.phase) × (t ≡ joined n s)

  -- BarrierArriveAndWait up to its wait: the last to arrive ends the phase and is elected, the others have to wait
  pub record Arrives : Type 0 where
    pub absent : is_among n s.attached ≡ false → IsAbsent
    pub twice : is_among n s.attached ≡ true → is_among n s.arrived ≡ true → (r ≡ Twice s.phase) × (t ≡ s)
    pub waits : is_among n s.attached ≡ true → is_among n s.arrived ≡ false → are_among s.attached (s.arrived ++ n ∷ []) ≡ false → (r ≡ Waiting) × (t ≡ with_arrival n s)
    pub ends : is_among n s.attached ≡ true → is_among n s.arrived ≡ false → are_among s.attached (s.arrived ++ n ∷ []) ≡ true → (r ≡ Released (next_phase s.phase) true) × (t ≡ ended n s)

  -- one look of its wait: a caller that has arrived waits until the phase ends; any other gets the phase as its answer
  pub record Looks : Type 0 where
    pub same : t ≡ s
    pub absent : is_among n s.attached ≡ false → r ≡ NotIn s.phase
    pub waits : is_among n s.attached ≡ true → is_among n s.arrived ≡ true → r ≡ Waiting
    pub released : is_among n s.attached ≡ true → is_among n s.arrived ≡ false → r ≡ Released s.phase (is_elected n s.elected)

  -- BarrierDetach: the caller leaves
  pub record Detaches : Type 0 where
    pub absent : is_among n s.attached ≡ false → IsAbsent
    pub last : is_among n s.attached ≡ true → without n s.attached ≡ [] → (r ≡ Left s.phase true) × (t ≡ parted n s)
    pub others : is_among n s.attached ≡ true → without n s.attached ≢ [] → Leaves (parted n s) r t

  -- BarrierArriveAndDetach: the caller arrives and leaves at once; if nobody else takes part, the phase ends too
  pub record ArrivesAndDetaches : Type 0 where
    pub absent : is_among n s.attached ≡ false → IsAbsent
    pub twice : is_among n s.attached ≡ true → is_among n s.arrived ≡ true → (r ≡ Twice s.phase) × (t ≡ s)
    pub last : is_among n s.attached ≡ true → is_among n s.arrived ≡ false → without n s.attached ≡ [] → (r ≡ Left (next_phase s.phase) true) × (t ≡ abandoned (parted n s))
    pub others : is_among n s.attached ≡ true → is_among n s.arrived ≡ false → without n s.attached ≢ [] → Leaves (parted n s) r t

  -- BarrierArriveAndDetachExceptLast: the same, but a caller that is the last to take part stays, and is elected
  pub record ArrivesAndDetachesExceptLast : Type 0 where
    pub absent : is_among n s.attached ≡ false → IsAbsent
    pub twice : is_among n s.attached ≡ true → is_among n s.arrived ≡ true → (r ≡ Twice s.phase) × (t ≡ s)
    pub last : is_among n s.attached ≡ true → is_among n s.arrived ≡ false → without n s.attached ≡ [] → (r ≡ Released (next_phase s.phase) true) × (t ≡ ended n s)
    pub others : is_among n s.attached ≡ true → is_among n s.arrived ≡ false → without n s.attached ≢ [] → Leaves (parted n s) r t

-- the call of the caller n may be answered r and leave t
abbrev pub BarrierLegal : ℕ → BarrierState → BarrierCall → BarrierReply → BarrierState → Type 0
BarrierLegal n s Attach r t = Attaches n s r t
BarrierLegal n s Arrive r t = Arrives n s r t
BarrierLegal n s Look r t = Looks n s r t
BarrierLegal n s Detach r t = Detaches n s r t
BarrierLegal n s ArriveAndDetach r t = ArrivesAndDetaches n s r t
BarrierLegal n s ArriveAndDetachExceptLast r t = ArrivesAndDetachesExceptLast n s r t

-- the replies that a call may have at all
abbrev pub MayAnswer : BarrierCall → BarrierReply → Type 0
MayAnswer Attach (Attached p) = Unit {0}
MayAnswer Attach (AlreadyIn p) = Unit {0}
MayAnswer Attach Waiting = ⊥
MayAnswer Attach (Released p e) = ⊥
MayAnswer Attach (Left p l) = ⊥
MayAnswer Attach (NotIn p) = ⊥
MayAnswer Attach (Twice p) = ⊥
MayAnswer Arrive Waiting = Unit {0}
MayAnswer Arrive (Released p e) = Unit {0}
MayAnswer Arrive (NotIn p) = Unit {0}
MayAnswer Arrive (Twice p) = Unit {0}
MayAnswer Arrive (Attached p) = ⊥
MayAnswer Arrive (Left p l) = ⊥
MayAnswer Arrive (AlreadyIn p) = ⊥
MayAnswer Look Waiting = Unit {0}
MayAnswer Look (Released p e) = Unit {0}
MayAnswer Look (NotIn p) = Unit {0}
MayAnswer Look (Attached p) = ⊥
MayAnswer Look (Left p l) = ⊥
MayAnswer Look (AlreadyIn p) = ⊥
MayAnswer Look (Twice p) = ⊥
MayAnswer Detach (Left p l) = Unit {0}
MayAnswer Detach (NotIn p) = Unit {0}
MayAnswer Detach Waiting = ⊥
MayAnswer Detach (Released p e) = ⊥
MayAnswer Detach (Attached p) = ⊥
MayAnswer Detach (AlreadyIn p) = ⊥
MayAnswer Detach (Twice p) = ⊥
MayAnswer ArriveAndDetach (Left p l) = Unit {0}
MayAnswer ArriveAndDetach (NotIn p) = Unit {0}
MayAnswer ArriveAndDetach (Twice p) = Unit {0}
MayAnswer ArriveAndDetach Waiting = ⊥
MayAnswer ArriveAndDetach (Released p e) = ⊥
MayAnswer ArriveAndDetach (Attached p) = ⊥
MayAnswer ArriveAndDetach (AlreadyIn p) = ⊥
MayAnswer ArriveAndDetachExceptLast (Left p true) = ⊥
MayAnswer ArriveAndDetachExceptLast (Left p false) = Unit {0}
MayAnswer ArriveAndDetachExceptLast (Released p true) = Unit {0}
MayAnswer ArriveAndDetachExceptLast (Released p false) = ⊥
MayAnswer ArriveAndDetachExceptLast (NotIn p) = Unit {0}
MayAnswer ArriveAndDetachExceptLast (Twice p) = Unit {0}
MayAnswer ArriveAndDetachExceptLast Waiting = ⊥
MayAnswer ArriveAndDetachExceptLast (Attached p) = ⊥
MayAnswer ArriveAndDetachExceptLast (AlreadyIn p) = ⊥
