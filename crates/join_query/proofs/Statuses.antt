-- The status and the line of a reason to have no table.
use Rattle.std.proofs.Common.{◌≡◌, ◌≢◌, ◌⊎◌, ℕ, List, Option, None, Some, IfSome, ap, arith, inl, inr, refl}
use Rattle.std.specs.Prelude.{Contains, IsNone}
use Rattle.answer_text.specs.Lines.{line, statuses}
use Rattle.answer_text.specs.declared.status.TheConstants.{NO_MEMORY, TABLE}
use Rattle.join_query.specs.Lines.{IsLine, IsNoFault, IsStatus, cause_status, name_of, status_of}
use Rattle.join_query.specs.Outcome.{Outcome, Fails, IsOutcome, Joins}
use Rattle.join_query.specs.Stops.{IsExplained, stop_status, stop_text}
use Rattle.join_query.specs.Words.{Asked}
use Rattle.row_blocks.specs.Blocks.{Table}
use Rattle.join_query.specs.declared.cause.Cause.{Cause}
use Rattle.join_query.specs.declared.cause.Cause.TheVariants as cause
use Rattle.join_query.specs.declared.stop.Stop.{Stop}
use Rattle.join_query.specs.declared.stop.Stop.TheVariants as stop
use Rattle.join_query.proofs.Unique.{one_outcome}

-- one of the statuses
abbrev IsFailure : ℕ → Type 0
IsFailure status = Contains statuses status × (status ≢ TABLE)

of_cause : (why : Cause) → IsFailure (cause_status why)
of_cause cause.Usage = ((2, omega arith, refl), λ e. cc e)
of_cause cause.TooManyBytes = ((6, omega arith, refl), λ e. cc e)
of_cause cause.NoSecondTable = ((2, omega arith, refl), λ e. cc e)
of_cause (cause.NoHeader of_right) = ((2, omega arith, refl), λ e. cc e)
of_cause cause.TooManyRows = ((6, omega arith, refl), λ e. cc e)
of_cause (cause.NoColumn of_right) = ((2, omega arith, refl), λ e. cc e)
of_cause (cause.Refused of_right row why) = ((1, omega arith, refl), λ e. cc e)
of_cause cause.TooManyPairs = ((6, omega arith, refl), λ e. cc e)

of_stop : (why : Stop) → IsFailure (stop_status why)
of_stop (stop.Because why) = of_cause why
of_stop stop.ReadFault = ((3, omega arith, refl), λ e. cc e)
of_stop stop.WriteFault = ((4, omega arith, refl), λ e. cc e)
of_stop stop.Memory = ((5, omega arith, refl), λ e. cc e)

pub stop_listed : (why : Stop) → Contains statuses (stop_status why)
stop_listed why = (of_stop why).0

pub stop_fails : (why : Stop) → stop_status why ≢ TABLE
stop_fails why = (of_stop why).1

-- a status of a fault is that of the fault
of_cause_read : (why : Cause) → cause_status why ≡ 3 → ⊥
of_cause_read cause.Usage e = cc e
of_cause_read cause.TooManyBytes e = cc e
of_cause_read cause.NoSecondTable e = cc e
of_cause_read (cause.NoHeader of_right) e = cc e
of_cause_read cause.TooManyRows e = cc e
of_cause_read (cause.NoColumn of_right) e = cc e
of_cause_read (cause.Refused of_right row why) e = cc e
of_cause_read cause.TooManyPairs e = cc e

of_cause_write : (why : Cause) → cause_status why ≡ 4 → ⊥
of_cause_write cause.Usage e = cc e
of_cause_write cause.TooManyBytes e = cc e
of_cause_write cause.NoSecondTable e = cc e
of_cause_write (cause.NoHeader of_right) e = cc e
of_cause_write cause.TooManyRows e = cc e
of_cause_write (cause.NoColumn of_right) e = cc e
of_cause_write (cause.Refused of_right row why) e = cc e
of_cause_write cause.TooManyPairs e = cc e

of_cause_memory : (why : Cause) → cause_status why ≡ 5 → ⊥
of_cause_memory cause.Usage e = cc e
of_cause_memory cause.TooManyBytes e = cc e
of_cause_memory cause.NoSecondTable e = cc e
of_cause_memory (cause.NoHeader of_right) e = cc e
of_cause_memory cause.TooManyRows e = cc e
of_cause_memory (cause.NoColumn of_right) e = cc e
of_cause_memory (cause.Refused of_right row why) e = cc e
of_cause_memory cause.TooManyPairs e = cc e

pub stop_read : (why : Stop) → stop_status why ≡ 3 → why ≡ stop.ReadFault
stop_read (stop.Because why) e = absurd (of_cause_read why e)
stop_read stop.ReadFault e = refl
stop_read stop.WriteFault e = cc e
stop_read stop.Memory e = cc e

pub stop_write : (why : Stop) → stop_status why ≡ 4 → why ≡ stop.WriteFault
stop_write (stop.Because why) e = absurd (of_cause_write why e)
stop_write stop.ReadFault e = cc e
stop_write stop.WriteFault e = refl
stop_write stop.Memory e = cc e

-- ---- the outcome

-- the status of an outcome is that of the words and bytes, since there is one
is_status : (asked : Option Asked) (bytes : List ℕ) (o : Outcome) → IsOutcome asked bytes o → IsStatus asked bytes (status_of o)
is_status asked bytes o is = record { outcome = o; is = is; status_is = refl; one = λ p other. one_outcome asked bytes p o other is }

pub stop_outcome : (asked : Option Asked) (left : Option (List ℕ)) (why : Stop) → IsExplained asked left why → IsNoFault (stop_status why)
    → IfSome left (λ bytes. IsStatus asked bytes (stop_status why))
stop_outcome asked None why is fine = tt
stop_outcome asked (Some bytes) (stop.Because why) is fine = is_status asked bytes (Fails why) is
stop_outcome asked (Some bytes) stop.ReadFault is fine = absurd (fine.read refl)
stop_outcome asked (Some bytes) stop.WriteFault is fine = absurd (fine.write refl)
stop_outcome asked (Some bytes) stop.Memory is fine = absurd (fine.memory refl)

pub joins_outcome : (asked : Option Asked) (left : Option (List ℕ)) (P : List ℕ → Table → Type 0) → IfSome left (λ bytes. (records : Table) × IsOutcome asked bytes (Joins records) × P bytes records)
    → IfSome left (λ bytes. IsStatus asked bytes TABLE)
joins_outcome asked None P is = tt
joins_outcome asked (Some bytes) P is = is_status asked bytes (Joins is.0) is.1

-- and without a fault the status is so, or there is no memory
pub stop_complete : (asked : Option Asked) (left : Option (List ℕ)) (why : Stop) → IsExplained asked left why → (why ≢ stop.ReadFault) → (why ≢ stop.WriteFault)
    → IfSome left (λ bytes. (stop_status why ≡ NO_MEMORY) ⊎ IsStatus asked bytes (stop_status why))
stop_complete asked None why is read write = tt
stop_complete asked (Some bytes) (stop.Because why) is read write = inr (is_status asked bytes (Fails why) is)
stop_complete asked (Some bytes) stop.ReadFault is read write = absurd (read refl)
stop_complete asked (Some bytes) stop.WriteFault is read write = absurd (write refl)
stop_complete asked (Some bytes) stop.Memory is read write = inl refl

pub joins_complete : (asked : Option Asked) (left : Option (List ℕ)) (P : List ℕ → Table → Type 0) → IfSome left (λ bytes. (records : Table) × IsOutcome asked bytes (Joins records) × P bytes records)
    → IfSome left (λ bytes. (TABLE ≡ NO_MEMORY) ⊎ IsStatus asked bytes TABLE)
joins_complete asked None P is = tt
joins_complete asked (Some bytes) P is = inr (is_status asked bytes (Joins is.0) is.1)

-- the line
of_explained : (asked : Option Asked) (left : Option (List ℕ)) (why : Cause) → IsExplained asked left (stop.Because why) → IfSome left (λ bytes. IsOutcome asked bytes (Fails why))
of_explained asked None why is = tt
of_explained asked (Some bytes) why is = is

pub stop_line : (asked : Option Asked) (left : Option (List ℕ)) (why : Stop) → IsExplained asked left why → (IsNone asked → why ≡ stop.Because cause.Usage) → IsLine asked left (stop_status why) (line (stop_text (name_of asked) why))
stop_line asked left (stop.Because why) is none = record {
  read_fault = λ e. absurd (of_cause_read why e);
  write_fault = λ e. absurd (of_cause_write why e);
  no_memory = λ e. absurd (of_cause_memory why e);
  cause = λ _. record { why = why; is = of_explained asked left why is; status_is = refl; says = refl };
  usage = λ n. ap (λ (w : Stop). line (stop_text (name_of asked) w)) (none n);
}
stop_line asked left stop.ReadFault is none = record { read_fault = λ _. refl; write_fault = λ e. cc e; no_memory = λ e. cc e; cause = λ fine. absurd (fine.read refl); usage = λ n. ap (λ (w : Stop). line (stop_text (name_of asked) w)) (none n) }
stop_line asked left stop.WriteFault is none = record { read_fault = λ e. cc e; write_fault = λ _. refl; no_memory = λ e. cc e; cause = λ fine. absurd (fine.write refl); usage = λ n. ap (λ (w : Stop). line (stop_text (name_of asked) w)) (none n) }
stop_line asked left stop.Memory is none = record { read_fault = λ e. cc e; write_fault = λ e. cc e; no_memory = λ _. refl; cause = λ fine. absurd (fine.memory refl); usage = λ n. ap (λ (w : Stop). line (stop_text (name_of asked) w)) (none n) }
