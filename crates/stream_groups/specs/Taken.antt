-- How many bytes a source gave.
use Rattle.std.specs.Prelude.{◌≡◌, ◌⊎◌, ◌≤◌, ◌+◌, ℕ, Bool, Err, List, Ok, Option, Result, length}
use Rattle.std.specs.Io.KnownBytes.{Consumes}
use Rattle.par_io.specs.Faults.{Rose}
use Rattle.row_windows.specs.declared.window.WindowAnswer.{WindowAnswer}
use Rattle.row_windows.specs.declared.window.WindowAnswer.TheVariants as answer
use Rattle.stream_groups.specs.declared.taken.Taken.{Taken}
use Rattle.stream_groups.specs.declared.taken.Taken.TheVariants as taken

-- this many bytes more were counted, unless memory lacks for the count
abbrev pub IsMore : Taken → ℕ → Taken → Type 0
IsMore was more (taken.Bytes n) = (m : ℕ) × (was ≡ taken.Bytes m) × (n ≡ m + more)
IsMore was more taken.Fault = was ≡ taken.Fault
IsMore was more taken.Memory = Unit {0}

-- after a window was filled, or not, that had this many bytes of the source and has this many now
abbrev pub IsCountOf : Result Bool WindowAnswer → ℕ → ℕ → Taken → Taken → Type 0
IsCountOf (Ok is_last) had has was now = (more : ℕ) → has ≡ had + more → IsMore was more now
IsCountOf (Err answer.LongRecord) had has was now = (more : ℕ) → has ≡ had + more → IsMore was more now
IsCountOf (Err answer.ReadFault) had has was now = now ≡ taken.Fault
IsCountOf (Err answer.Memory) had has was now = now ≡ taken.Memory

-- What a source that had some bytes left and now has others gave: as many bytes as were counted, unless a read failed or there was no
-- memory
abbrev pub Gives : Option (List ℕ) → Option (List ℕ) → ℕ → ℕ → Taken → Taken → Type 0
Gives old new before after was (taken.Bytes n) = (m : ℕ) × (was ≡ taken.Bytes m) × (more : List ℕ) × Consumes old new more × (n ≡ m + length more)
Gives old new before after was taken.Fault = (was ≡ taken.Fault) ⊎ Rose before after
Gives old new before after was taken.Memory = Unit {0}

-- it was so counted, and no fault was forgotten
pub record Takes (old new : Option (List ℕ)) (before after : ℕ) (was now : Taken) : Type 0 where
  pub faults : before ≤ after
  pub gives : Gives old new before after was now
