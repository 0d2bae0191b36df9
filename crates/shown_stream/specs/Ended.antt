-- How a query ended whose table was put together in memory.
use Rattle.std.specs.Prelude.{◌≡◌, ◌≢◌, ◌∷◌, ◌⊎◌, ℕ, List, Option, codes, take}
use Rattle.std.specs.Io.KnownBytes.{Appends}
use Rattle.answer_text.specs.Lines.{IsSaid}
use Rattle.answer_text.specs.declared.status.TheConstants.{MISUSED, NO_MEMORY, TABLE, WRITE_FAULT}
use Rattle.par_model.specs.Table.{table_text}
use Rattle.stream_groups.specs.Lines.{line}
use Rattle.shown_stream.specs.Shown.{IsFormText}
use Rattle.shown_stream.specs.declared.how.How.{How}

-- an option is wrong, and a line says this text of it, or memory ran out, and a line says so
abbrev pub SaysWrong : List ℕ → ℕ → Option (List ℕ) → Option (List ℕ) → ℕ → ℕ → Type 0
SaysWrong text status old new before now =
    ((status ≡ MISUSED) × IsSaid old new before now (line text)) ⊎ ((status ≡ NO_MEMORY) × IsSaid old new before now (line (codes "out of memory")))

-- if a text is that of a table, a sink was given what is shown of it
abbrev pub PutsShown : How → List ℕ → Option (List ℕ) → Option (List ℕ) → Type 0
PutsShown how whole old new = (header : List (List ℕ)) (rows : List (List (List ℕ))) → whole ≡ table_text (header ∷ rows)
    → (text : List ℕ) × IsFormText how header rows text × Appends old new text

-- the same up to a write that failed
abbrev pub PutsPart : How → List ℕ → Option (List ℕ) → Option (List ℕ) → Type 0
PutsPart how whole old new = (header : List (List ℕ)) (rows : List (List (List ℕ))) → whole ≡ table_text (header ∷ rows)
    → (text : List ℕ) × IsFormText how header rows text × (n : ℕ) × Appends old new (take n text)

-- Why there is no table at the end of a query that ended with a status and with what it said, in memory without a fault: out
-- of memory, or a write of what is shown failed, or what the query said
abbrev pub EndsFor : ℕ → List ℕ → ℕ → ℕ → Option (List ℕ) → Option (List ℕ) → ℕ → ℕ → Type 0
EndsFor status said faults ends old new before now =
    ((ends ≡ NO_MEMORY) × IsSaid old new before now (line (codes "out of memory")))
    ⊎ (((status ≡ TABLE) × (ends ≡ WRITE_FAULT) × IsSaid old new before now (line (codes "write fault")))
    ⊎ ((status ≢ TABLE) × (status ≢ WRITE_FAULT) × (ends ≡ status) × (faults ≡ 0) × IsSaid old new before now said))
