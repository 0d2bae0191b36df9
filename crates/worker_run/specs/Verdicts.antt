-- What the workers' ends mean for the answer of a query.
use Rattle.std.specs.Prelude.{◌≡◌, List, Option, Some, None, All, Any}
use Rattle.partial_agg.specs.declared.map.BlockAnswer.{BlockAnswer}
use Rattle.partial_agg.specs.declared.map.BlockAnswer.TheVariants as answer
use Rattle.worker_run.specs.declared.WorkerEnd.{WorkerEnd}
use Rattle.worker_run.specs.declared.WorkerEnd.TheVariants.{Finished, Stopped, Refused, NoMemory}

-- a worker that finished, or did not start, has left out none of its rows
abbrev pub EndsWell : Option WorkerEnd → Type 0
EndsWell None = Unit {0}
EndsWell (Some Finished) = Unit {0}
EndsWell (Some Stopped) = ⊥
EndsWell (Some (Refused row cause item)) = ⊥
EndsWell (Some NoMemory) = ⊥

-- a worker met no refused row
abbrev pub NamesNoRow : Option WorkerEnd → Type 0
NamesNoRow None = Unit {0}
NamesNoRow (Some Finished) = Unit {0}
NamesNoRow (Some Stopped) = Unit {0}
NamesNoRow (Some (Refused row cause item)) = ⊥
NamesNoRow (Some NoMemory) = Unit {0}

-- What some ends mean: all ended well; or a worker met this refused row; or there was no memory, and then none met a
-- refused row
abbrev pub AreVerdict : List (Option WorkerEnd) → Option BlockAnswer → Type 0
AreVerdict ends None = All EndsWell ends
AreVerdict ends (Some (answer.Row row cause item)) = Any (λ end. end ≡ Some (Refused row cause item)) ends
AreVerdict ends (Some answer.Memory) = All NamesNoRow ends
