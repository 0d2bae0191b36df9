-- Where a leader's rows come from, besides its own: the workers' queues, and what was given of each.
use Rattle.std.specs.Prelude.{◌≡◌, ◌&&◌, ◌++◌, ℕ, Bool, List, [], ◌∷◌, All, Any, Option, None, Some, false, map, true}
use Rattle.std.specs.List.{flat_map}
use Rattle.atomic_table.specs.Seated.{TableId}
use Rattle.mq_handle.specs.Messages.{whole_of}
use Rattle.parallel_ctx.specs.Accounts.{Heard, is_over}
use Rattle.parallel_ctx.specs.declared.tokens.LeaderEnds.{LeaderEnds}
use Rattle.partial_agg.specs.declared.map.BlockAnswer.{BlockAnswer}
use Rattle.partial_agg.specs.declared.map.BlockAnswer.TheVariants as answer
use Rattle.ring_rule.specs.Ring.{Receiving}
use Rattle.worker_run.specs.Notices.{ReadsRow}
use Rattle.gather_merge.specs.Sent.{row_of}
use Rattle.gather_merge.specs.declared.MergeAnswer.{MergeAnswer}
use Rattle.gather_merge.specs.declared.MergeAnswer.TheVariants as merging
use Rattle.gather_merge.specs.declared.hearing.Next.{Next}
use Rattle.gather_merge.specs.declared.hearing.Next.TheVariants.{Row, Over, Names, Lost}

-- ---- what a worker gave

-- what a worker has given so far, and whether there is no more
pub record Source : Type 0 where
  pub rows : List ℕ
  pub over : Bool

-- a worker's queues; it is over when its last notice is read too
abbrev pub queue_source : LeaderEnds → Source
queue_source q = record { rows = map row_of (whole_of q.tuples.end.taken); over = is_over q.tuples.end && is_over q.errors.end }

-- the rows that were taken of a worker
abbrev pub rows_given : LeaderEnds → List ℕ
rows_given q = (queue_source q).rows

-- no row was taken of a worker
abbrev pub HasGivenNoRow : LeaderEnds → Type 0
HasGivenNoRow q = rows_given q ≡ []

-- a worker has given all its rows, and its last notice is read
abbrev pub IsOver : LeaderEnds → Type 0
IsOver q = (queue_source q).over ≡ true

-- the rows of the messages that a leader took off a worker's tuple queue
abbrev pub rows_heard : Heard → List ℕ
rows_heard h = map row_of h.tuples

-- ---- the leader's ends

-- the leader's ends of a worker's queues are of this region, and open
pub record IsOpen (region : TableId) (q : LeaderEnds) : Type 0 where
  pub errors_here : q.errors.region ≡ region
  pub errors_stays : q.errors.end.gone ≡ false
  pub tuples_here : q.tuples.region ≡ region
  pub tuples_stays : q.tuples.end.gone ≡ false

-- the leader's ends of the queues of all workers are of this region, and open
abbrev pub AreOpen : TableId → List LeaderEnds → Type 0
AreOpen region queues = All (IsOpen region) queues

-- a notice of some worker names a refused row
pub record NamedBy (queues : List (List (List ℕ))) (row cause : ℕ) : Type 0 where
  pub item : ℕ
  pub named : Any (λ notices. Any (ReadsRow row cause item) notices) queues

-- the notices that were taken of a worker
abbrev pub notices_of : LeaderEnds → List (List ℕ)
notices_of q = whole_of q.errors.end.taken

-- a notice that was taken of a worker names this refused row; a lack of memory names none
abbrev pub IsNamedIn : LeaderEnds → BlockAnswer → Type 0
IsNamedIn q (answer.Row row cause item) = Any (ReadsRow row cause item) (notices_of q)
IsNamedIn q answer.Memory = ⊥

-- ---- one answer

-- the last notice is read; or one that names a refused row was taken, if the answer names one
abbrev pub HearsEnd : Receiving → Next → Type 0
HearsEnd new (Row row) = ⊥
HearsEnd new Over = is_over new ≡ true
HearsEnd new (Names row cause item) = Any (ReadsRow row cause item) (whole_of new.taken)
HearsEnd new Lost = ⊥

-- a worker gave one more row, or has no more
abbrev pub Gives : Source → Source → Next → Type 0
Gives old new (Row row) = new.rows ≡ old.rows ++ row ∷ []
Gives old new Over = (new.rows ≡ old.rows) × (new.over ≡ true)
Gives old new (Names row cause item) = Unit {0}
Gives old new Lost = Unit {0}

-- what came of a worker's queues
pub record Hears (old new : LeaderEnds) (next : Next) : Type 0 where
  pub gives : Gives (queue_source old) (queue_source new) next
  pub names : (row cause item : ℕ) → next ≡ Names row cause item → Any (ReadsRow row cause item) (notices_of new)

-- ---- all rows

-- all rows of a worker come after a list; or a notice of it names a refused row
abbrev pub HearsRows : List ℕ → List ℕ → LeaderEnds → Option MergeAnswer → Type 0
HearsRows old new q None = (new ≡ old ++ rows_given q) × IsOver q
HearsRows old new q (Some (merging.Row row cause)) = (item : ℕ) × Any (ReadsRow row cause item) (notices_of q)
HearsRows old new q (Some merging.Memory) = Unit {0}

-- all rows of all workers come after a list, those of one worker after the other's; or a notice names a refused row
abbrev pub HearsAll : List ℕ → List ℕ → List LeaderEnds → Option MergeAnswer → Type 0
HearsAll old new queues None = (new ≡ old ++ flat_map rows_given queues) × All IsOver queues
HearsAll old new queues (Some (merging.Row row cause)) = NamedBy (map notices_of queues) row cause
HearsAll old new queues (Some merging.Memory) = Unit {0}
