-- What a leader has merged, and why it may have given up.
use Rattle.std.specs.Prelude.{◌≡◌, ◌⊎◌, ℕ, List, [], ◌∷◌, All, IsTrue, Option, Some, None, map, true}
use Rattle.row_blocks.specs.Blocks.{Table}
use Rattle.par_model.specs.Plan.{Plan}
use Rattle.parallel_ctx.specs.Accounts.{Heard}
use Rattle.parallel_ctx.specs.declared.tokens.LeaderEnds.{LeaderEnds}
use Rattle.partial_agg.specs.Rows.{header_width}
use Rattle.partial_agg.specs.declared.map.BlockAnswer.{BlockAnswer}
use Rattle.partial_agg.specs.declared.map.BlockAnswer.TheVariants as block
use Rattle.scan_claim.specs.Drawing.{is_spent}
use Rattle.worker_run.specs.Ended.{IsFirst, IsRefused}
use Rattle.gather_merge.specs.Hearing.{IsOver, NamedBy, notices_of, rows_given, rows_heard}
use Rattle.gather_merge.specs.Order.{row_cmp}
use Rattle.gather_merge.specs.Streams.{IsMerge, IsStream}
use Rattle.gather_merge.specs.declared.MergeAnswer.{MergeAnswer}
use Rattle.gather_merge.specs.declared.MergeAnswer.TheVariants.{Row, Memory}

-- ---- the merge

-- all rows of the leader and of the workers are merged
pub record IsMerged (plan : Plan) (records : Table) (own : List ℕ) (queues : List LeaderEnds) (order : List ℕ) : Type 0 where
  pub merge : IsMerge (row_cmp plan records) (own ∷ map rows_given queues) order
  pub over : All IsOver queues

-- what came of merging
abbrev pub Merges : Plan → Table → List ℕ → List ℕ → List LeaderEnds → Option MergeAnswer → Type 0
Merges plan records own order queues None = IsMerged plan records own queues order
Merges plan records own order queues (Some (Row row cause)) = NamedBy (map notices_of queues) row cause
Merges plan records own order queues (Some Memory) = Unit {0}

-- ---- the leader

-- why a block was not taken, or what the workers' ends mean, as an answer
abbrev pub Answers : BlockAnswer → MergeAnswer → Type 0
Answers (block.Row row cause item) answer = answer ≡ Row row cause
Answers block.Memory answer = answer ≡ Memory

-- it has led to the end: there are no more blocks, no more messages on the tuple queues, and no notice that it has not
-- read
pub record HasLed (plan : Plan) (records : Table) (blocks : ℕ) (draws : List ℕ) (heard : List Heard) (order : List ℕ) : Type 0 where
  pub own : List ℕ
  pub stream : IsStream plan (header_width records) records draws own
  pub merge : IsMerge (row_cmp plan records) (own ∷ map rows_heard heard) order
  pub spent : IsTrue (is_spent blocks draws)
  pub over : All (λ (h : Heard). h.tuples_over ≡ true) heard
  pub errors_over : All (λ (h : Heard). h.errors_over ≡ true) heard

-- it met a refused row, the first if it is alone
pub record MetRow (plan : Plan) (records : Table) (alone : Type 0) (row cause : ℕ) : Type 0 where
  pub item : ℕ
  pub refused : IsRefused plan records row cause item
  pub first : alone → IsFirst plan records row

-- it met a refused row, or a message named one
abbrev pub NamesRow : Plan → Table → List Heard → ℕ → ℕ → Type 0
NamesRow plan records heard row cause = MetRow plan records (heard ≡ []) row cause ⊎ NamedBy (map (λ (h : Heard). h.errors) heard) row cause

-- what it did: it led to the end, or knows of a refused row, or had no memory
abbrev pub Led : Plan → Table → ℕ → List ℕ → List Heard → List ℕ → Option MergeAnswer → Type 0
Led plan records blocks draws heard order None = HasLed plan records blocks draws heard order
Led plan records blocks draws heard order (Some (Row row cause)) = NamesRow plan records heard row cause
Led plan records blocks draws heard order (Some Memory) = Unit {0}
