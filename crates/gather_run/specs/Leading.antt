-- What a leader has put into its map so far, and why it may have given up.
use Rattle.std.specs.Prelude.{◌≡◌, ◌⊎◌, ◌++◌, ℕ, List, [], All, Any, IsTrue, Option, Some, None, length, map as map_list, true}
use Rattle.std.specs.FinMap as map
use Rattle.std.specs.List.{AllZip, flat_map}
use Rattle.std.specs.List.Sorted.{IsPermutation}
use Rattle.agg_table.specs.Calls.{Use}
use Rattle.par_model.specs.Plan.{Plan}
use Rattle.partial_agg.specs.Groups.{GroupsByKey, with_rows}
use Rattle.partial_agg.specs.Rows.{IsAccepted, header_width}
use Rattle.scan_claim.specs.Drawing.{below, is_spent}
use Rattle.scan_claim.specs.Shown.{callers_of, draws_of}
use Rattle.scan_claim.specs.declared.claims.ClaimSeat.{ClaimSeat}
use Rattle.scan_claim.specs.declared.claims.Claims.{Claims}
use Rattle.gather_law.specs.Parts.{Part, after, blocks_in, received_in}
use Rattle.gather_law.specs.Tuples.{Group}
use Rattle.row_blocks.specs.Blocks.{Table, rows_of_blocks}
use Rattle.parallel_ctx.specs.Accounts.{Heard}
use Rattle.worker_run.specs.Ended.{IsFirst, IsRefused}
use Rattle.worker_run.specs.Notices.{ReadsRow}
use Rattle.gather_run.specs.Reading.{ReadAs}
use Rattle.gather_run.specs.Sharing.{DoesBlocks}
use Rattle.gather_run.specs.declared.GatherAnswer.{GatherAnswer}
use Rattle.gather_run.specs.declared.GatherAnswer.TheVariants.{Row, Memory}

-- The blocks that it drew are done, and none of their rows is refused. Its map has their rows and the groups of all
-- messages that it took off the tuple queues; with a table of groups, instead of the rows the groups of its own blocks
-- that the table had no room for
pub record IsLeading (plan : Plan) (records : Table) (draws : List ℕ) (used : Option Use) (tuples : List (List (List ℕ))) (groups : GroupsByKey) : Type 0 where
  pub parts : List Part
  pub left : List Group
  pub taken : List (List Group)
  pub map_is : groups ≡ after plan records parts
  pub own : DoesBlocks plan records draws used (blocks_in parts) left
  pub accepted : All (IsAccepted plan (header_width records)) (rows_of_blocks records draws)
  pub read : AllZip ReadAs tuples taken
  pub received : IsPermutation (received_in parts) (left ++ flat_map (λ groups. groups) taken)

-- Of the blocks that it drew it has done the first ones; the groups of the others, whose rows are not refused, it keeps in
-- a second map. Without a table of groups there are no others
pub record IsKeeping (plan : Plan) (records : Table) (draws : List ℕ) (used : Option Use) (tuples : List (List (List ℕ))) (kept groups : GroupsByKey) : Type 0 where
  pub done : List ℕ
  pub last : List ℕ
  pub cut : done ++ last ≡ draws
  pub leading : IsLeading plan records done used tuples groups
  pub accepted : All (IsAccepted plan (header_width records)) (rows_of_blocks records last)
  pub kept_is : kept ≡ with_rows plan map.empty (rows_of_blocks records last)
  pub none : used ≡ None → last ≡ []

-- if it is alone it draws the blocks in order
abbrev pub DrawsInOrder : Claims → ClaimSeat → Type 0
DrawsInOrder claims claim = callers_of claims ≡ 1 → draws_of claim ≡ below (length (draws_of claim))

-- a row that it met is refused, and if it is alone it is the first
pub record MetRow (plan : Plan) (records : Table) (alone : Type 0) (row cause item : ℕ) : Type 0 where
  pub refused : IsRefused plan records row cause item
  pub first : alone → IsFirst plan records row

-- it has led to the end: there are no more blocks, no more messages on the tuple queues, and no notice that it has not
-- read
pub record HasLed (plan : Plan) (records : Table) (blocks : ℕ) (draws : List ℕ) (used : Option Use) (heard : List Heard) (groups : GroupsByKey) : Type 0 where
  pub leading : IsLeading plan records draws used (map_list (λ (h : Heard). h.tuples) heard) groups
  pub spent : IsTrue (is_spent blocks draws)
  pub over : All (λ (h : Heard). h.tuples_over ≡ true) heard
  pub errors_over : All (λ (h : Heard). h.errors_over ≡ true) heard

-- it met a refused row, or a message named one
abbrev pub NamesRow : Plan → Table → List Heard → ℕ → ℕ → ℕ → Type 0
NamesRow plan records heard row cause item = MetRow plan records (heard ≡ []) row cause item ⊎ Any (λ (h : Heard). Any (ReadsRow row cause item) h.errors) heard

-- what it did: it led to the end, or knows of a refused row, or had no memory
abbrev pub Led : Plan → Table → ℕ → List ℕ → Option Use → List Heard → GroupsByKey → Option GatherAnswer → Type 0
Led plan records blocks draws used heard groups None = HasLed plan records blocks draws used heard groups
Led plan records blocks draws used heard groups (Some (Row row cause item)) = NamesRow plan records heard row cause item
Led plan records blocks draws used heard groups (Some Memory) = Unit {0}
