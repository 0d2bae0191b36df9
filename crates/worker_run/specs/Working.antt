-- A worker between two blocks.
use Rattle.std.specs.Prelude.{◌≡◌, ◌++◌, ℕ, List, [], All, length}
use Rattle.std.specs.FinMap as map
use Rattle.std.specs.List.{flat_map}
use Rattle.std.specs.List.Sorted.{IsPermutation}
use Rattle.mq_handle.specs.Messages.{whole_of}
use Rattle.par_model.specs.Plan.{Plan}
use Rattle.partial_agg.specs.Groups.{GroupsByKey, with_rows}
use Rattle.partial_agg.specs.Rows.{IsAccepted, header_width}
use Rattle.ring_rule.specs.Ring.{Sending}
use Rattle.gather_law.specs.Tuples.{Group, groups_of}
use Rattle.row_blocks.specs.Blocks.{Table, rows_of_blocks}
use Rattle.worker_run.specs.Sent.{AreWritten, IsReady, tuples_of}
use Rattle.tuple_codec.specs.declared.write.TheConstants.{TUPLE_BYTES}
use Rattle.error_queue.specs.declared.TheConstants.{MESSAGE_BYTES}

-- a participant goes on to its next block with fewer groups than this in the map that it keeps
abbrev pub most_kept : ℕ
most_kept = 1048576

-- Of the rows of its blocks, none of which is refused, it has sent the groups of some batches, each once and in any
-- order, and keeps those of the others in its map. It has sent no notice
pub record IsWorking (plan : Plan) (records : Table) (draws : List ℕ) (groups : GroupsByKey) (errors tuples : Sending) : Type 0 where
  pub batches : List Table
  pub last : Table
  pub cut : flat_map (λ batch. batch) batches ++ last ≡ rows_of_blocks records draws
  pub accepted : All (IsAccepted plan (header_width records)) (rows_of_blocks records draws)
  pub kept : groups ≡ with_rows plan map.empty last
  pub done : List Group
  pub all : IsPermutation (flat_map (groups_of plan) batches) done
  pub sent : whole_of tuples.put ≡ tuples_of (length plan.items) done
  pub written : AreWritten (length plan.items) done
  pub silent : whole_of errors.put ≡ []
  pub errors_ready : IsReady MESSAGE_BYTES errors
  pub tuples_ready : IsReady TUPLE_BYTES tuples
