-- A worker with a table of groups: the groups of its blocks that it put into the table, and those that it sent. It keeps
-- its groups over many blocks, so the blocks come in batches.
use Rattle.std.specs.Prelude.{◌≡◌, ◌<◌, ◌⊎◌, ◌++◌, ℕ, List, [], ◌∷◌, All, IsTrue, Option, Some, None, length}
use Rattle.std.specs.FinMap as map
use Rattle.std.specs.List.{flat_map}
use Rattle.agg_table.specs.Calls.{HasPut, IsLeft, IsPut, Use}
use Rattle.error_queue.specs.Message.{encoding}
use Rattle.error_queue.specs.declared.ErrorMessage.TheVariants as message
use Rattle.mq_handle.specs.Messages.{whole_of}
use Rattle.par_model.specs.Plan.{Plan}
use Rattle.partial_agg.specs.Groups.{GroupsByKey, with_rows}
use Rattle.partial_agg.specs.Rows.{IsAccepted, header_width}
use Rattle.row_blocks.specs.Blocks.{Table, rows_of_blocks}
use Rattle.ring_rule.specs.Ring.{Sending}
use Rattle.scan_claim.specs.Drawing.{flat, is_spent}
use Rattle.tuple_codec.specs.Tuple.{IsTuple, tuple_bytes}
use Rattle.gather_law.specs.Tuples.{Group, IsTupleOf, groups_of}
use Rattle.worker_run.specs.Ended.{Ended, HasEnded, IsNotice, Sends}
use Rattle.worker_run.specs.Sent.{AreWritten, HasSent, HasSentGroups, IsReady, tuples_of}
use Rattle.worker_run.specs.Working.{IsWorking, most_kept}
use Rattle.worker_run.specs.declared.WorkerEnd.{WorkerEnd}
use Rattle.worker_run.specs.declared.WorkerEnd.TheVariants.{Finished, Stopped, Refused, NoMemory}
use Rattle.tuple_codec.specs.declared.write.TheConstants.{TUPLE_BYTES}
use Rattle.error_queue.specs.declared.TheConstants.{MESSAGE_BYTES}

-- the groups of some batches of blocks, each batch's in the order of their keys
abbrev pub groups_of_batches : Plan → Table → List (List ℕ) → List Group
groups_of_batches plan records batches = flat_map (λ blocks. groups_of plan (rows_of_blocks records blocks)) batches

-- ---- steps

-- one group was put into the table, or was left and sent as a tuple
abbrev pub GivesGroup : ℕ → Use → Use → Sending → Sending → Group → Type 0
GivesGroup slots u v old new g = (IsPut u v g × (new ≡ old)) ⊎ (IsLeft u v g × IsTuple g.0 g.1 slots × HasSent old new (tuple_bytes g.0 g.1 slots ∷ []))

-- some groups were put into the table or sent, each of them once
pub record GivesGroups (slots : ℕ) (groups : List Group) (u v : Use) (old new : Sending) : Type 0 where
  pub put : List Group
  pub left : List Group
  pub more : (before ps ls : List Group) → HasPut before u ps ls → HasPut (before ++ groups) v (ps ++ put) (ls ++ left)
  pub written : AreWritten slots left
  pub sent : HasSent old new (tuples_of slots left)

-- all groups of a map were passed on, and the map is empty: with a table they were given out, and without one they were
-- sent
abbrev pub PassesOn : ℕ → Option Use → Option Use → GroupsByKey → GroupsByKey → Sending → Sending → Type 0
PassesOn slots None None groups left old new = HasSentGroups slots groups left old new
PassesOn slots (Some u) (Some v) groups left old new = (left ≡ map.empty) × GivesGroups slots (map.entries groups) u v old new
PassesOn slots None (Some v) groups left old new = ⊥
PassesOn slots (Some u) None groups left old new = ⊥

-- the groups of a map were kept, if they are few, or all were passed on
pub record PassesMany (slots : ℕ) (used used' : Option Use) (groups left : GroupsByKey) (old new : Sending) : Type 0 where
  pub few : map.len left < most_kept
  pub passed : ((left ≡ groups) × (used' ≡ used) × (new ≡ old)) ⊎ PassesOn slots used used' groups left old new

-- ---- between two blocks

-- Its blocks lie in batches, in the order in which it drew them, and none of their rows is refused. Of the groups of
-- each batch but the last it has put each into the table, or has sent it as a separate tuple; those of the last it
-- keeps in its map. It has sent no notice
pub record IsTabling (plan : Plan) (records : Table) (draws : List ℕ) (u : Use) (groups : GroupsByKey) (errors tuples : Sending) : Type 0 where
  pub batches : List (List ℕ)
  pub last : List ℕ
  pub cut : flat batches ++ last ≡ draws
  pub accepted : All (IsAccepted plan (header_width records)) (rows_of_blocks records draws)
  pub kept : groups ≡ with_rows plan map.empty (rows_of_blocks records last)
  pub put : List Group
  pub left : List Group
  pub has : HasPut (groups_of_batches plan records batches) u put left
  pub sent : whole_of tuples.put ≡ tuples_of (length plan.items) left
  pub written : AreWritten (length plan.items) left
  pub silent : whole_of errors.put ≡ []
  pub errors_ready : IsReady MESSAGE_BYTES errors
  pub tuples_ready : IsReady TUPLE_BYTES tuples

-- a worker between two blocks, with a table or without
abbrev pub IsAtWork : Plan → Table → List ℕ → Option Use → GroupsByKey → Sending → Sending → Type 0
IsAtWork plan records draws None groups errors tuples = IsWorking plan records draws groups errors tuples
IsAtWork plan records draws (Some u) groups errors tuples = IsTabling plan records draws u groups errors tuples

-- ---- the ends

-- A worker that finished: there are no more blocks, and none of its rows is refused. Its blocks lie in batches, in the
-- order in which it drew them; each group of each batch is one call of the table or one tuple. It said that it has
-- finished
pub record IsFinishedBy (plan : Plan) (records : Table) (blocks : ℕ) (draws : List ℕ) (u : Use) (s : Sends) : Type 0 where
  pub spent : IsTrue (is_spent blocks draws)
  pub accepted : All (IsAccepted plan (header_width records)) (rows_of_blocks records draws)
  pub batches : List (List ℕ)
  pub cut : flat batches ≡ draws
  pub put : List Group
  pub left : List Group
  pub has : HasPut (groups_of_batches plan records batches) u put left
  pub sent : s.tuples ≡ tuples_of (length plan.items) left
  pub written : AreWritten (length plan.items) left
  pub said : s.errors ≡ encoding message.End ∷ []

-- what each end says; the others say what those of a worker without a table do
abbrev pub EndedBy : Plan → Table → ℕ → List ℕ → Use → Sends → WorkerEnd → Type 0
EndedBy plan records blocks draws u s Finished = IsFinishedBy plan records blocks draws u s
EndedBy plan records blocks draws u s Stopped = Ended plan records blocks draws s Stopped
EndedBy plan records blocks draws u s (Refused row cause item) = Ended plan records blocks draws s (Refused row cause item)
EndedBy plan records blocks draws u s NoMemory = Ended plan records blocks draws s NoMemory

-- what a worker with a table has done when it ends
pub record HasEndedBy (plan : Plan) (records : Table) (blocks : ℕ) (draws : List ℕ) (u : Use) (s : Sends) (end : WorkerEnd) : Type 0 where
  pub ended : EndedBy plan records blocks draws u s end
  pub notices : All (IsNotice plan records draws) s.errors
  pub tuples : All (IsTupleOf plan) s.tuples

-- what a worker has done when it ends, with a table or without
abbrev pub EndsWith : Plan → Table → ℕ → List ℕ → Option Use → Sends → WorkerEnd → Type 0
EndsWith plan records blocks draws None s end = HasEnded plan records blocks draws s end
EndsWith plan records blocks draws (Some u) s end = HasEndedBy plan records blocks draws u s end
