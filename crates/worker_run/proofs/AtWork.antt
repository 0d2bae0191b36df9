-- What the steps of a worker come to, with a table of groups and without.
use Rattle.std.proofs.Common.{◌≡◌, ◌<◌, ◌++◌, ◌⊎◌, inl, inr, ℕ, Bool, true, false, List, [], ◌∷◌, Option, Some, None, MatchBool, length, All, IsTrue, ap, sym, subst, ◌∙◌, arith}
use Rattle.std.specs.FinMap as map
use Rattle.std.specs.List.{AllByRecursion}
use Rattle.agg_table.specs.Calls.{Use}
use Rattle.agg_table.specs.Shown.{IsHashSeat, use_in, use_of}
use Rattle.agg_table.specs.declared.part.HashPart.{HashPart}
use Rattle.agg_table.specs.declared.part.HashSeat.{HashSeat}
use Rattle.atomic_table.specs.Seated.{TableId}
use Rattle.mq_handle.specs.Messages.{whole_of}
use Rattle.par_model.specs.Plan.{Plan}
use Rattle.par_model.specs.declared.state.AggState.{AggState}
use Rattle.partial_agg.specs.Blocks.{Stopped as IsStoppedAt}
use Rattle.partial_agg.specs.Groups.{GroupsByKey, key_cmp, with_rows}
use Rattle.partial_agg.specs.Rows.{IsAccepted, header_width}
use Rattle.row_blocks.specs.Blocks.{AreBlocks, Table, block_rows}
use Rattle.partial_agg.specs.declared.map.BlockAnswer.{BlockAnswer}
use Rattle.partial_agg.specs.declared.map.BlockAnswer.TheVariants as answer
use Rattle.ring_rule.specs.Ring.{Sending}
use Rattle.scan_claim.specs.Drawing.{is_spent}
use Rattle.gather_law.specs.Tuples.{IsTupleOf}
use Rattle.worker_run.specs.Ended.{HasEnded, sends_of}
use Rattle.worker_run.specs.Job.{DrawsNone}
use Rattle.worker_run.specs.Notices.{GivesUp}
use Rattle.worker_run.specs.Sent.{HasZeros, IsFreshQueue, IsReady, StoppedSending}
use Rattle.worker_run.specs.Steps.{Finishes, HasFinished}
use Rattle.worker_run.specs.Tabled.{EndsWith, IsAtWork, PassesMany, PassesOn}
use Rattle.worker_run.specs.Working.{IsWorking, most_kept}
use Rattle.worker_run.specs.declared.WorkerEnd.{WorkerEnd}
use Rattle.worker_run.specs.declared.WorkerEnd.TheVariants.{Finished, Stopped, Refused, NoMemory}
use Rattle.worker_run.proofs.Ends.{has_finished, has_given_up, has_stopped, more_tuples, stopped_saying, working_tuples}
use Rattle.worker_run.proofs.Giving.{table_finished, tabling-block, tabling-give, tabling-start, tabling_tuples, tabling_zeros}
use Rattle.worker_run.proofs.Saying.{passed_open}
use Rattle.worker_run.proofs.Working.{fresh_ready, fresh_silent, working-block, working-flush, working-start, working_zeros}
use Rattle.tuple_codec.specs.declared.write.TheConstants.{TUPLE_BYTES}
use Rattle.error_queue.specs.declared.TheConstants.{MESSAGE_BYTES}

none_are_few : (groups : GroupsByKey) → groups ≡ map.empty → map.len groups < most_kept
none_are_few groups e =
    subst (λ (m : GroupsByKey). map.len m < most_kept) (sym e) (subst (λ (n : ℕ). n < most_kept) (sym (map.len-empty key_cmp AggState)) (let some : 0 < 1048576 = omega arith in some))

-- groups that were passed on leave none
passed_few : (slots : ℕ) (used used' : Option Use) (groups left : GroupsByKey) (old new : Sending) → PassesOn slots used used' groups left old new → map.len left < most_kept
passed_few slots None None groups left old new p = none_are_few left p.empty
passed_few slots None (Some v) groups left old new p = absurd p
passed_few slots (Some u) None groups left old new p = absurd p
passed_few slots (Some u) (Some v) groups left old new p = none_are_few left p.0

pub passed_many : (slots : ℕ) (used used' : Option Use) (groups left : GroupsByKey) (old new : Sending) (b : Bool) → MatchBool b (PassesOn slots used used' groups left old new) (StoppedSending slots old new)
    → MatchBool b (PassesMany slots used used' groups left old new) (StoppedSending slots old new)
passed_many slots used used' groups left old new true p = record { few = passed_few slots used used' groups left old new p; passed = inr p }
passed_many slots used used' groups left old new false s = s

-- the queue stays open
pub many_open : (slots : ℕ) (used used' : Option Use) (groups left : GroupsByKey) (old new : Sending) → old.gone ≡ false → PassesMany slots used used' groups left old new → (new.ring ≡ old.ring) × (new.gone ≡ false)
many_open slots used used' groups left old new o p = by p.passed
  where
    by : ((left ≡ groups) × (used' ≡ used) × (new ≡ old)) ⊎ PassesOn slots used used' groups left old new → (new.ring ≡ old.ring) × (new.gone ≡ false)
    by (inl e) = (ap (λ (s : Sending). s.ring) e.2, ap (λ (s : Sending). s.gone) e.2 ∙ o)
    by (inr h) = passed_open slots used used' groups left old new h

-- an end is none of a worker that did all its blocks
abbrev IsEarly : WorkerEnd → Type 0
IsEarly Finished = ⊥
IsEarly Stopped = Unit {0}
IsEarly (Refused row cause item) = Unit {0}
IsEarly NoMemory = Unit {0}

module _ (plan : Plan) (records : Table) where
  -- ---- what holds between two blocks

  pub at_work-start : (region : TableId) (number : ℕ) (p : Option HashPart) (s : Option HashSeat) (groups : GroupsByKey) (errors tuples : Sending) → IsHashSeat region number p s → groups ≡ map.empty
      → IsFreshQueue MESSAGE_BYTES errors → IsFreshQueue TUPLE_BYTES tuples → IsAtWork plan records [] (use_in s) groups errors tuples
  at_work-start region number None None groups errors tuples h e f g =
      subst (λ (m : GroupsByKey). IsWorking plan records [] m errors tuples) (sym e)
      (working-start plan records errors tuples (fresh_silent plan records MESSAGE_BYTES errors f) (fresh_silent plan records TUPLE_BYTES tuples g) (fresh_ready plan records MESSAGE_BYTES errors f) (fresh_ready plan records TUPLE_BYTES tuples g))
  at_work-start region number None (Some s) groups errors tuples h e f g = absurd h
  at_work-start region number (Some p) None groups errors tuples h e f g = absurd h
  at_work-start region number (Some p) (Some s) groups errors tuples h e f g =
      tabling-start plan records (use_of s) groups errors tuples e h.2.turns (fresh_silent plan records MESSAGE_BYTES errors f) (fresh_silent plan records TUPLE_BYTES tuples g) (fresh_ready plan records MESSAGE_BYTES errors f) (fresh_ready plan records TUPLE_BYTES tuples g)

  -- groups that were passed on are tuples, those that were sent
  passed_tuples : (used used' : Option Use) (groups left : GroupsByKey) (old new : Sending) → All (IsTupleOf plan) (whole_of old.put) → PassesOn (length plan.items) used used' groups left old new → All (IsTupleOf plan) (whole_of new.put)
  passed_tuples None None groups left old new t p = more_tuples plan records p.all.done old new t p.all.these.written p.all.these.sent.sent
  passed_tuples None (Some v) groups left old new t p = absurd p
  passed_tuples (Some u) None groups left old new t p = absurd p
  passed_tuples (Some u) (Some v) groups left old new t p = more_tuples plan records p.1.left old new t p.1.written p.1.sent.sent

  module _ (draws : List ℕ) (groups : GroupsByKey) (errors tuples : Sending) where
    pub errors_ready : (used : Option Use) → IsAtWork plan records draws used groups errors tuples → IsReady MESSAGE_BYTES errors
    errors_ready None w = w.errors_ready
    errors_ready (Some u) w = w.errors_ready

    pub tuples_ready : (used : Option Use) → IsAtWork plan records draws used groups errors tuples → IsReady TUPLE_BYTES tuples
    tuples_ready None w = w.tuples_ready
    tuples_ready (Some u) w = w.tuples_ready

    silent_so_far : (used : Option Use) → IsAtWork plan records draws used groups errors tuples → whole_of errors.put ≡ []
    silent_so_far None w = w.silent
    silent_so_far (Some u) w = w.silent

    tuples_so_far : (used : Option Use) → IsAtWork plan records draws used groups errors tuples → All (IsTupleOf plan) (whole_of tuples.put)
    tuples_so_far None w = working_tuples plan records draws groups errors tuples w
    tuples_so_far (Some u) w = tabling_tuples plan records draws u groups errors tuples w

    pub zeros_kept : (used : Option Use) → IsAtWork plan records draws used groups errors tuples → AllByRecursion (HasZeros (length plan.items)) (map.entries groups)
    zeros_kept None w = working_zeros plan records draws groups errors tuples w
    zeros_kept (Some u) w = tabling_zeros plan records draws u groups errors tuples w

    -- ---- a block

    at_work-added : (b : ℕ) (mid : GroupsByKey) (used : Option Use) → IsAtWork plan records draws used groups errors tuples → All (IsAccepted plan (header_width records)) (block_rows records b)
        → mid ≡ with_rows plan groups (block_rows records b) → IsAtWork plan records (draws ++ b ∷ []) used mid errors tuples
    at_work-added b mid None w h e = working-block plan records draws b groups mid errors tuples w h e
    at_work-added b mid (Some u) w h e = tabling-block plan records draws b u groups mid errors tuples w h e

    at_work-passed : (left : GroupsByKey) (tuples' : Sending) (used used' : Option Use) → IsAtWork plan records draws used groups errors tuples → PassesOn (length plan.items) used used' groups left tuples tuples'
        → IsAtWork plan records draws used' left errors tuples'
    at_work-passed left tuples' None None w p = working-flush plan records draws groups left errors tuples tuples' w p
    at_work-passed left tuples' None (Some v) w p = absurd p
    at_work-passed left tuples' (Some u) None w p = absurd p
    at_work-passed left tuples' (Some u) (Some v) w p = tabling-give plan records draws u v groups left errors tuples tuples' w p.0 p.1

    at_work-many : (left : GroupsByKey) (tuples' : Sending) (used used' : Option Use) → IsAtWork plan records draws used groups errors tuples → PassesMany (length plan.items) used used' groups left tuples tuples'
        → IsAtWork plan records draws used' left errors tuples'
    at_work-many left tuples' used used' w p = by p.passed
      where
        by : ((left ≡ groups) × (used' ≡ used) × (tuples' ≡ tuples)) ⊎ PassesOn (length plan.items) used used' groups left tuples tuples' → IsAtWork plan records draws used' left errors tuples'
        by (inl e) =
            subst (λ (m : GroupsByKey). IsAtWork plan records draws used' m errors tuples') (sym e.0)
            (subst (λ (o : Option Use). IsAtWork plan records draws o groups errors tuples') (sym e.1) (subst (λ (s : Sending). IsAtWork plan records draws used groups errors s) (sym e.2) w))
        by (inr h) = at_work-passed left tuples' used used' w h

    -- ---- the ends

    -- an early end says the same with a table
    other_end : (blocks : ℕ) (draws' : List ℕ) (used : Option Use) (errors' tuples' : Sending) (end : WorkerEnd) → IsEarly end → HasEnded plan records blocks draws' (sends_of errors' tuples') end
        → EndsWith plan records blocks draws' used (sends_of errors' tuples') end
    other_end blocks draws' None errors' tuples' end early h = h
    other_end blocks draws' (Some u) errors' tuples' Finished early h = absurd early
    other_end blocks draws' (Some u) errors' tuples' Stopped early h = record { ended = h.ended; notices = h.notices; tuples = h.tuples }
    other_end blocks draws' (Some u) errors' tuples' (Refused row cause item) early h = record { ended = h.ended; notices = h.notices; tuples = h.tuples }
    other_end blocks draws' (Some u) errors' tuples' NoMemory early h = record { ended = h.ended; notices = h.notices; tuples = h.tuples }

    pub ends_stopped : (blocks : ℕ) (draws' : List ℕ) (tuples' : Sending) (used used' : Option Use) → IsAtWork plan records draws used groups errors tuples
        → StoppedSending (length plan.items) tuples tuples' → EndsWith plan records blocks draws' used' (sends_of errors tuples') Stopped
    ends_stopped blocks draws' tuples' used used' w s =
        other_end blocks draws' used' errors tuples' Stopped tt (has_stopped plan records blocks draws' errors tuples tuples' (silent_so_far used w) (tuples_so_far used w) s)

    finished : (blocks : ℕ) (draws' : List ℕ) (errors' tuples' : Sending) (used used' : Option Use) → AreBlocks records blocks → IsAtWork plan records draws used groups errors tuples → DrawsNone blocks draws draws'
        → IsTrue (is_spent blocks draws') → HasFinished (length plan.items) used used' groups errors tuples errors' tuples' → EndsWith plan records blocks draws' used' (sends_of errors' tuples') Finished
    finished blocks draws' errors' tuples' None None a w late spent f = has_finished plan records blocks draws draws' groups errors tuples errors' tuples' a w late spent f
    finished blocks draws' errors' tuples' None (Some v) a w late spent f = absurd f.passed
    finished blocks draws' errors' tuples' (Some u) None a w late spent f = absurd f.passed
    finished blocks draws' errors' tuples' (Some u) (Some v) a w late spent f = table_finished plan records blocks draws draws' groups u v errors tuples errors' tuples' a w late spent f

    pub ends_finished : (blocks : ℕ) (draws' : List ℕ) (errors' tuples' : Sending) (used used' : Option Use) (end : WorkerEnd) → AreBlocks records blocks → IsAtWork plan records draws used groups errors tuples
        → DrawsNone blocks draws draws' → IsTrue (is_spent blocks draws') → Finishes (length plan.items) used used' groups errors tuples errors' tuples' end
        → EndsWith plan records blocks draws' used' (sends_of errors' tuples') end
    ends_finished blocks draws' errors' tuples' used used' Finished a w late spent f = finished blocks draws' errors' tuples' used used' a w late spent f
    ends_finished blocks draws' errors' tuples' used used' Stopped a w late spent (inl f) =
        subst (λ (s : Sending). EndsWith plan records blocks draws' used' (sends_of s tuples') Stopped) (sym f.1) (ends_stopped blocks draws' tuples' used used' w f.0)
    ends_finished blocks draws' errors' tuples' used used' Stopped a w late spent (inr f) =
        other_end blocks draws' used' errors' tuples' Stopped tt
        (stopped_saying plan records blocks draws' errors errors' tuples' (silent_so_far used w) (passed_tuples used used' groups map.empty tuples tuples' (tuples_so_far used w) f.0) f.1)
    ends_finished blocks draws' errors' tuples' used used' (Refused row cause item) a w late spent f = absurd f
    ends_finished blocks draws' errors' tuples' used used' NoMemory a w late spent f = absurd f

    gives_up_early : (errors' : Sending) (why : BlockAnswer) (end : WorkerEnd) → GivesUp errors errors' why end → IsEarly end
    gives_up_early errors' (answer.Row row cause item) end g = subst IsEarly (sym g.0) tt
    gives_up_early errors' answer.Memory end g = subst IsEarly (sym g.0) tt

    pub ends_given_up : (blocks : ℕ) (draws' : List ℕ) (block : ℕ) (old new : GroupsByKey) (errors' : Sending) (used : Option Use) (why : BlockAnswer) (end : WorkerEnd)
        → draws' ≡ draws ++ block ∷ [] → IsAtWork plan records draws used groups errors tuples → IsStoppedAt plan records block old new why → GivesUp errors errors' why end
        → EndsWith plan records blocks draws' used (sends_of errors' tuples) end
    ends_given_up blocks draws' block old new errors' used why end e w s g =
        other_end blocks draws' used errors' tuples end (gives_up_early errors' why end g)
        (has_given_up plan records blocks draws draws' block old new errors tuples errors' why end e (silent_so_far used w) (tuples_so_far used w) s g)

  module _ (draws : List ℕ) (groups : GroupsByKey) (errors tuples : Sending) where
    pub zeros_added : (b : ℕ) (mid : GroupsByKey) (used : Option Use) → IsAtWork plan records draws used groups errors tuples → All (IsAccepted plan (header_width records)) (block_rows records b)
        → mid ≡ with_rows plan groups (block_rows records b) → AllByRecursion (HasZeros (length plan.items)) (map.entries mid)
    zeros_added b mid used w h e = zeros_kept (draws ++ b ∷ []) mid errors tuples used (at_work-added draws groups errors tuples b mid used w h e)

    pub at_work-block : (b : ℕ) (mid groups' : GroupsByKey) (tuples' : Sending) (used used' : Option Use) → IsAtWork plan records draws used groups errors tuples
        → All (IsAccepted plan (header_width records)) (block_rows records b) → mid ≡ with_rows plan groups (block_rows records b) → PassesMany (length plan.items) used used' mid groups' tuples tuples'
        → IsAtWork plan records (draws ++ b ∷ []) used' groups' errors tuples'
    at_work-block b mid groups' tuples' used used' w h e p = at_work-many (draws ++ b ∷ []) mid errors tuples groups' tuples' used used' (at_work-added draws groups errors tuples b mid used w h e) p
