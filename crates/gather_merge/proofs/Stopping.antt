-- Why a participant stopped drawing.
use Rattle.std.proofs.Common.{◌≡◌, ◌<◌, ◌⊎◌, inl, inr, ℕ, List, [], ◌∷◌, Option, None, Some, IfSome, length, map, set, All, Any, subst, sym}
use Rattle.std.specs.List.{AllZip}
use Rattle.std.proofs.lemmas.List.Elements.{All-nil}
use Rattle.std.proofs.lemmas.List.Quantifiers.{any-set}
use Rattle.row_blocks.specs.Blocks.{Table}
use Rattle.row_blocks.proofs.Elements.{any_cases, any_head, any_none, any_tail}
use Rattle.par_model.specs.Plan.{Plan}
use Rattle.parallel_ctx.specs.Tokens.{SameQueues}
use Rattle.parallel_ctx.specs.declared.tokens.LeaderEnds.{LeaderEnds}
use Rattle.partial_agg.specs.declared.map.BlockAnswer.{BlockAnswer}
use Rattle.partial_agg.specs.declared.map.BlockAnswer.TheVariants as answer
use Rattle.scan_claim.specs.declared.claims.ClaimSeat.{ClaimSeat}
use Rattle.scan_claim.specs.declared.claims.Claims.{Claims}
use Rattle.worker_run.specs.Notices.{ReadsRow}
use Rattle.gather_merge.specs.Drawn.{Draws, DrawsNext, Met, StopsDrawing}
use Rattle.gather_merge.specs.Hearing.{IsNamedIn, NamedBy, notices_of}
use Rattle.gather_merge.specs.declared.drawing.Step.{Step}
use Rattle.gather_merge.specs.declared.drawing.Step.TheVariants.{Next, NoMore, Stopped}

pub none_all : (P : LeaderEnds → Type 0) (queues : List LeaderEnds) → queues ≡ [] → All P queues
none_all P queues e = subst (All P) (sym e) (All-nil P)

-- what one of the queues names, some queue names
pub named_of : (queues : List LeaderEnds) (k : ℕ) (q : LeaderEnds) (named : Option BlockAnswer) → k < length queues → IfSome named (IsNamedIn q) → IfSome named (λ why. Any (λ (p : LeaderEnds). IsNamedIn p why) (set queues k q))
named_of queues k q None l h = tt
named_of queues k q (Some why) l h = any-set (λ (p : LeaderEnds). IsNamedIn p why) queues k q l h

module _ (plan : Plan) (records : Table) (claims : Claims) (claim : ClaimSeat) where
  met_stops : (queues : List LeaderEnds) (why : BlockAnswer) → Met plan records claims claim why → StopsDrawing plan records claims claim queues why
  met_stops queues (answer.Row row cause item) m = inl m
  met_stops queues answer.Memory m = tt

  pub step_alone : (queues : List LeaderEnds) (list : List ℕ) (step : Step) → Draws plan records claims claim list step → DrawsNext plan records claims claim queues list step
  step_alone queues list Next d = d
  step_alone queues list NoMore d = d
  step_alone queues list (Stopped why) d = met_stops queues why d

  pub stops_heard : (queues : List LeaderEnds) (why : BlockAnswer) → Any (λ (q : LeaderEnds). IsNamedIn q why) queues → StopsDrawing plan records claims claim queues why
  stops_heard queues (answer.Row row cause item) a = inr a
  stops_heard queues answer.Memory a = tt

  -- a worker, who hears nobody, met the row itself
  pub met_alone : (queues queues' : List LeaderEnds) (why : BlockAnswer) → queues ≡ [] → AllZip SameQueues queues queues' → StopsDrawing plan records claims claim queues' why → Met plan records claims claim why
  met_alone queues queues' why e z s = by queues' (subst (λ qs. AllZip SameQueues qs queues') e z) why s
    where
      by : (qs : List LeaderEnds) → AllZip SameQueues [] qs → (why : BlockAnswer) → StopsDrawing plan records claims claim qs why → Met plan records claims claim why
      by [] z (answer.Row row cause item) (inl m) = m
      by [] z (answer.Row row cause item) (inr a) = absurd (any_none (λ (q : LeaderEnds). IsNamedIn q (answer.Row row cause item)) a)
      by [] z answer.Memory s = tt
      by (q ∷ qs) z why s = absurd z

-- a worker whose notice was heard names the row
pub named_early : (queues : List LeaderEnds) (row cause item : ℕ) → Any (λ (q : LeaderEnds). IsNamedIn q (answer.Row row cause item)) queues → NamedBy (map notices_of queues) row cause
named_early queues row cause item a = record { item = item; named = apart queues a }
  where
    apart : (qs : List LeaderEnds) → Any (λ (q : LeaderEnds). IsNamedIn q (answer.Row row cause item)) qs → Any (λ notices. Any (ReadsRow row cause item) notices) (map notices_of qs)
    apart [] a = absurd (any_none (λ (q : LeaderEnds). IsNamedIn q (answer.Row row cause item)) a)
    apart (q ∷ qs) a = by (any_cases (λ (q : LeaderEnds). IsNamedIn q (answer.Row row cause item)) q qs a) (apart qs)
      where
        by : Any (ReadsRow row cause item) (notices_of q) ⊎ Any (λ (q : LeaderEnds). IsNamedIn q (answer.Row row cause item)) qs
            → (Any (λ (q : LeaderEnds). IsNamedIn q (answer.Row row cause item)) qs → Any (λ notices. Any (ReadsRow row cause item) notices) (map notices_of qs)) → Any (λ notices. Any (ReadsRow row cause item) notices) (map notices_of (q ∷ qs))
        by (inl p) rest = any_head (λ notices. Any (ReadsRow row cause item) notices) (notices_of q) (map notices_of qs) p
        by (inr p) rest = any_tail (λ notices. Any (ReadsRow row cause item) notices) (notices_of q) (map notices_of qs) (rest p)
