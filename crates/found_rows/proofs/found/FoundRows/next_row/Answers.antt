use Rattle.std.proofs.Common.{◌≡◌, ◌≤◌, ◌∷◌, ◌∙◌, ℕ, All, List, None, Ok, ap, subst, arith}
use Rattle.par_model.specs.Plan.{Plan}
use Rattle.par_model.specs.Refuse.{refusal}
use Rattle.partial_agg.specs.Rows.{IsAccepted}
use Rattle.partial_agg.proofs.Refusals.{width_of_accepted}
use Rattle.found_rows.specs.Found.{BeginsWide}
use Rattle.found_rows.proofs.found.FoundRows.next_row.Goals as goal

-- a row of this many fields is not accepted
not-accepted : (plan : Plan) (width : ℕ) (rows : List (List (List ℕ))) → width ≤ 64 → BeginsWide rows → All (IsAccepted plan width) rows → ⊥
not-accepted plan width rows few b accepted =
    let all : All (IsAccepted plan width) (b.first ∷ b.others) = subst (λ (l : List (List (List ℕ))). All (IsAccepted plan width) l) b.are accepted in
    let fine : refusal plan width b.first ≡ None = all 0 b.first (omega arith) in
    absurd (omega (arith, b.wide, few, width_of_accepted plan width b.first fine))

pub returns-in-Ok-Wide-clause-refused : goal.returns-in-Ok-Wide-clause-refused
returns-in-Ok-Wide-clause-refused c plan accepted =
    not-accepted plan c.args.width c.args.self.now.left c.requires (c.next.ensures.wide (c.in-Ok-Wide.is ∙ ap Ok c.in-Ok-Wide.field-0-is)) accepted
