-- What a call tells that took an entry out: its key had a state, and has none.
use Rattle.std.proofs.Common.{◌≡◌, ℕ, ◌&&◌, true, false, List, Option, Some, None, is_some, is_none, refl, sym, ap, ◌∙◌}
use Rattle.std.specs.FinMap as fin
use Rattle.lock_book.specs.History.{last_of}
use Rattle.lock_book.specs.Told.{Histories}
use Rattle.dshash_core.specs.Cells.{KeyMap}
use Rattle.dshash_core.specs.Outcome.{AlwaysRemoves, changed, next_of}
use Rattle.dshash_parts.specs.States.{PartitionState, fresh}
use Rattle.dshash_parts.specs.Tables.{AtPartition}
use Rattle.dshash_parts.specs.Takes.{IsTakenOut}
use Rattle.dshash_parts.specs.declared.histories.PartitionCalls.{PartitionCalls}
use Rattle.dshash_parts.specs.declared.histories.PartitionCalls.TheVariants.{Call}
use Rattle.dshash_parts.specs.declared.histories.PartitionReplies.{PartitionReplies}
use Rattle.dshash_parts.specs.declared.histories.PartitionReplies.TheVariants.{Made}

stood : {S : Type 0} (before next : Option S) → (is_some before && is_none next) ≡ true → (state : S) × (before ≡ Some state)
stood (Some state) next e = (state, refl)
stood None next e = absurd (cc)

pub taken_out : {S C R : Type 0} (step : Option S → C → Option S × R) (call : C) → AlwaysRemoves step call → (n : ℕ) (seen mine seen' mine' : Histories (PartitionState S) (PartitionCalls C) (PartitionReplies S R)) (number : ℕ) (key : List ℕ) (reply : R)
    → AtPartition step n seen mine seen' mine' number (Call key call false) (Made reply false true) → IsTakenOut step n call key reply (seen' number)
taken_out {S} step call removes n seen mine seen' mine' number key reply turn =
    let x = turn.here in
    let made = x.2.step.is.1 in
    let before : KeyMap S = (last_of fresh x.2.before).cells in
    let was = stood (fin.get before key) (next_of step before key call) (sym made.freed_is) in
    record {
      before = x.2.before;
      after = x.2.after;
      state = was.0;
      ends = x.3.0 ∙ x.2.ends;
      stood = was.1;
      replied = made.replied ∙ ap (λ (o : Option S). (step o call).1) was.1;
      gone = made.steps ∙ ap (changed before key) (ap (λ (o : Option S). (step o call).0) was.1 ∙ removes was.0);
    }
