-- The events of a turn of several calls are legal turns at the partition.
use Rattle.std.proofs.Common.{◌≡◌, ℕ, Bool, List, [], ◌∷◌, ◌++◌, Option, refl, sym, ap, ◌∙◌, subst, append_assoc}
use Rattle.std.specs.FinMap as fin
use Rattle.atomic_table.specs.Seated.{TableId}
use Rattle.lock_book.specs.declared.kept.Kept.{Ghosts}
use Rattle.lock_book.specs.declared.several.Turn.{Turn}
use Rattle.lock_book.specs.Shown.{begun_in, calls_in, number_in}
use Rattle.lock_book.proofs.Histories.{last_snoc}
use Rattle.dshash_core.specs.Cells.{KeyMap}
use Rattle.dshash_core.specs.Outcome.{next_of}
use Rattle.dshash_core.specs.declared.outcome.CoreOut.{CoreOut}
use Rattle.dshash_core.specs.declared.outcome.CoreOut.TheVariants.{Done, NeedItem, TooFull}
use Rattle.dshash_parts.specs.Asked.{outcome_of}
use Rattle.dshash_parts.specs.Turns.{ToldIn, TurnedIn, state_in}
use Rattle.dshash_parts.specs.declared.asks.TableAsk.{TableAsk}
use Rattle.dshash_parts.specs.declared.asks.TableAnswer.{TableAnswer}
use Rattle.dshash_parts.specs.declared.histories.PartitionCalls.TheVariants.{Call}
use Rattle.dshash_parts.specs.declared.numbered.Numbered.{Numbered}
use Rattle.dshash_parts.proofs.Replays.{changed_here}
use mathlib.Core.Option.{some, some-injective}
use lib.ListN.{get_elem?}
use Rattle.lock_book.specs.declared.view.Entry.{Entry}
use Rattle.lock_book.specs.History.{entry, last_of, IsLegal}
use Rattle.lock_book.specs.Told.{Histories, AddsAll}
use Rattle.lock_book.proofs.Uses.{legal_front}
use Rattle.dshash_parts.specs.States.{PartitionState, fresh}
use Rattle.dshash_parts.specs.Legal.{PartitionLegal}
use Rattle.dshash_parts.specs.declared.histories.PartitionName.{PartitionName}
use Rattle.dshash_parts.specs.declared.histories.PartitionCalls.{PartitionCalls}
use Rattle.dshash_parts.specs.declared.histories.PartitionReplies.{PartitionReplies}
use Rattle.dshash_parts.proofs.Owners.{Taken, lawful_from, ours}

-- the name at a place of the table's shelf
pub name_is : {S : Type 0} (opens : List (PartitionName × PartitionState S)) (at : ℕ) (n : PartitionName) (s : PartitionState S) (o : PartitionName × PartitionState S) → get_elem? opens at ≡ some (n, s) → get_elem? opens at ≡ some o → n ≡ o.0
name_is {S} opens at n s o there here = ap (λ (z : PartitionName × PartitionState S). z.0) (some-injective (n, s) o (sym there ∙ here))

pub all_turned : {S C R : Type 0} (step : Option S → C → Option S × R) (may : ℕ → List ℕ → C → Type 0) (opens : List (PartitionName × PartitionState S)) (n : ℕ) (seen mine seen' mine' : Histories (PartitionState S) (PartitionCalls C) (PartitionReplies S R)) (at : ℕ) (es : List (Entry (PartitionState S) (PartitionCalls C) (PartitionReplies S R))) (name : PartitionName)
    → get_elem? opens at ≡ some (name, fresh) → IsLegal (Taken step may name.number) fresh (seen' at) → AddsAll (λ m. Taken step may m.number) opens n seen mine seen' mine' at es → AddsAll (λ m _. PartitionLegal step m.number) opens n seen mine seen' mine' at es
all_turned {S} {C} {R} step may opens n seen mine seen' mine' at es name there legal a =
    let front : IsLegal (Taken step may name.number) fresh a.before = legal_front (Taken step may name.number) fresh a.before es (subst (IsLegal (Taken step may name.number) fresh) a.ends legal) in
    let here : IsLegal (λ _. PartitionLegal step name.number) (last_of fresh a.before) es = lawful_from step may name.number (last_of fresh a.before) es (ours step may name.number a.before front) (a.steps (name, fresh) there) in record {
      before = a.before;
      ends = a.ends;
      begins = a.begins;
      steps = λ o eo. subst (λ (z : PartitionName × PartitionState S). IsLegal (λ _. PartitionLegal step z.0.number) (last_of z.1 a.before) es) (some-injective (name, fresh) o (sym there ∙ eo)) here;
      by = a.by;
      mine_grows = a.mine_grows;
      others_seen = a.others_seen;
      others_mine = a.others_mine;
    }

-- what a call in a turn tells of the key
module _ {O S C R : Type 0} {g : Ghosts (Numbered O S C R) TableId (TableAsk O S C R) (TableAnswer O S C R) PartitionName (PartitionState S) (PartitionCalls C) (PartitionReplies S R)} (step : Option S → C → Option S × R)
    (t u : Turn (Numbered O S C R) TableId (TableAsk O S C R) (TableAnswer O S C R) PartitionName (PartitionState S) (PartitionCalls C) (PartitionReplies S R) g) (key : List ℕ) (call : C) (spare : Bool) where
  -- the state then
  state_is : (c : PartitionCalls C) (r : PartitionReplies S R) → (e : TurnedIn step t u c r) → state_in u ≡ e.after
  state_is c r e =
      let x = entry (number_in t) c r e.after in
      ap (λ (z : List (Entry (PartitionState S) (PartitionCalls C) (PartitionReplies S R)) × List (Entry (PartitionState S) (PartitionCalls C) (PartitionReplies S R))). last_of fresh (z.0 ++ z.1)) (λ i. (e.begun i, e.calls i))
      ∙ (ap (last_of fresh) (sym (append_assoc (begun_in t) (calls_in t) (x ∷ []))) ∙ last_snoc fresh (begun_in t ++ calls_in t) x)

  pub told_in : (out : CoreOut O S C R) → TurnedIn step t u (Call key call spare) (outcome_of out) → ToldIn step t u key call out
  told_in (Done reply unused freed) e =
      let before = (state_in t).cells in (
        e.legal.is.1.replied,
        ap (λ (s : PartitionState S). fin.get s.cells key) (state_is _ _ e) ∙ (ap (λ (m : KeyMap S). fin.get m key) e.legal.is.1.steps ∙ changed_here step before key (next_of step before key call) key refl),
      )
  told_in NeedItem e = ap (λ (s : PartitionState S). s.cells) (state_is _ _ e) ∙ e.legal.is.1.same
  told_in (TooFull size back) e = ap (λ (s : PartitionState S). s.cells) (state_is _ _ e) ∙ e.legal.is.1.same
