-- Laws for the callers of a table: what a call that was made tells of the cell of its key, and when one is refused.
use Rattle.std.proofs.Common.{◌≡◌, ℕ, ◌+◌, ◌≤◌, ⊎_elim, Bool, true, false, List, [], ◌∷◌, Option, refl, sym, ap, subst, ◌∙◌}
use Rattle.std.specs.FinMap as fin
use Rattle.lock_book.specs.declared.view.Entry.{Entry}
use Rattle.lock_book.specs.History.{entry, last_of, IsLegal}
use Rattle.lock_book.proofs.Uses.{legal_back, last-append}
use Rattle.dsa_area.specs.declared.area.Area.{Area}
use Rattle.dshash_core.specs.Cells.{KeyMap}
use Rattle.dshash_core.specs.Chains.{Among}
use Rattle.dshash_core.specs.Outcome.{changed, next_of, would_insert}
use Rattle.dshash_parts.specs.States.{PartitionState, fresh}
use Rattle.dshash_parts.specs.Legal.{PartitionLegal}
use Rattle.dshash_parts.specs.Tables.{state_at}
use Rattle.dshash_parts.specs.Traces.{Event, Turn, Asked, Missed, Sight, Trace}
use Rattle.dshash_parts.specs.Promises.{HadToGrow, LackedItem, IsLastCall, IsRefusedWith, SawSize, slice_size}
use Rattle.dshash_parts.specs.declared.histories.PartitionCalls.{PartitionCalls}
use Rattle.dshash_parts.specs.declared.histories.PartitionCalls.TheVariants.{Call}
use Rattle.dshash_parts.specs.declared.histories.PartitionReplies.{PartitionReplies}
use Rattle.dshash_parts.specs.declared.histories.PartitionReplies.TheVariants.{Made, LacksItem, HasToGrow}
use Rattle.dshash_parts.proofs.Replays.{changed_here}
use Rattle.dshash_parts.proofs.Sweeps.{among_front}
use Rattle.dshash_parts.proofs.Sizes.{turn_legal}

-- The reply is what the step answers from the state that stood under the key after all before the call, and the state
-- that it leaves stands there now
pub cell_told : {S C R : Type 0} (step : Option S → C → Option S × R) (number n : ℕ) (key : List ℕ) (call : C) (reply : R) (seen : List (Entry (PartitionState S) (PartitionCalls C) (PartitionReplies S R)))
    → IsLegal (λ _. PartitionLegal step number) fresh seen → (x : IsLastCall n key call reply seen)
    → (reply ≡ (step (fin.get (last_of fresh x.before).cells key) call).1) × (fin.get (last_of fresh seen).cells key ≡ (step (fin.get (last_of fresh x.before).cells key) call).0)
cell_told {S} {C} {R} step number n key call reply seen lawful x =
    let end : List (Entry (PartitionState S) (PartitionCalls C) (PartitionReplies S R)) = entry n (Call key call x.spare) (Made reply x.unused x.freed) x.after ∷ [] in
    let turn = (legal_back (λ _. PartitionLegal step number) fresh x.before end (subst (IsLegal (λ _. PartitionLegal step number) fresh) x.ends lawful)).0 in
    let before = (last_of fresh x.before).cells in
    let left : last_of fresh seen ≡ x.after = ap (last_of fresh) x.ends ∙ last-append fresh x.before end in
    let now : (last_of fresh seen).cells ≡ changed before key (next_of step before key call) = ap (λ (s : PartitionState S). s.cells) left ∙ turn.is.1.steps in
    (turn.is.1.replied, ap (λ m. fin.get m key) now ∙ changed_here step before key (next_of step before key call) key refl)

module _ {S C R : Type 0} (step : Option S → C → Option S × R) (a : Area) (n : ℕ) where
  -- a turn among the events of a trace is one that was taken
  was_taken : (v w : Sight S C R) (k : ℕ) (c : PartitionCalls C) (r : PartitionReplies S R) (es : List (Event S C R)) → Trace step a n v w es → Among (Turn k c r) es → (before after : PartitionState S) × PartitionLegal step k before c r after
  was_taken v w k c r [] x h = absurd h
  was_taken v w k c r (Turn number call reply ∷ es) x h = ⊎_elim
      (λ (e : Turn k c r ≡ Turn number call reply).
      let l = turn_legal step n v.seen v.mine x.0.seen x.0.mine number call reply x.1.0 in
      let same : (k ≡ number) × (c ≡ call) × (r ≡ reply) = (cc, cc, cc) in (
        l.0,
        state_at x.0.seen number,
        subst (λ (z : ℕ). PartitionLegal step z l.0 c r (state_at x.0.seen number)) (sym same.0)
            (subst (λ (z : PartitionCalls C). PartitionLegal step number l.0 z r (state_at x.0.seen number)) (sym same.1) (subst (λ (z : PartitionReplies S R). PartitionLegal step number l.0 call z (state_at x.0.seen number)) (sym same.2) l.1)),
      ))
      (λ (rest : Among (Turn k c r) es). was_taken x.0 w k c r es x.2 rest)
      h
  was_taken v w k c r (Asked request ∷ es) x h = ⊎_elim (λ (e : Turn k c r ≡ Asked request). absurd (cc)) (λ (rest : Among (Turn k c r) es). was_taken x.0 w k c r es x.2 rest) h

  -- a call is refused only where it would put in a key that was not there
  pub refused_inserts : {held : Bool} (v w : Sight S C R) (number item : ℕ) (key : List ℕ) (call : C) (wanted largest : ℕ) (es : List (Event S C R)) → IsRefusedWith number item key call held wanted largest es → Trace step a n v w es
      → (m : KeyMap S) × (would_insert m key (next_of step m key call) ≡ true)
  refused_inserts v w number item key call wanted largest es x t =
      let end : List (Event S C R) = Asked (Missed x.bytes wanted largest) ∷ x.after in
      let there : (e : Event S C R) → Among e x.before → Among e es = λ e h. subst (λ (z : List (Event S C R)). Among e z) (sym x.is) (among_front e x.before end h) in
      ⊎_elim
      (λ (l : (x.bytes ≡ item) × LackedItem number item key call x.before).
      let turn = was_taken v w number (Call key call false) LacksItem es t (there (Turn number (Call key call false) LacksItem) l.1) in
      (turn.0.cells, turn.2.is.1.inserts))
      (λ (r : (size k found : ℕ) × HadToGrow number item key call x.before size × (x.bytes ≡ slice_size (size + 1)) × SawSize x.before k found × (found ≤ size)).
      let had = r.3 in
      let turn = was_taken v w number (Call key call had.0) (HasToGrow r.0 had.0) es t (there (Turn number (Call key call had.0) (HasToGrow r.0 had.0)) had.1) in
      (turn.0.cells, turn.2.is.1.inserts))
      x.cause
