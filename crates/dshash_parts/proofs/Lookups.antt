-- A call that neither makes nor removes a cell is made by its first turn, and hands nothing out.
use Rattle.std.proofs.Common.{◌≡◌, ℕ, ◌&&◌, not, Bool, true, false, List, Option, Some, None, is_some, is_none, refl, sym, ap, subst, ◌∙◌}
use Rattle.std.specs.FinMap as fin
use Rattle.region_words.specs.declared.chunk.Chunk.{Chunk}
use Rattle.lock_book.specs.History.{entry}
use Rattle.lock_book.specs.Told.{Histories}
use Rattle.dshash_core.specs.Cells.{KeyMap, partition_of}
use Rattle.dshash_core.specs.Key.{hash_of}
use Rattle.dshash_core.specs.Outcome.{next_of, removes, would_insert}
use Rattle.dshash_core.specs.declared.outcome.CoreOut.{CoreOut}
use Rattle.dshash_core.specs.declared.outcome.CoreOut.TheVariants.{Done, NeedItem, TooFull}
use Rattle.dshash_parts.specs.Asked.{outcome_of}
use Rattle.dshash_parts.specs.Lookups.{IsFound, KeepsCells}
use Rattle.dshash_parts.specs.States.{PartitionState}
use Rattle.dshash_parts.specs.Tables.{AtPartition, map_at}
use Rattle.dshash_parts.specs.declared.histories.PartitionCalls.{PartitionCalls}
use Rattle.dshash_parts.specs.declared.histories.PartitionCalls.TheVariants.{Call}
use Rattle.dshash_parts.specs.declared.histories.PartitionReplies.{PartitionReplies}
use Rattle.dshash_parts.specs.declared.histories.PartitionReplies.TheVariants.{Made}
use Rattle.dshash_parts.proofs.Replays.{changed_here}
use Rattle.dshash_parts.proofs.Sizes.{turn_begins, turn_legal}

-- of the same answer to both
not_and : (a b : Bool) → b ≡ a → (not a && b) ≡ false
not_and true b e = refl
not_and false b e = e

and_not : {S : Type 0} (a : Bool) (o : Option S) → is_some o ≡ a → (a && is_none o) ≡ false
and_not true (Some s) e = refl
and_not true None e = absurd (cc)
and_not false o e = refl

module _ {S C R : Type 0} (step : Option S → C → Option S × R) (call : C) (keeps : KeepsCells step call) where
  never_inserts : (m : KeyMap S) (key : List ℕ) → would_insert m key (next_of step m key call) ≡ false
  never_inserts m key = not_and (is_some (fin.get m key)) (is_some (next_of step m key call)) (keeps (fin.get m key))

  never_removes : (m : KeyMap S) (key : List ℕ) → removes m key (next_of step m key call) ≡ false
  never_removes m key = and_not (is_some (fin.get m key)) (next_of step m key call) (keeps (fin.get m key))

  module _ (n : ℕ) (seen mine seen' mine' : Histories (PartitionState S) (PartitionCalls C) (PartitionReplies S R)) (number : ℕ) (key : List ℕ) where
    -- it is never told that it lacks an item, or that the partition has to grow
    pub is_made : {O : Type 0} (out : CoreOut O S C R) → AtPartition step n seen mine seen' mine' number (Call key call false) (outcome_of out) → ((reply : R) (unused freed : Option Chunk) → out ≡ Done reply unused freed → ⊥) → ⊥
    is_made (Done reply unused freed) turn other = other reply unused freed refl
    is_made NeedItem turn other = let t = turn_legal step n seen mine seen' mine' number _ _ turn in let e = sym (never_inserts t.0.cells key) ∙ t.1.is.1.inserts in absurd (cc)
    is_made (TooFull size back) turn other = let t = turn_legal step n seen mine seen' mine' number _ _ turn in let e = sym (never_inserts t.0.cells key) ∙ t.1.is.1.inserts in absurd (cc)

    -- what it hands out: nothing
    pub hands_nothing : (reply : R) (unused freed : Bool) → AtPartition step n seen mine seen' mine' number (Call key call false) (Made reply unused freed) → AtPartition step n seen mine seen' mine' number (Call key call false) (Made reply false false)
    hands_nothing reply unused freed turn =
        let t = turn_legal step n seen mine seen' mine' number (Call key call false) (Made reply unused freed) turn in
        let none : freed ≡ false = t.1.is.1.freed_is ∙ never_removes t.0.cells key in
        subst (λ (b : Bool). AtPartition step n seen mine seen' mine' number (Call key call false) (Made reply b false)) t.1.is.1.unused_is
        (subst (λ (b : Bool). AtPartition step n seen mine seen' mine' number (Call key call false) (Made reply unused b)) none turn)

    -- and what stood under the key
    pub was_found : number ≡ partition_of (hash_of key) → (reply : R) → AtPartition step n seen mine seen' mine' number (Call key call false) (Made reply false false) → IsFound step seen' key call reply
    was_found home reply turn =
        let t = turn_legal step n seen mine seen' mine' number (Call key call false) (Made reply false false) turn in
        let x = turn.here in
        record {
          before = x.2.before;
          last = entry n (Call key call false) (Made reply false false) x.2.after;
          ends = ap seen' (sym home) ∙ (x.3.0 ∙ x.2.ends);
          from = fin.get t.0.cells key;
          was = ap (λ (s : PartitionState S). fin.get s.cells key) (turn_begins step n seen mine seen' mine' number (Call key call false) (Made reply false false) turn);
          replied = t.1.is.1.replied;
          stands = ap (λ (z : ℕ). fin.get (map_at seen' z) key) (sym home) ∙ (ap (λ (m : KeyMap S). fin.get m key) t.1.is.1.steps ∙ changed_here step t.0.cells key (next_of step t.0.cells key call) key refl);
        }
