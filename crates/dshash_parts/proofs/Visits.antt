-- A call that makes no cell is made by its first turn; and what a listing tells of its keys.
use Rattle.std.proofs.Common.{◌≡◌, ℕ, ◌&&◌, ⊎_elim, inl, inr, cond, not, Bool, true, false, List, [], ◌∷◌, length, Option, Some, None, Result, Ok, Err, IfOk, is_some, refl, sym, ap, subst, ◌∙◌, nat_cmp}
use Rattle.std.specs.List.{All}
use Rattle.std.proofs.lemmas.List.Elements.{All-cons, All-nil}
use Rattle.std.specs.Ordering.{eq_by_cmp}
use Rattle.std.specs.Cmp.Lexicographic.{slice_cmp, nat_list_cmp_total}
use Rattle.std.specs.FinMap as fin
use Rattle.region_words.specs.declared.chunk.Chunk.{Chunk}
use Rattle.lock_book.specs.declared.view.Entry.{Entry}
use Rattle.lock_book.specs.History.{entry, last_of, IsLegal}
use Rattle.lock_book.specs.Told.{Histories}
use Rattle.dshash_core.specs.Cells.{KeyMap, partition_of}
use Rattle.dshash_core.specs.Chains.{Among}
use Rattle.dshash_core.specs.Key.{hash_of}
use Rattle.dshash_core.specs.Listing.{HaveWords}
use Rattle.dshash_core.specs.Outcome.{ListsAll, next_of, would_insert}
use Rattle.dshash_core.specs.declared.outcome.CoreOut.{CoreOut}
use Rattle.dshash_core.specs.declared.outcome.CoreOut.TheVariants.{Done, NeedItem, TooFull}
use Rattle.dshash_core.proofs.Maps.{same_key}
use Rattle.dshash_parts.specs.Asked.{outcome_of}
use Rattle.dshash_parts.specs.Legal.{AreOurs}
use Rattle.dshash_parts.specs.Lookups.{IsVisited, MakesNoCell}
use Rattle.dshash_parts.specs.States.{PartitionState, fresh}
use Rattle.dshash_parts.specs.Tables.{AreKeysOf, AtPartition, map_at}
use Rattle.dshash_parts.specs.declared.histories.PartitionCalls.{PartitionCalls}
use Rattle.dshash_parts.specs.declared.histories.PartitionCalls.TheVariants.{Call}
use Rattle.dshash_parts.specs.declared.histories.PartitionReplies.{PartitionReplies}
use Rattle.dshash_parts.specs.declared.histories.PartitionReplies.TheVariants.{Made}
use Rattle.dshash_parts.specs.declared.table.Dshash.{Dshash}
use Rattle.dshash_parts.proofs.Owners.{Taken, ours}
use Rattle.dshash_parts.proofs.Replays.{changed_here}
use Rattle.dshash_parts.proofs.Sizes.{turn_begins, turn_legal}

module _ {S C R : Type 0} (step : Option S → C → Option S × R) (call : C) (none : MakesNoCell step call) where
  makes_none : (o : Option S) → (not (is_some o) && is_some (step o call).0) ≡ false
  makes_none (Some s) = refl
  makes_none None = ap (λ (x : Option S). is_some x) none

  never_inserts : (m : KeyMap S) (key : List ℕ) → would_insert m key (next_of step m key call) ≡ false
  never_inserts m key = makes_none (fin.get m key)

  module _ (n : ℕ) (seen mine seen' mine' : Histories (PartitionState S) (PartitionCalls C) (PartitionReplies S R)) (number : ℕ) (key : List ℕ) where
    -- it is never told that it lacks an item, or that the partition has to grow
    pub is_visited : {O : Type 0} (out : CoreOut O S C R) → AtPartition step n seen mine seen' mine' number (Call key call false) (outcome_of out) → ((reply : R) (unused freed : Option Chunk) → out ≡ Done reply unused freed → ⊥) → ⊥
    is_visited (Done reply unused freed) turn other = other reply unused freed refl
    is_visited NeedItem turn other = let t = turn_legal step n seen mine seen' mine' number _ _ turn in let e = sym (never_inserts t.0.cells key) ∙ t.1.is.1.inserts in absurd (cc)
    is_visited (TooFull size back) turn other = let t = turn_legal step n seen mine seen' mine' number _ _ turn in let e = sym (never_inserts t.0.cells key) ∙ t.1.is.1.inserts in absurd (cc)

    -- it brought no item, so none is handed back
    pub hands_back_none : (reply : R) (unused freed : Bool) → AtPartition step n seen mine seen' mine' number (Call key call false) (Made reply unused freed) → AtPartition step n seen mine seen' mine' number (Call key call false) (Made reply false freed)
    hands_back_none reply unused freed turn =
        let t = turn_legal step n seen mine seen' mine' number (Call key call false) (Made reply unused freed) turn in
        subst (λ (b : Bool). AtPartition step n seen mine seen' mine' number (Call key call false) (Made reply b freed)) t.1.is.1.unused_is turn

    -- what stood under the key
    pub was_there : number ≡ partition_of (hash_of key) → (reply : R) (freed : Bool) → AtPartition step n seen mine seen' mine' number (Call key call false) (Made reply false freed) → IsVisited step seen' key call reply freed
    was_there home reply freed turn =
        let t = turn_legal step n seen mine seen' mine' number (Call key call false) (Made reply false freed) turn in
        let x = turn.here in
        record {
          found = record {
            before = x.2.before;
            last = entry n (Call key call false) (Made reply false freed) x.2.after;
            ends = ap seen' (sym home) ∙ (x.3.0 ∙ x.2.ends);
            from = fin.get t.0.cells key;
            was = ap (λ (s : PartitionState S). fin.get s.cells key) (turn_begins step n seen mine seen' mine' number (Call key call false) (Made reply false freed) turn);
            replied = t.1.is.1.replied;
            stands = ap (λ (z : ℕ). fin.get (map_at seen' z) key) (sym home) ∙ (ap (λ (m : KeyMap S). fin.get m key) t.1.is.1.steps ∙ changed_here step t.0.cells key (next_of step t.0.cells key call) key refl);
          };
          took = t.1.is.1.freed_is;
        }

module _ {A : Type 0} where
  all_of : (P : A → Type 0) (xs : List A) → ((x : A) → Among x xs → P x) → All P xs
  all_of P [] h = All-nil P
  all_of P (x ∷ xs) h = All-cons P x xs (h x (inl refl)) (all_of P xs (λ y m. h y (inr m)))

  all_both : (P Q : A → Type 0) (xs : List A) → All P xs → All Q xs → All (λ x. P x × Q x) xs
  all_both P Q xs p q = λ k d low. (p k d low, q k d low)

-- a key that has an entry is found
has_entry : {S : Type 0} (p : List ℕ × S) (es : List (List ℕ × S)) → Among p es → is_some (fin.find (slice_cmp nat_cmp) p.0 es) ≡ true
has_entry p [] m = absurd m
has_entry {S} p (e ∷ es) m = ⊎_elim
    (λ (same : p ≡ e). ap (λ (b : Bool). is_some (cond b (Some e.1) (fin.find (slice_cmp nat_cmp) p.0 es))) (same_key p.0 e.0 (ap (λ (x : List ℕ × S). x.0) same)))
    (λ (r : Among p es). elim (eq_by_cmp (slice_cmp nat_cmp) p.0 e.0) as (λ b. is_some (cond b (Some e.1) (fin.find (slice_cmp nat_cmp) p.0 es)) ≡ true) [ true ↦ refl | false ↦ has_entry p es r ])
    m

-- the keys of a partition's map are its own, so those of a listing are
listed_ours : {S : Type 0} (number : ℕ) (m : KeyMap S) (pairs : List (List ℕ × S)) → AreOurs number m → ListsAll m pairs → All (λ p. partition_of (hash_of p.0) ≡ number) pairs
listed_ours {S} number m pairs ours all = all_of (λ (p : List ℕ × S). partition_of (hash_of p.0) ≡ number) pairs (λ p at. ours p.0
    (ap (λ (n : KeyMap S). is_some (fin.get n p.0)) (sym all.all) ∙ (ap (λ (o : Option S). is_some o) (fin.get-from_entries nat_list_cmp_total pairs p.0) ∙ has_entry p pairs at)))

-- a listing tells keys of the table's length, which belong to the partition
pub listed_keys : {O S C R V E : Type 0} (step : Option S → C → Option S × R) (may : ℕ → List ℕ → C → Type 0) (t : Dshash O S C R) (number : ℕ) (pairs : V → List (List ℕ × S)) (seen : List (Entry (PartitionState S) (PartitionCalls C) (PartitionReplies S R))) (r : Result V E)
    → IsLegal (Taken step may number) fresh seen → IfOk r (λ v. HaveWords t.key_words (pairs v)) → IfOk r (λ v. ListsAll (last_of fresh seen).cells (pairs v)) → IfOk r (λ v. AreKeysOf t number (pairs v))
listed_keys {O} {S} step may t number pairs seen (Ok v) legal long all =
    all_both (λ (p : List ℕ × S). length p.0 ≡ t.key_words) (λ (p : List ℕ × S). partition_of (hash_of p.0) ≡ number) (pairs v) long (listed_ours number (last_of fresh seen).cells (pairs v) (ours step may number seen legal) all)
listed_keys step may t number pairs seen (Err e) legal long all = tt
