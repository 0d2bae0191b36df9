-- What a turn leaves of a partition: its size never falls, and what the reply tells of it.
use Rattle.std.proofs.Common.{◌≡◌, ◌≢◌, ℕ, ◌<◌, ◌≤◌, ◌&&◌, Bool, true, false, nat_lt, List, [], ◌∷◌, ◌++◌, Option, Some, refl, sym, ap, ◌∙◌, subst, arith, append_assoc}
use Rattle.std.proofs.lemmas.Bool.Decides.{nat_tests}
use mathlib.Core.Logic.{dite}
use native.Mathlib.Decide.{ℕ_discrete, dec_lt}
use Rattle.lock_book.specs.declared.view.Entry.{Entry}
use Rattle.lock_book.specs.History.{entry, last_of, StartsWith, IsLegal}
use Rattle.lock_book.specs.Told.{Histories, MakesAll}
use Rattle.lock_book.proofs.Histories.{last_snoc}
use Rattle.dshash_core.specs.Cells.{full_above}
use Rattle.dshash_core.specs.Outcome.{ListsAll}
use Rattle.std.specs.FinMap as fin
use Rattle.dshash_parts.specs.States.{PartitionState, fresh}
use Rattle.dshash_parts.specs.Legal.{PartitionLegal}
use Rattle.dshash_parts.specs.Tables.{AtPartition, size_at, state_at, map_at}
use Rattle.dshash_parts.specs.declared.histories.PartitionCalls.{PartitionCalls}
use Rattle.dshash_parts.specs.declared.histories.PartitionCalls.TheVariants.{Call, Looks, Moves, Lists}
use Rattle.dshash_parts.specs.declared.histories.PartitionReplies.{PartitionReplies}
use Rattle.dshash_parts.specs.declared.histories.PartitionReplies.TheVariants.{HasToGrow, HasSize, Moved, Listed}
use Rattle.dshash_parts.proofs.Replays.{sizes_grow}

module _ {S C R : Type 0} (step : Option S → C → Option S × R) where
  -- what is seen later has a size as large
  pub begins_grow : (number : ℕ) (seen seen' : List (Entry (PartitionState S) (PartitionCalls C) (PartitionReplies S R))) → IsLegal (λ _. PartitionLegal step number) fresh seen' → StartsWith seen' seen
      → (last_of fresh seen).size ≤ (last_of fresh seen').size
  begins_grow number seen seen' h b =
      subst (λ (z : List (Entry (PartitionState S) (PartitionCalls C) (PartitionReplies S R))). (last_of fresh seen).size ≤ (last_of fresh z).size) (sym b.1)
      (sizes_grow step number seen b.0 (subst (IsLegal (λ _. PartitionLegal step number) fresh) b.1 h))

  -- what is seen after one call begins with what was seen before
  one_starts : (legal : ℕ → PartitionState S → PartitionCalls C → PartitionReplies S R → PartitionState S → Type 0) (n : ℕ) (seen mine seen' mine' : List (Entry (PartitionState S) (PartitionCalls C) (PartitionReplies S R))) (c : PartitionCalls C) (r : PartitionReplies S R)
      → MakesAll legal fresh n seen mine seen' mine' ((c, r) ∷ []) → StartsWith seen' seen
  one_starts legal n seen mine seen' mine' c r x =
      let e = entry n c r x.2.after in
      (x.2.begins.0 ++ e ∷ [], x.3.0 ∙ (x.2.ends ∙ (ap (λ (z : List (Entry (PartitionState S) (PartitionCalls C) (PartitionReplies S R))). z ++ e ∷ []) x.2.begins.1 ∙ append_assoc seen x.2.begins.0 (e ∷ []))))

  module _ (n : ℕ) (seen mine seen' mine' : Histories (PartitionState S) (PartitionCalls C) (PartitionReplies S R)) (number : ℕ) (call : PartitionCalls C) (reply : PartitionReplies S R) where
    -- a turn at one partition lowers the size of none
    pub turn_grows : (k : ℕ) → IsLegal (λ _. PartitionLegal step k) fresh (seen' k) → AtPartition step n seen mine seen' mine' number call reply → size_at seen k ≤ size_at seen' k
    turn_grows k h a = dite (ℕ_discrete k number)
        (λ e. begins_grow k (seen k) (seen' k) h (subst (λ (z : ℕ). StartsWith (seen' z) (seen z)) (sym e) (one_starts (λ _. PartitionLegal step number) n (seen number) (mine number) (seen' number) (mine' number) call reply a.here)))
        (λ ne. begins_grow k (seen k) (seen' k) h ([], (a.others k ne).0 ∙ sym (Rattle.std.proofs.Common.append-nil (seen k))))

    -- a turn is legal from the state before it to the one that it leaves
    pub turn_legal : AtPartition step n seen mine seen' mine' number call reply → (before : PartitionState S) × PartitionLegal step number before call reply (state_at seen' number)
    turn_legal a =
        let x = a.here in
        let left : state_at seen' number ≡ x.2.after = ap (last_of fresh) (x.3.0 ∙ x.2.ends) ∙ last_snoc fresh x.2.before (entry n call reply x.2.after) in
        (last_of fresh x.2.before, subst (λ (z : PartitionState S). PartitionLegal step number (last_of fresh x.2.before) call reply z) (sym left) x.2.step)

    -- before it the partition is as the entries before left it
    pub turn_begins : (a : AtPartition step n seen mine seen' mine' number call reply) → (turn_legal a).0 ≡ last_of fresh a.here.2.before
    unfolding turn_legal
    turn_begins a = refl

  module _ (n : ℕ) (seen mine seen' mine' : Histories (PartitionState S) (PartitionCalls C) (PartitionReplies S R)) (number : ℕ) where
    -- a look tells the size and the number of keys
    pub look_tells : (size keys : ℕ) → AtPartition step n seen mine seen' mine' number Looks (HasSize size keys) → size_at seen' number ≡ size
    look_tells size keys a = let l = (turn_legal n seen mine seen' mine' number Looks (HasSize size keys) a).1 in ap (λ (s : PartitionState S). s.size) l.is.1 ∙ sym l.is.0

    pub look_counts : (size keys : ℕ) → AtPartition step n seen mine seen' mine' number Looks (HasSize size keys) → keys ≡ fin.len (map_at seen' number)
    look_counts size keys a = let l = (turn_legal n seen mine seen' mine' number Looks (HasSize size keys) a).1 in l.is.2 ∙ sym (ap (λ (s : PartitionState S). fin.len s.cells) l.is.1)

    -- a move leaves at least its size
    pub move_tells : (to left : ℕ) → to ≤ 20 → AtPartition step n seen mine seen' mine' number (Moves to) (Moved left) → to ≤ size_at seen' number
    move_tells to left low a =
        let t = turn_legal n seen mine seen' mine' number (Moves to) (Moved left) a in
        dite (dec_lt t.0.size to) (λ lt. let e = t.1.is.0.size_is lt low in omega arith) (λ ge. let e = t.1.is.0.otherwise (λ lt _. ge lt) in omega arith)

    -- a partition that has to grow has the size that it tells, which is not the largest
    pub grow_tells : (key : List ℕ) (call : C) (spare back : Bool) (size : ℕ) → AtPartition step n seen mine seen' mine' number (Call key call spare) (HasToGrow size back)
        → (size_at seen' number ≡ size) × (7 ≤ size) × (size < 20)
    grow_tells key call spare back size a =
        let t = turn_legal n seen mine seen' mine' number (Call key call spare) (HasToGrow size back) a in
        let e = t.1.is.0 in
        let told = t.1.is.1.told_is in
        let low = t.1.roomy.from in
        let full : (nat_lt (full_above t.0.size) (fin.len t.0.cells) && nat_lt t.0.size 20) ≡ true = t.1.is.1.full in
        let less : t.0.size < 20 = last_lt (nat_lt (full_above t.0.size) (fin.len t.0.cells)) t.0.size full in
        (omega arith, omega arith, omega arith)
      where
        last_lt : (b : Bool) (m : ℕ) → (b && nat_lt m 20) ≡ true → m < 20
        last_lt true m h = grind (arith, nat_tests)
        last_lt false m h = absurd (cc)

    -- a listing tells the map
    pub listing_tells : (entries : List (List ℕ × S)) → AtPartition step n seen mine seen' mine' number Lists (Listed (Some entries)) → ListsAll (map_at seen' number) entries
    listing_tells entries a =
        let t = turn_legal n seen mine seen' mine' number Lists (Listed (Some entries)) a in
        subst (λ (s : PartitionState S). ListsAll s.cells entries) (sym t.1.is.1) t.1.is.0
