-- A scan on its way: the entries that were visited, and those that are left.
use Rattle.std.proofs.Common.{◌≡◌, ◌≢◌, ℕ, Bool, false, List, [], ◌∷◌, ◌++◌, length, map, reverse, Option, Some, refl, sym, ap, subst, ◌∙◌, append_assoc, append-nil, arith}
use Rattle.std.specs.List.{All}
use Rattle.std.proofs.lemmas.List.Elements.{All-pop}
use Rattle.std.proofs.lemmas.List.{map-append, reverse-append}
use Rattle.lock_book.specs.Told.{Histories}
use Rattle.lock_book.proofs.Uses.{then_calls}
use Rattle.dsa_area.specs.declared.area.Area.{Area}
use Rattle.dsa_area.specs.declared.area.AreaPass.{AreaPass}
use Rattle.dshash_core.specs.Key.{hash_of}
use Rattle.dshash_core.specs.Cells.{partition_of}
use Rattle.dshash_core.specs.Listing.{pairs_of}
use Rattle.dshash_core.specs.Outcome.{ListsAll}
use Rattle.dshash_core.specs.declared.entries.Entry.{Entry}
use Rattle.dshash_parts.specs.States.{PartitionState, fresh}
use Rattle.dshash_parts.specs.Legal.{PartitionLegal}
use Rattle.dshash_parts.specs.Sweeps.{GaveBack}
use Rattle.dshash_parts.specs.Tables.{AreKeysOf, AtPartition, Did, map_at}
use Rattle.dshash_parts.specs.declared.histories.PartitionCalls.{PartitionCalls}
use Rattle.dshash_parts.specs.declared.histories.PartitionCalls.TheVariants.{Call, Lists}
use Rattle.dshash_parts.specs.declared.histories.PartitionReplies.{PartitionReplies}
use Rattle.dshash_parts.specs.declared.histories.PartitionReplies.TheVariants.{Made, Listed}
use Rattle.dshash_parts.specs.declared.table.Dshash.{Dshash}
use Rattle.dshash_scan.specs.Visits.{ScanView, Visit, turn_of, GaveEach}

-- what is so of each is so of the last, and of those before it
pub all_last : {A : Type 0} (P : A → Type 0) (xs : List A) (x : A) → All P (xs ++ x ∷ []) → All P xs × P x
all_last P xs x h = All-pop P (xs ++ x ∷ []) xs (Some x) refl h

pub nothing_of : {A : Type 0} (xs : List A) → length xs ≡ 0 → xs ≡ []
nothing_of [] e = refl
nothing_of (x ∷ xs) e = absurd (omega (arith, e))

-- the entry that is taken off the end of those that are left
module _ {O S C R : Type 0} (t : Dshash O S C R) (v : ScanView S) (number : ℕ) (items rest : List (Entry O S C R)) (e : Entry O S C R) (view : ◌≡◌ {A = ScanView S} (record { partition = number; left = pairs_of items }) v) (popped : items ≡ rest ++ e ∷ []) where
  pairs_left : pairs_of items ≡ pairs_of rest ++ (e.key, e.state) ∷ []
  pairs_left = ap (λ (l : List (Entry O S C R)). pairs_of l) popped ∙ map-append (λ (x : Entry O S C R). (x.key, x.state)) rest (e ∷ [])

  pub next_left : v.left ≡ pairs_of rest ++ (e.key, e.state) ∷ []
  next_left = sym (ap (λ (w : ScanView S). w.left) view) ∙ pairs_left

  -- those that are left then, and the one that comes, are entries of the partition
  pub next_keys : AreKeysOf t v.partition v.left → AreKeysOf t number (pairs_of rest) × ((length e.key ≡ t.key_words) × (partition_of (hash_of e.key) ≡ number))
  next_keys keys = all_last (λ (p : List ℕ × S). (length p.0 ≡ t.key_words) × (partition_of (hash_of p.0) ≡ number)) (pairs_of rest) (e.key, e.state)
      (subst (λ (l : List (List ℕ × S)). AreKeysOf t number l) pairs_left (subst (λ (w : ScanView S). AreKeysOf t w.partition w.left) (sym view) keys))

gave_more : (a : Area) (p q w : AreaPass) (bytes : ℕ) (before : List Bool) (freed : Bool) → GaveEach a p q bytes before → GaveBack a q w bytes freed → GaveEach a p w bytes (before ++ freed ∷ [])
gave_more a p q w bytes [] freed x g = (w, subst (λ (z : AreaPass). GaveBack a z w bytes freed) x g, refl)
gave_more a p q w bytes (b ∷ before) freed x g = (x.0, x.1, gave_more a x.0 q w bytes before freed x.2 g)

module _ {S C R : Type 0} (step : Option S → C → Option S × R) (a : Area) (n bytes partition : ℕ) (call : C) (seen mine : Histories (PartitionState S) (PartitionCalls C) (PartitionReplies S R)) (u : AreaPass) (entries : List (List ℕ × S)) where
  -- of the entries that were listed those at the end were visited, the last one first, and `left` are left
  pub record Visiting (seen' mine' : Histories (PartitionState S) (PartitionCalls C) (PartitionReplies S R)) (w : AreaPass) (left : List (List ℕ × S)) : Type 0 where
    pub taken : List (List ℕ × S)
    pub visits : List (Visit R)
    pub splits : entries ≡ left ++ taken
    pub each : map (λ v. v.0) visits ≡ reverse (map (λ e. e.0) taken)
    pub visited : Did step n seen mine seen' mine' partition (map (turn_of call) visits)
    pub others : (k : ℕ) → k ≢ partition → Did step n seen mine seen' mine' k []
    pub gave : GaveEach a u w bytes (map (λ v. v.1.1) visits)

  pub none_visited : Visiting seen mine u entries
  none_visited = record { taken = []; visits = []; splits = sym (append-nil entries); each = refl; visited = (refl, refl); others = λ k ne. (refl, refl); gave = refl }

  pub one_visited : (s m s' m' : Histories (PartitionState S) (PartitionCalls C) (PartitionReplies S R)) (q w : AreaPass) (left left' : List (List ℕ × S)) (who at : ℕ) (key : List ℕ) (state : S) (reply : R) (freed : Bool) → Visiting s m q left → who ≡ n → at ≡ partition
      → left ≡ left' ++ (key, state) ∷ [] → AtPartition step who s m s' m' at (Call key call false) (Made reply false freed) → GaveBack a q w bytes freed → Visiting s' m' w left'
  one_visited s m s' m' q w left left' who at key state reply freed x same here next turn gave =
      let visit : Visit R = (key, (reply, freed)) in
      let t : AtPartition step n s m s' m' partition (Call key call false) (Made reply false freed) =
      subst (λ (z : ℕ). AtPartition step z s m s' m' partition (Call key call false) (Made reply false freed)) same (subst (λ (z : ℕ). AtPartition step who s m s' m' z (Call key call false) (Made reply false freed)) here turn) in
      record {
        taken = (key, state) ∷ x.taken;
        visits = x.visits ++ visit ∷ [];
        splits = x.splits ∙ (ap (λ (l : List (List ℕ × S)). l ++ x.taken) next ∙ append_assoc left' ((key, state) ∷ []) x.taken);
        each = map-append (λ (v : Visit R). v.0) x.visits (visit ∷ []) ∙ (ap (λ (l : List (List ℕ)). l ++ key ∷ []) x.each ∙ sym (reverse-append (key ∷ []) (map (λ (e : List ℕ × S). e.0) x.taken)));
        visited = subst (λ (l : List (PartitionCalls C × PartitionReplies S R)). Did step n seen mine s' m' partition l) (sym (map-append (turn_of call) x.visits (visit ∷ [])))
            (then_calls (λ _. PartitionLegal step partition) fresh n (seen partition) (mine partition) (s partition) (m partition) (s' partition) (m' partition) (map (turn_of call) x.visits) (turn_of call visit ∷ []) x.visited t.here);
        others = λ k ne. then_calls (λ _. PartitionLegal step k) fresh n (seen k) (mine k) (s k) (m k) (s' k) (m' k) [] [] (x.others k ne) (t.others k ne);
        gave = subst (λ (l : List Bool). GaveEach a u w bytes l) (sym (map-append (λ (v : Visit R). v.1.1) x.visits (visit ∷ []))) (gave_more a u q w bytes (map (λ (v : Visit R). v.1.1) x.visits) freed x.gave gave);
      }

  -- no entry is left: each was visited
  pub all_visited : (s m : Histories (PartitionState S) (PartitionCalls C) (PartitionReplies S R)) (w : AreaPass) (left : List (List ℕ × S)) (x : Visiting s m w left) → left ≡ [] → map (λ v. v.0) x.visits ≡ reverse (map (λ e. e.0) entries)
  all_visited s m w left x none = x.each ∙ sym (ap (λ (l : List (List ℕ × S)). reverse (map (λ (e : List ℕ × S). e.0) l)) (x.splits ∙ ap (λ (l : List (List ℕ × S)). l ++ x.taken) none))

-- a scan of a partition with `count` entries: it was listed, and some of the entries were visited
pub record Scanning {S C R : Type 0} (step : Option S → C → Option S × R) (a : Area) (n bytes partition : ℕ) (call : C) (count : ℕ) (seen mine : Histories (PartitionState S) (PartitionCalls C) (PartitionReplies S R)) (u : AreaPass) (seen' mine' : Histories (PartitionState S) (PartitionCalls C) (PartitionReplies S R)) (w : AreaPass) (left : List (List ℕ × S)) : Type 0 where
  pub s : Histories (PartitionState S) (PartitionCalls C) (PartitionReplies S R)
  pub m : Histories (PartitionState S) (PartitionCalls C) (PartitionReplies S R)
  pub entries : List (List ℕ × S)
  pub listed : AtPartition step n seen mine s m partition Lists (Listed (Some entries))
  pub all : ListsAll (map_at s partition) entries
  pub counted : count ≡ length entries
  pub visiting : Visiting step a n bytes partition call s m u entries seen' mine' w left
