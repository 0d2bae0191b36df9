-- What a round did at a partition; and if nobody else calls it, each of its leases is a round older.
use Rattle.std.proofs.Common.{◌≡◌, ◌≢◌, ◌∙◌, ℕ, zero, suc, ◌+◌, ◌<◌, ◌≤◌, ⊎_elim, cond, Bool, true, false, List, [], ◌∷◌, ◌++◌, length, map, reverse, Option, Some, None, is_some, refl, ap, sym, subst, arith, nat_cmp, ◌-◌, ◌&&◌, is_none}
use mathlib.Core.Logic.{dite}
use native.Mathlib.Decide.{ℕ_discrete}
use Rattle.std.proofs.lemmas.List.{reverse-append}
use Rattle.std.specs.Ordering.{eq_by_cmp}
use Rattle.std.specs.Cmp.Lexicographic.{slice_cmp, nat_list_cmp_total}
use Rattle.std.specs.FinMap as fin
use Rattle.atomic_table.specs.Seated.{TableId}
use Rattle.lock_book.specs.declared.kept.Kept.{Ghosts}
use Rattle.lock_book.specs.History.{last_of}
use Rattle.lock_book.specs.Shown.{mine_of, number_of, seen_of}
use Rattle.lock_book.specs.Told.{Histories}
use Rattle.lock_book.proofs.Uses.{then_calls}
use Rattle.dsa_area.specs.declared.area.Area.{Area}
use Rattle.dsa_area.specs.declared.area.AreaPass.{AreaPass}
use Rattle.dsa_area.specs.Sizes.{chunk_size}
use Rattle.dshash_core.specs.Cells.{KeyMap, partition_of}
use Rattle.dshash_core.specs.Key.{hash_of}
use Rattle.dshash_core.specs.Outcome.{ListsAll, changed}
use Rattle.dshash_core.proofs.Maps.{same_key, other_key, keys_same_or_not}
use Rattle.dshash_parts.specs.Legal.{PartitionLegal}
use Rattle.dshash_parts.specs.States.{PartitionState, fresh}
use Rattle.dshash_parts.specs.Tables.{AtPartition, Belongs, Did, callers_of, item_of, map_at, state_at}
use Rattle.dshash_parts.specs.declared.asks.TableAnswer.{TableAnswer}
use Rattle.dshash_parts.specs.declared.asks.TableAsk.{TableAsk}
use Rattle.dshash_parts.specs.declared.histories.PartitionCalls.{PartitionCalls}
use Rattle.dshash_parts.specs.declared.histories.PartitionCalls.TheVariants.{Lists}
use Rattle.dshash_parts.specs.declared.histories.PartitionName.{PartitionName}
use Rattle.dshash_parts.specs.declared.histories.PartitionReplies.{PartitionReplies}
use Rattle.dshash_parts.specs.declared.histories.PartitionReplies.TheVariants.{Listed}
use Rattle.dshash_parts.specs.declared.numbered.Numbered.{Numbered}
use Rattle.dshash_parts.specs.declared.table.Dshash.{Dshash}
use Rattle.dshash_parts.proofs.Replays.{changed_else, changed_here}
use Rattle.dshash_parts.proofs.Uses.{partition_low}
use Rattle.dshash_numbers.proofs.Lone.{Steps}
use Rattle.dshash_numbers.proofs.MapCalls.{steps}
use Rattle.dshash_scan.specs.Visits.{Visit, VisitsEach, turn_of}
use Rattle.dshash_scan.proofs.Visits.{Scanning, all_visited}
use Rattle.uses_table.specs.Cached.{under}
use Rattle.uses_table.specs.Leases.{stepped, ticked}
use Rattle.uses_table.specs.Ticks.{AreLater, IsLater, LeaseEntry, LeaseHistories, LeasePass, TicksEach, keys_below}
use Rattle.uses_table.specs.declared.lease.Lease.{Lease}
use Rattle.uses_table.specs.declared.lease.LeaseCall.{LeaseCall}
use Rattle.uses_table.specs.declared.lease.LeaseCall.TheVariants.{Tick}
use Rattle.uses_table.proofs.Ticks.{freed_among, freed_by, freed_in, freed_visits, own_freed, were_ticked}

-- whether two keys are the same
abbrev same_as : List ℕ → List ℕ → Bool
same_as = eq_by_cmp (slice_cmp nat_cmp)

-- how often a key is among keys
abbrev hits : List ℕ → List (List ℕ) → ℕ
hits q [] = 0
hits q (k ∷ ks) = cond {A = ℕ} (same_as q k) (suc (hits q ks)) (hits q ks)

hit_more : (b : Bool) (m n : ℕ) → cond {A = ℕ} b (suc (m + n)) (m + n) ≡ cond {A = ℕ} b (suc m) m + n
hit_more true m n = omega arith
hit_more false m n = refl

hit_last : (b : Bool) (n : ℕ) → n + cond {A = ℕ} b 1 0 ≡ cond {A = ℕ} b (suc n) n
hit_last true n = omega arith
hit_last false n = omega arith

hits-append : (q : List ℕ) (xs ys : List (List ℕ)) → hits q (xs ++ ys) ≡ hits q xs + hits q ys
hits-append q [] ys = omega arith
hits-append q (x ∷ xs) ys = ap (λ (n : ℕ). cond {A = ℕ} (same_as q x) (suc n) n) (hits-append q xs ys) ∙ hit_more (same_as q x) (hits q xs) (hits q ys)

hits-reverse : (q : List ℕ) (xs : List (List ℕ)) → hits q (reverse xs) ≡ hits q xs
hits-reverse q [] = refl
hits-reverse q (x ∷ xs) = ap (hits q) (reverse-append (x ∷ []) xs)
    ∙ (hits-append q (reverse xs) (x ∷ [])
    ∙ (ap (λ (n : ℕ). n + cond {A = ℕ} (same_as q x) 1 0) (hits-reverse q xs)
    ∙ hit_last (same_as q x) (hits q xs)))

grown : (b : Bool) (n m : ℕ) → n ≤ m → cond {A = ℕ} b n (n + 1) ≤ suc m
grown true n m le = omega (arith, le)
grown false n m le = omega (arith, le)

new_key : (b : Bool) (n m : ℕ) → n ≤ m → suc m ≡ cond {A = ℕ} b n (n + 1) → (b ≡ false) × (m ≡ n)
new_key true n m le e = absurd (omega (arith, le, e))
new_key false n m le e = (refl, omega (arith, e))

module _ {S : Type 0} where
  -- a map has no more keys than the entries that it was made of
  few : (es : List (List ℕ × S)) → fin.len (fin.from_entries {R = slice_cmp nat_cmp} es) ≤ length es
  few [] = let none = fin.len-empty (slice_cmp nat_cmp) S in omega (arith, none)
  few (e ∷ es) = subst (λ (n : ℕ). n ≤ suc (length es)) (sym (fin.len-insert nat_list_cmp_total (fin.from_entries es) e.0 e.1)) (grown (fin.contains_key (fin.from_entries es) e.0) (fin.len (fin.from_entries es)) (length es) (few es))

  not_there : (o : Option S) → is_some o ≡ false → o ≡ None
  not_there None e = refl
  not_there (Some s) e = absurd (cc)

  -- so where it has as many, each key is once among them
  hits_once : (q : List ℕ) (es : List (List ℕ × S)) → length es ≡ fin.len (fin.from_entries {R = slice_cmp nat_cmp} es) → hits q (map (λ e. e.0) es) ≡ cond {A = ℕ} (is_some (fin.find (slice_cmp nat_cmp) q es)) 1 0
  hits_once q [] once = refl
  hits_once q (e ∷ es) once =
      let m : KeyMap S = fin.from_entries es in
      let new = new_key (fin.contains_key m e.0) (fin.len m) (length es) (few es) (once ∙ fin.len-insert nat_list_cmp_total m e.0 e.1) in
      let rest = hits_once q es new.1 in
      ⊎_elim
      (λ (is : q ≡ e.0).
      let none : fin.find (slice_cmp nat_cmp) q es ≡ None = sym (fin.get-from_entries nat_list_cmp_total es q) ∙ (ap (fin.get m) is ∙ not_there (fin.get m e.0) new.0) in
      let zero_hits : hits q (map (λ (x : List ℕ × S). x.0) es) ≡ 0 = rest ∙ ap (λ (o : Option S). cond {A = ℕ} (is_some o) 1 0) none in
      ap (λ (b : Bool). cond {A = ℕ} b (suc (hits q (map (λ (x : List ℕ × S). x.0) es))) (hits q (map (λ (x : List ℕ × S). x.0) es))) (same_key q e.0 is)
      ∙ (ap suc zero_hits
      ∙ sym (ap (λ (b : Bool). cond {A = ℕ} (is_some (cond b (Some e.1) (fin.find (slice_cmp nat_cmp) q es))) 1 0) (same_key q e.0 is))))
      (λ (is : q ≢ e.0).
      ap (λ (b : Bool). cond {A = ℕ} b (suc (hits q (map (λ (x : List ℕ × S). x.0) es))) (hits q (map (λ (x : List ℕ × S). x.0) es))) (other_key q e.0 is)
      ∙ (rest
      ∙ sym (ap (λ (b : Bool). cond {A = ℕ} (is_some (cond b (Some e.1) (fin.find (slice_cmp nat_cmp) q es))) 1 0) (other_key q e.0 is))))
      (keys_same_or_not q e.0)

-- what this many ticks leave
abbrev times : ℕ → Option Lease → Option Lease
times zero o = o
times (suc n) o = times n (ticked o)

once : (o : Option Lease) → times (cond {A = ℕ} (is_some o) 1 0) o ≡ ticked o
once None = refl
once (Some lease) = refl

module _ (m : KeyMap Lease) (key : List ℕ) where
  has_one : (lease : Lease) → fin.get m key ≡ Some lease → 1 ≤ fin.len m
  has_one lease e = dite (ℕ_discrete (fin.len m) 0)
      (λ z. let none : fin.get m key ≡ None = ap (λ (x : KeyMap Lease). fin.get x key) (fin.empty_of_len m z) ∙ fin.get-empty {X = Lease} _ key in let no : Some lease ≡ None = sym e ∙ none in absurd (cc))
      (λ nz. omega arith)

  -- a map that changes under a key has a key less if the key goes
  fewer_by : (state next : Option Lease) → fin.get m key ≡ state → (state ≡ None → next ≡ None) → cond {A = ℕ} (is_some state && is_none next) 1 0 + fin.len (changed m key next) ≡ fin.len m
  fewer_by None None e h = let l = fin.len-remove nat_list_cmp_total m key ∙ ap (λ (o : Option Lease). cond {A = ℕ} (is_some o) (fin.len m - 1) (fin.len m)) e in omega (arith, l)
  fewer_by None (Some next) e h = let no : Some next ≡ None = h refl in absurd (cc)
  fewer_by (Some state) None e h =
      let l = fin.len-remove nat_list_cmp_total m key ∙ ap (λ (o : Option Lease). cond {A = ℕ} (is_some o) (fin.len m - 1) (fin.len m)) e in
      let one = has_one state e in
      omega (arith, l, one)
  fewer_by (Some state) (Some next) e h = let l = fin.len-insert nat_list_cmp_total m key next ∙ ap (λ (o : Option Lease). cond {A = ℕ} (is_some o) (fin.len m) (fin.len m + 1)) e in omega (arith, l)

module _ (n k : ℕ) where
  -- under a key is what as many ticks leave as the key was visited
  all_ticked : (q : List ℕ) (visits : List (Visit (Option Lease))) (s t : PartitionState Lease) → Steps (λ _. PartitionLegal stepped k) n s (map (turn_of Tick) visits) t
      → fin.get t.cells q ≡ times (hits q (map (λ v. v.0) visits)) (fin.get s.cells q)
  all_ticked q [] s t x = ap (λ (z : PartitionState Lease). fin.get z.cells q) x
  all_ticked q (v ∷ visits) s t x =
      let u = x.0 in
      let next = ticked (fin.get s.cells v.0) in
      let rest = all_ticked q visits u t x.2 in
      let now = ap (λ (m : KeyMap Lease). fin.get m q) x.1.is.1.steps in
      let h : ℕ = hits q (map (λ (w : Visit (Option Lease)). w.0) visits) in
      ⊎_elim
      (λ (is : q ≡ v.0).
      rest
      ∙ (ap (times h) (now ∙ (changed_here stepped s.cells v.0 next q is ∙ ap (λ (key : List ℕ). ticked (fin.get s.cells key)) (sym is)))
      ∙ sym (ap (λ (b : Bool). times (cond {A = ℕ} b (suc h) h) (fin.get s.cells q)) (same_key q v.0 is))))
      (λ (is : q ≢ v.0).
      rest
      ∙ (ap (times h) (now ∙ changed_else stepped s.cells v.0 next q is)
      ∙ sym (ap (λ (b : Bool). times (cond {A = ℕ} b (suc h) h) (fin.get s.cells q)) (other_key q v.0 is))))
      (keys_same_or_not q v.0)

  -- and there are as many keys less as visits took out
  freed_len : (visits : List (Visit (Option Lease))) (s t : PartitionState Lease) → Steps (λ _. PartitionLegal stepped k) n s (map (turn_of Tick) visits) t → freed_among (map (turn_of {S = Lease} Tick) visits) + fin.len t.cells ≡ fin.len s.cells
  freed_len [] s t x = let e = ap (λ (z : PartitionState Lease). fin.len z.cells) x in omega (arith, e)
  freed_len (v ∷ visits) s t x =
      let done = x.1.is.1 in
      let was = fin.get s.cells v.0 in
      let rest = freed_len visits x.0 t x.2 in
      let one : cond {A = ℕ} v.1.1 1 0 + fin.len x.0.cells ≡ fin.len s.cells =
      ap (λ (b : Bool). cond {A = ℕ} b 1 0 + fin.len x.0.cells) done.freed_is
      ∙ (ap (λ (m : KeyMap Lease). cond {A = ℕ} (is_some was && is_none (ticked was)) 1 0 + fin.len m) done.steps
      ∙ fewer_by s.cells v.0 was (ticked was) refl (λ none. ap ticked none)) in
      omega (arith, rest, one)

  -- the visits of the keys that were listed tick each lease that was there
  pub round_later : (q : List ℕ) (entries : List (List ℕ × Lease)) (visits : List (Visit (Option Lease))) (s t : PartitionState Lease) → ListsAll s.cells entries → map (λ v. v.0) visits ≡ reverse (map (λ e. e.0) entries)
      → Steps (λ _. PartitionLegal stepped k) n s (map (turn_of Tick) visits) t → fin.get t.cells q ≡ ticked (fin.get s.cells q)
  round_later q entries visits s t lists each x =
      let there : fin.find (slice_cmp nat_cmp) q entries ≡ fin.get s.cells q = sym (fin.get-from_entries nat_list_cmp_total entries q) ∙ ap (λ (m : KeyMap Lease). fin.get m q) lists.all in
      let times_is : hits q (map (λ (v : Visit (Option Lease)). v.0) visits) ≡ cond {A = ℕ} (is_some (fin.get s.cells q)) 1 0 =
      ap (hits q) each
      ∙ (hits-reverse q (map (λ (e : List ℕ × Lease). e.0) entries)
      ∙ (hits_once q entries (lists.once ∙ ap fin.len (sym lists.all))
      ∙ ap (λ (o : Option Lease). cond {A = ℕ} (is_some o) 1 0) there)) in
      all_ticked q visits s t x ∙ (ap (λ (h : ℕ). times h (fin.get s.cells q)) times_is ∙ once (fin.get s.cells q))

-- this many of a caller's calls took their key out after a turn more
pub turn_freed : (n k : ℕ) (seen mine seen' mine' : Histories (PartitionState Lease) (PartitionCalls LeaseCall) (PartitionReplies Lease (Option Lease))) (c : PartitionCalls LeaseCall) (r : PartitionReplies Lease (Option Lease)) → AtPartition stepped n seen mine seen' mine' k c r
    → freed_in (mine' k) ≡ freed_in (mine k) + freed_by r
turn_freed n k seen mine seen' mine' c r x = let grown = own_freed (λ _. PartitionLegal stepped k) fresh n (seen k) (mine k) (seen' k) (mine' k) ((c, r) ∷ []) x.here in omega (arith, grown)

module _ {g : Ghosts (Numbered Lease Lease LeaseCall (Option Lease)) TableId (TableAsk Lease Lease LeaseCall (Option Lease)) (TableAnswer Lease Lease LeaseCall (Option Lease)) PartitionName (PartitionState Lease) (PartitionCalls LeaseCall) (PartitionReplies Lease (Option Lease))} (t : Dshash Lease Lease LeaseCall (Option Lease)) (p : LeasePass g) where
  -- no entry is left: each was ticked, and as many calls took their key out as visits did
  pub ticks_done : (a : Area) (u : AreaPass) (q q' : LeasePass g) (w w' : AreaPass) (k visited gone : ℕ) (left : List (List ℕ × Lease)) → Scanning stepped a (number_of p) (chunk_size (item_of t)) k Tick visited (seen_of p) (mine_of p) u (seen_of q) (mine_of q) w left
      → left ≡ [] → q' ≡ q → w' ≡ w → gone + freed_in (mine_of p k) ≡ freed_in (mine_of q k) → TicksEach t a p u q' w' k visited gone
  ticks_done a u q q' w w' k visited gone left x none same same_area freed =
      let v = x.visiting in
      let n : ℕ = number_of p in
      let listing = own_freed (λ _. PartitionLegal stepped k) fresh n (seen_of p k) (mine_of p k) (x.s k) (x.m k) ((Lists, Listed (Some x.entries)) ∷ []) x.listed.here in
      let visits = own_freed (λ _. PartitionLegal stepped k) fresh n (x.s k) (x.m k) (seen_of q k) (mine_of q k) (map (turn_of Tick) v.visits) v.visited in
      let counted = freed_visits Lease Tick v.visits in
      let base : TicksEach t a p u q w k visited gone = record {
        each = record {
          seen = x.s;
          mine = x.m;
          entries = x.entries;
          listed = x.listed;
          all = x.all;
          visits = v.visits;
          each = all_visited stepped a n (chunk_size (item_of t)) k Tick x.s x.m u x.entries (seen_of q) (mine_of q) w left v none;
          visited = v.visited;
          others = v.others;
          gave = v.gave;
          counted = x.counted;
        };
        moments = were_ticked n k v.visits (x.s k) (x.m k) (seen_of q k) (mine_of q k) v.visited;
        due = omega (arith, freed, listing, visits, counted);
      } in
      subst (λ (z : LeasePass g). TicksEach t a p u z w' k visited gone) (sym same) (subst (λ (z : AreaPass). TicksEach t a p u q z k visited gone) (sym same_area) base)

  -- at the other partitions nothing was seen
  pub others_same : (a : Area) (u w : AreaPass) (q : LeasePass g) (k visited : ℕ) → VisitsEach stepped t a p u q w k Tick visited → (other : ℕ) → other ≢ k → seen_of q other ≡ seen_of p other
  others_same a u w q k visited x other ne = (x.others other ne).0 ∙ (x.listed.others other ne).0

  module _ (a : Area) (u w : AreaPass) (q : LeasePass g) (k visited : ℕ) (one : callers_of t ≡ 1) (own : Belongs t p) (own' : Belongs t q) (same : number_of q ≡ number_of p) where
    -- a lone caller's listing is of what it had seen, and its visits follow one another
    lone_visits : (x : VisitsEach stepped t a p u q w k Tick visited) → ListsAll (map_at (seen_of p) k) x.entries × Steps (λ _. PartitionLegal stepped k) (number_of p) (state_at (seen_of p) k) (map (turn_of Tick) x.visits) (state_at (seen_of q) k)
    lone_visits x =
        let n : ℕ = number_of p in
        let did : Did stepped n (seen_of p) (mine_of p) (seen_of q) (mine_of q) k ((Lists, Listed (Some x.entries)) ∷ map (turn_of Tick) x.visits) =
        then_calls (λ _. PartitionLegal stepped k) fresh n (seen_of p k) (mine_of p k) (x.seen k) (x.mine k) (seen_of q k) (mine_of q k) ((Lists, Listed (Some x.entries)) ∷ []) (map (turn_of Tick) x.visits) x.listed.here x.visited in
        let all = steps stepped t p q one own own' same k ((Lists, Listed (Some x.entries)) ∷ map (turn_of Tick) x.visits) did in
        (all.1.is.0, subst (λ (s : PartitionState Lease). Steps (λ _. PartitionLegal stepped k) n s (map (turn_of Tick) x.visits) (state_at (seen_of q) k)) all.1.is.1 all.2)

    pub alone_later : (gone : ℕ) → TicksEach t a p u q w k visited gone → IsLater (seen_of p) (seen_of q) k gone
    alone_later gone x =
        let lone = lone_visits x.each in
        let counted = freed_visits Lease Tick x.each.visits in
        let freed = freed_len (number_of p) k x.each.visits (state_at (seen_of p) k) (state_at (seen_of q) k) lone.1 in
        record {
          older = λ key here. subst (λ (z : ℕ). fin.get (map_at (seen_of q) z) key ≡ ticked (fin.get (map_at (seen_of p) z) key)) (sym here)
              (round_later (number_of p) k key x.each.entries x.each.visits (state_at (seen_of p) k) (state_at (seen_of q) k) lone.0 x.each.each lone.1);
          fewer = omega (arith, x.due, counted, freed);
        }

-- a round on its way: at the partitions below a number it is a round later, and at the others nothing was seen
pub record Passing (seen seen' : LeaseHistories) (number gone : ℕ) : Type 0 where
  pub older : (key : List ℕ) → partition_of (hash_of key) < number → under seen' key ≡ ticked (under seen key)
  pub fewer : gone + keys_below number seen' ≡ keys_below number seen
  pub rest : (k : ℕ) → number ≤ k → seen' k ≡ seen k

pub passing_none : (seen : LeaseHistories) → Passing seen seen 0 0
passing_none seen = record { older = λ key low. absurd (omega (arith, low)); fewer = omega arith; rest = λ k high. refl }

module _ (seen seen' seen'' : LeaseHistories) where
  keys_same : (number : ℕ) → ((k : ℕ) → k < number → seen'' k ≡ seen' k) → keys_below number seen'' ≡ keys_below number seen'
  keys_same zero h = refl
  keys_same (suc number) h =
      let rest = keys_same number (λ k low. h k (omega (arith, low))) in
      let here = ap (λ (es : List LeaseEntry). fin.len (last_of fresh es).cells) (h number (omega arith)) in
      omega (arith, rest, here)

  pub passing_more : (number gone more : ℕ) → Passing seen seen' number gone → ((k : ℕ) → k ≢ number → seen'' k ≡ seen' k) → IsLater seen' seen'' number more → Passing seen seen'' (number + 1) (gone + more)
  passing_more number gone more x others here =
      let next : suc number ≡ number + 1 = omega arith in
      let kept = keys_same number (λ k low. others k (λ e. omega (arith, e, low))) in
      let same = ap (λ (es : List LeaseEntry). fin.len (last_of fresh es).cells) (x.rest number (omega arith)) in
      let less = here.fewer in
      let before = x.fewer in
      let after : (gone + more) + keys_below (suc number) seen'' ≡ keys_below (suc number) seen = omega (arith, kept, same, less, before) in
      record {
        older = λ key low. dite (ℕ_discrete (partition_of (hash_of key)) number)
            (λ e. here.older key e ∙ ap (λ (es : List LeaseEntry). ticked (fin.get (last_of fresh es).cells key)) (x.rest (partition_of (hash_of key)) (omega (arith, e))))
            (λ ne. ap (λ (es : List LeaseEntry). fin.get (last_of fresh es).cells key) (others (partition_of (hash_of key)) ne) ∙ x.older key (omega (arith, low, ne)));
        fewer = subst (λ (z : ℕ). (gone + more) + keys_below z seen'' ≡ keys_below z seen) next after;
        rest = λ k high. others k (λ e. omega (arith, e, high)) ∙ x.rest k (omega (arith, high));
      }

pub passing_all : (seen seen' : LeaseHistories) (number gone : ℕ) → number ≡ 128 → Passing seen seen' number gone → AreLater seen seen' gone
passing_all seen seen' number gone all x = record {
  older = λ key. x.older key (let low = partition_low key in omega (arith, low, all));
  fewer = subst (λ (z : ℕ). gone + keys_below z seen' ≡ keys_below z seen) all x.fewer;
}
