-- Each key's calls are, in the one legal history of its partition, those of one cell, whatever stands between; the
-- bound on the number of keys holds after each turn, and sizes never fall.
use Rattle.std.proofs.Common.{◌≡◌, ◌≢◌, ℕ, ◌≤◌, Bool, cond, List, [], ◌∷◌, ◌++◌, Option, Some, None, refl, sym, ap, ◌∙◌, subst, arith, ⊎_elim, nat_cmp}
use mathlib.Core.Logic.{dite}
use native.Mathlib.Decide.{dec_lt, dec_le}
use Rattle.std.specs.Ordering.{eq_by_cmp}
use Rattle.std.specs.Cmp.Lexicographic.{slice_cmp, nat_list_cmp_total}
use Rattle.std.specs.FinMap as fin
use Rattle.dshash_core.specs.Cells.{KeyMap, IsRoomy}
use Rattle.dshash_core.specs.Outcome.{changed, next_of, IsDone}
use Rattle.dshash_core.proofs.Maps.{same_key, other_key, keys_same_or_not}
use Rattle.lock_book.specs.declared.view.Entry.{Entry}
use Rattle.lock_book.specs.History.{last_of, IsLegal}
use Rattle.lock_book.proofs.Uses.{kept_last, legal_back, last-append}
use Rattle.dshash_parts.specs.States.{PartitionState, fresh}
use Rattle.dshash_parts.specs.Legal.{IsTurn, PartitionLegal}
use Rattle.dshash_parts.specs.Replays.{made_of, calls_of_key, IsRun, KeysAreCells, StaysRoomy, SizesGrow}
use Rattle.dshash_parts.specs.declared.histories.PartitionCalls.{PartitionCalls}
use Rattle.dshash_parts.specs.declared.histories.PartitionCalls.TheVariants.{Call, Looks, Moves, Lists}
use Rattle.dshash_parts.specs.declared.histories.PartitionReplies.{PartitionReplies}
use Rattle.dshash_parts.specs.declared.histories.PartitionReplies.TheVariants.{Made, LacksItem, HasToGrow, Crowded, HasSize, Moved, Listed}

module _ {S C R : Type 0} (step : Option S → C → Option S × R) where
  abbrev get : PartitionState S → List ℕ → Option S
  get s q = fin.get s.cells q

  -- a map that was changed under a key, under that key and under others
  pub changed_here : (m : KeyMap S) (k : List ℕ) (next : Option S) (q : List ℕ) → q ≡ k → fin.get (changed m k next) q ≡ next
  changed_here m k (Some v) q e = fin.get-insert nat_list_cmp_total m k v q ∙ ap (λ (b : Bool). cond b (Some v) (fin.get m q)) (same_key q k e)
  changed_here m k None q e = fin.get-remove nat_list_cmp_total m k q ∙ ap (λ (b : Bool). cond b None (fin.get m q)) (same_key q k e)

  pub changed_else : (m : KeyMap S) (k : List ℕ) (next : Option S) (q : List ℕ) → q ≢ k → fin.get (changed m k next) q ≡ fin.get m q
  changed_else m k (Some v) q n = fin.get-insert nat_list_cmp_total m k v q ∙ ap (λ (b : Bool). cond b (Some v) (fin.get m q)) (other_key q k n)
  changed_else m k None q n = fin.get-remove nat_list_cmp_total m k q ∙ ap (λ (b : Bool). cond b None (fin.get m q)) (other_key q k n)

  -- a call that was made, and the cell of a key
  done_cell : (q : List ℕ) (before after : PartitionState S) (k : List ℕ) (c : C) (sp : Bool) (r : R) (u f : Bool) → IsDone step before.size before.cells k c sp r u f after.cells
      → IsRun step (get before q) (cond (eq_by_cmp (slice_cmp nat_cmp) q k) ((c, r) ∷ []) []) (get after q)
  done_cell q before after k c sp r u f d =
      let now : get after q ≡ fin.get (changed before.cells k (next_of step before.cells k c)) q = ap (λ (m : KeyMap S). fin.get m q) d.steps in
      ⊎_elim
      (λ (e : q ≡ k). subst (λ (b : Bool). IsRun step (get before q) (cond b ((c, r) ∷ []) []) (get after q)) (sym (same_key q k e)) (
        d.replied ∙ ap (λ (z : List ℕ). (step (fin.get before.cells z) c).1) (sym e),
        ap (λ (z : List ℕ). (step (fin.get before.cells z) c).0) e ∙ sym (now ∙ changed_here before.cells k (next_of step before.cells k c) q e),
      ))
      (λ (n : q ≢ k). subst (λ (b : Bool). IsRun step (get before q) (cond b ((c, r) ∷ []) []) (get after q)) (sym (other_key q k n)) (sym (now ∙ changed_else before.cells k (next_of step before.cells k c) q n)))
      (keys_same_or_not q k)

  -- one turn, and the cell of a key
  pub one : (q : List ℕ) (before after : PartitionState S) (c : PartitionCalls C) (r : PartitionReplies S R) → IsTurn step before c r after → IsRun step (get before q) (made_of q c r) (get after q)
  one q before after (Call k c sp) (Made r u f) h = done_cell q before after k c sp r u f h.1
  one q before after (Call k c sp) LacksItem h = ap (λ (m : KeyMap S). fin.get m q) (sym h.1.same)
  one q before after (Call k c sp) (HasToGrow told back) h = ap (λ (m : KeyMap S). fin.get m q) (sym h.1.same)
  one q before after (Call k c sp) (Crowded seed longest back) h = ap (λ (s : PartitionState S). get s q) (sym h.0)
  one q before after (Call k c sp) (HasSize n m) h = absurd h
  one q before after (Call k c sp) (Moved left) h = absurd h
  one q before after (Call k c sp) (Listed es) h = absurd h
  one q before after Looks (HasSize n m) h = ap (λ (s : PartitionState S). get s q) (sym h.1)
  one q before after Looks (Made r u f) h = absurd h
  one q before after Looks LacksItem h = absurd h
  one q before after Looks (HasToGrow told back) h = absurd h
  one q before after Looks (Crowded seed longest back) h = absurd h
  one q before after Looks (Moved left) h = absurd h
  one q before after Looks (Listed es) h = absurd h
  one q before after (Moves to) (Moved left) h = ap (λ (m : KeyMap S). fin.get m q) (sym h.0.same)
  one q before after (Moves to) (Made r u f) h = absurd h
  one q before after (Moves to) LacksItem h = absurd h
  one q before after (Moves to) (HasToGrow told back) h = absurd h
  one q before after (Moves to) (Crowded seed longest back) h = absurd h
  one q before after (Moves to) (HasSize n m) h = absurd h
  one q before after (Moves to) (Listed es) h = absurd h
  one q before after Lists (Listed (Some es)) h = ap (λ (s : PartitionState S). get s q) (sym h.1)
  one q before after Lists (Listed None) h = ap (λ (s : PartitionState S). get s q) (sym h)
  one q before after Lists (Made r u f) h = absurd h
  one q before after Lists LacksItem h = absurd h
  one q before after Lists (HasToGrow told back) h = absurd h
  one q before after Lists (Crowded seed longest back) h = absurd h
  one q before after Lists (HasSize n m) h = absurd h
  one q before after Lists (Moved left) h = absurd h

  pub run_append : (xs ys : List (C × R)) (s t u : Option S) → IsRun step s xs t → IsRun step t ys u → IsRun step s (xs ++ ys) u
  run_append [] ys s t u h g = subst (λ (z : Option S). IsRun step z ys u) (sym h) g
  run_append (x ∷ xs) ys s t u h g = (h.0, run_append xs ys (step s x.0).0 t u h.1 g)

  module _ (number : ℕ) where
    replays : (q : List ℕ) (s : PartitionState S) (es : List (Entry (PartitionState S) (PartitionCalls C) (PartitionReplies S R))) → IsLegal (λ _. PartitionLegal step number) s es
        → IsRun step (get s q) (calls_of_key q es) (get (last_of s es) q)
    replays q s [] h = refl
    replays q s (e ∷ es) h = run_append (made_of q e.call e.reply) (calls_of_key q es) (get s q) (get e.after q) (get (last_of e.after es) q) (one q s e.after e.call e.reply h.0.is) (replays q e.after es h.1)

    bounded : (s : PartitionState S) (es : List (Entry (PartitionState S) (PartitionCalls C) (PartitionReplies S R))) → IsRoomy s.size (fin.len s.cells) → IsLegal (λ _. PartitionLegal step number) s es → IsRoomy (last_of s es).size (fin.len (last_of s es).cells)
    bounded s es p h = kept_last (λ _. PartitionLegal step number) (λ (t : PartitionState S). IsRoomy t.size (fin.len t.cells)) (λ n a c r b _ l. l.roomy) s es p h

  same_size : (low : ℕ) (before after : PartitionState S) → after ≡ before → low ≤ before.size → low ≤ after.size
  same_size low before after e p = subst (λ (s : PartitionState S). low ≤ s.size) (sym e) p

  -- one turn never lowers a size
  one_grows : (low : ℕ) (before after : PartitionState S) (c : PartitionCalls C) (r : PartitionReplies S R) → IsTurn step before c r after → low ≤ before.size → low ≤ after.size
  one_grows low before after (Call k c sp) (Made r u f) h p = let e = h.0 in omega arith
  one_grows low before after (Call k c sp) LacksItem h p = let e = h.0 in omega arith
  one_grows low before after (Call k c sp) (HasToGrow told back) h p = let e = h.0 in omega arith
  one_grows low before after (Call k c sp) (Crowded seed longest back) h p = same_size low before after h.0 p
  one_grows low before after (Call k c sp) (HasSize n m) h p = absurd h
  one_grows low before after (Call k c sp) (Moved left) h p = absurd h
  one_grows low before after (Call k c sp) (Listed es) h p = absurd h
  one_grows low before after Looks (HasSize n m) h p = same_size low before after h.1 p
  one_grows low before after Looks (Made r u f) h p = absurd h
  one_grows low before after Looks LacksItem h p = absurd h
  one_grows low before after Looks (HasToGrow told back) h p = absurd h
  one_grows low before after Looks (Crowded seed longest back) h p = absurd h
  one_grows low before after Looks (Moved left) h p = absurd h
  one_grows low before after Looks (Listed es) h p = absurd h
  one_grows low before after (Moves to) (Moved left) h p = dite (dec_lt before.size to)
      (λ a. dite (dec_le to 20) (λ b. let e = h.0.size_is a b in omega arith) (λ nb. let e = h.0.otherwise (λ _ b. nb b) in omega arith))
      (λ na. let e = h.0.otherwise (λ a _. na a) in omega arith)
  one_grows low before after (Moves to) (Made r u f) h p = absurd h
  one_grows low before after (Moves to) LacksItem h p = absurd h
  one_grows low before after (Moves to) (HasToGrow told back) h p = absurd h
  one_grows low before after (Moves to) (Crowded seed longest back) h p = absurd h
  one_grows low before after (Moves to) (HasSize n m) h p = absurd h
  one_grows low before after (Moves to) (Listed es) h p = absurd h
  one_grows low before after Lists (Listed (Some es)) h p = same_size low before after h.1 p
  one_grows low before after Lists (Listed None) h p = same_size low before after h p
  one_grows low before after Lists (Made r u f) h p = absurd h
  one_grows low before after Lists LacksItem h p = absurd h
  one_grows low before after Lists (HasToGrow told back) h p = absurd h
  one_grows low before after Lists (Crowded seed longest back) h p = absurd h
  one_grows low before after Lists (HasSize n m) h p = absurd h
  one_grows low before after Lists (Moved left) h p = absurd h

  pub grows : (number low : ℕ) (s : PartitionState S) (es : List (Entry (PartitionState S) (PartitionCalls C) (PartitionReplies S R))) → low ≤ s.size → IsLegal (λ _. PartitionLegal step number) s es → low ≤ (last_of s es).size
  grows number low s es p h = kept_last (λ _. PartitionLegal step number) (λ (t : PartitionState S). low ≤ t.size) (λ n a c r b q l. one_grows low a b c r l.is q) s es p h

-- a new partition is within the bound
pub fresh_roomy : (S : Type 0) → IsRoomy (fresh {S = S}).size (fin.len (fresh {S = S}).cells)
fresh_roomy S = record { from = omega arith; to = omega arith; few = λ _. (let none = fin.len-empty (slice_cmp nat_cmp) S in omega arith) }

module _ {S C R : Type 0} where
  pub keys_are_cells : KeysAreCells S C R
  keys_are_cells step number key es h =
      subst (λ (z : Option S). IsRun step z (calls_of_key key es) (fin.get (last_of fresh es).cells key)) (fin.get-empty {X = S} (slice_cmp nat_cmp) key) (replays step number key fresh es h)

  pub stays_roomy : StaysRoomy S C R
  stays_roomy step number es h = bounded step number fresh es (fresh_roomy S) h

  pub sizes_grow : SizesGrow S C R
  sizes_grow step number es fs h =
      subst (λ (t : PartitionState S). (last_of fresh es).size ≤ t.size) (sym (last-append fresh es fs))
      (grows step number (last_of fresh es).size (last_of fresh es) fs (omega arith) (legal_back (λ _. PartitionLegal step number) fresh es fs h))
