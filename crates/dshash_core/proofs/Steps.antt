-- The calls of a partition, on its chains: what was done and what was refused.
use Rattle.std.proofs.Common.{◌≡◌, ◌≢◌, ℕ, ◌+◌, ◌-◌, ◌/◌, ◌^◌, ◌<◌, ◌≤◌, Bool, true, false, not, ◌&&◌, List, ◌∷◌, ◌++◌, length, Option, Some, None, is_some, is_none, nat_lt, refl, sym, ap, subst, ◌∙◌, arith}
use Rattle.std.specs.FinMap as fin
use Rattle.std.proofs.lemmas.Nat.{mod_below, pow_pos}
use Rattle.std.proofs.lemmas.Bool.Decides.{nat_tests}
use Rattle.dshash_core.proofs.Maps.{insert_same, remove_missing}
use Rattle.dshash_core.specs.Key.{seeded_hash}
use Rattle.dshash_core.specs.Chains.{Among, Item}
use Rattle.dshash_core.specs.Hung.{Hung, chain_of, with_chain, HasNoItem, HasItem}
use Rattle.dshash_core.specs.Cells.{KeyMap, bucket_of, buckets_of, full_above, IsRoomy, all_items, cells_of, AreCells}
use Rattle.dshash_core.specs.Outcome.{changed, would_insert, removes, is_full, next_of, IsDone, IsNeedItem, IsTooFull}
use Rattle.dshash_core.specs.Calls.{IsCalled, IsAnswered}
use Rattle.dshash_core.specs.declared.outcome.CoreOut.{CoreOut}
use Rattle.dshash_core.specs.declared.outcome.CoreOut.TheVariants.{Done, NeedItem, TooFull}
use Rattle.dshash_core.proofs.Flats.{nowhere, pushed_cells, pushed_map, spot_get, taken_cells, taken_map, written_cells, written_map, cells_len, cells_missing}

-- a hash's bucket is one of the partition's
pub bucket_in : (size count value_words : ℕ) (h : Hung) → AreCells size count value_words h → (hash : ℕ) → bucket_of size hash < length h.chains
bucket_in size count value_words h k hash = let below : bucket_of size hash < buckets_of size = mod_below (hash / 2 ^ (32 - size)) (2 ^ (size - 7)) (pow_pos (size - 7)) in omega (arith, k.buckets, below)

-- a partition that isn't full may take one key more
may_grow : (size count : ℕ) → IsRoomy size count → (nat_lt (full_above size) count && nat_lt size 20) ≡ false → IsRoomy size (count + 1)
may_grow size count r e = record { from = r.from; to = r.to; few = λ small. go small (nat_lt (full_above size) count) (nat_lt size 20) refl refl e }
  where
    go : size < 20 → (a b : Bool) → nat_lt (full_above size) count ≡ a → nat_lt size 20 ≡ b → (a && b) ≡ false → count + 1 ≤ full_above size + 1
    go small true true p q f = cc
    go small true false p q f = grind (arith, nat_tests)
    go small false b p q f = grind (arith, nat_tests)

module _ {S C R : Type 0} (step : Option S → C → Option S × R) (decoded : List ℕ → S) (size count value_words : ℕ) (h : Hung) (k : AreCells size count value_words h) (i : ℕ) (l : i < length h.chains) (key : List ℕ) (call : C) (spare : Bool) where
  abbrev before : KeyMap S
  before = cells_of decoded h.chains

  -- what a call makes of a key that is there
  module _ (link place : ℕ) (item : HasItem h i link place key) (next : Option S) (reply : R) (is : (next, reply) ≡ step (Some (decoded item.0.value)) call) where
    found : fin.get before key ≡ Some (decoded item.0.value)
    found = subst (λ (q : List ℕ). fin.get before q ≡ Some (decoded item.0.value)) item.3 (spot_get size count value_words h k i l link item.0 item.1 decoded)

    stepped : (next, reply) ≡ step (fin.get before key) call
    stepped = is ∙ ap (λ (o : Option S). step o call) (sym found)

    next_is : next ≡ next_of step before key call
    next_is = ap (λ (p : Option S × R). p.0) stepped

    there : (o : Option S) → would_insert before key o ≡ false
    there o = ap (λ (g : Option S). not (is_some g) && is_some o) found

    no_more : (spare && not (would_insert before key next)) ≡ spare
    no_more = ap (λ (b : Bool). spare && not b) (there next) ∙ whole spare
      where
        whole : (b : Bool) → (b && true) ≡ b
        whole true = refl
        whole false = refl

    done : (after : KeyMap S) → after ≡ changed before key next → (freed : Bool) → freed ≡ removes before key next → IsDone step size before key call spare reply spare freed after
    done after e freed f =
        let P : Option S → Type 0 = λ n. after ≡ changed before key n in
        let F : Option S → Type 0 = λ n. freed ≡ removes before key n in
        let W : Option S → Type 0 = λ n. spare ≡ (spare && not (would_insert before key n)) in
        record {
          replied = ap (λ (p : Option S × R). p.1) stepped;
          steps = subst P next_is e;
          may = λ w. let n : false ≡ true = sym (there (next_of step before key call)) ∙ w in cc;
          unused_is = subst W next_is (sym no_more);
          freed_is = subst F next_is f;
        }

    pub updated : (new : Hung) (state : S) (value : List ℕ) → next ≡ Some state → decoded value ≡ state
        → new ≡ with_chain h i (item.1.before ++ record item.0 { value = value } ∷ item.1.after)
        → IsCalled step decoded size count value_words h new key call spare reply spare false
    updated new state value e reads n =
        let made = with_chain h i (item.1.before ++ record item.0 { value = value } ∷ item.1.after) in
        subst (λ (u : Hung). IsCalled step decoded size count value_words h u key call spare reply spare false) (sym n) record {
          same = refl;
          cells = written_cells size count value_words h k i l link item.0 item.1 value;
          done = done (cells_of decoded made.chains)
              (written_map size count value_words h k i l link item.0 item.1 decoded value
              ∙ (λ t. fin.insert before (item.3 t) (reads t)) ∙ ap (λ (o : Option S). changed before key o) (sym e))
              false
              (sym (ap (λ (g : Option S). is_some g && is_none next) found ∙ ap (λ (o : Option S). is_none o) e));
        }

    pub removed : (new : Hung) (after : ℕ) → next ≡ None → after + 1 ≡ count → new ≡ with_chain h i (item.1.before ++ item.1.after)
        → IsCalled step decoded size after value_words h new key call spare reply spare true
    removed new after e less n =
        let made = with_chain h i (item.1.before ++ item.1.after) in
        subst (λ (u : Hung). IsCalled step decoded size after value_words h u key call spare reply spare true) (sym n) record {
          same = refl;
          cells = taken_cells size count value_words h k i l link item.0 item.1 after less;
          done = done (cells_of decoded made.chains)
              (taken_map size count value_words h k i l link item.0 item.1 decoded ∙ (λ t. fin.remove before (item.3 t)) ∙ ap (λ (o : Option S). changed before key o) (sym e))
              true
              (sym (ap (λ (g : Option S). is_some g && is_none next) found ∙ ap (λ (o : Option S). is_none o) e));
        }

    -- it leaves the state that stands there: nothing has changed
    pub left_alone : (state : S) → next ≡ Some state → next ≡ Some (decoded item.0.value) → IsCalled step decoded size count value_words h h key call spare reply spare false
    left_alone state e same = record {
      same = refl;
      cells = k;
      done = done before
          (sym (ap (λ (o : Option S). changed before key o) same ∙ insert_same before key (decoded item.0.value) found))
          false
          (sym (ap (λ (g : Option S). is_some g && is_none next) found ∙ ap (λ (o : Option S). is_none o) e));
    }

  -- what it makes of a key that is not
  module _ (own : i ≡ bucket_of size (seeded_hash h.layout.seed key)) (none : HasNoItem h i key) (next : Option S) (reply : R) (is : (next, reply) ≡ step None call) where
    fresh : (x : Item) → Among x (all_items h.chains) → x.key ≢ key
    fresh = nowhere size count value_words h k i key own none

    missing : fin.get before key ≡ None
    missing = cells_missing size count value_words h k decoded key fresh

    stepped_new : (next, reply) ≡ step (fin.get before key) call
    stepped_new = is ∙ ap (λ (o : Option S). step o call) (sym missing)

    next_new : next ≡ next_of step before key call
    next_new = ap (λ (p : Option S × R). p.0) stepped_new

    absent : (o : Option S) → would_insert before key o ≡ is_some o
    absent o = ap (λ (g : Option S). not (is_some g) && is_some o) missing

    keeps : (o : Option S) → removes before key o ≡ false
    keeps o = ap (λ (g : Option S). is_some g && is_none o) missing

    inserts : (state : S) → next ≡ Some state → would_insert before key (next_of step before key call) ≡ true
    inserts state e = absent (next_of step before key call) ∙ ap (λ (o : Option S). is_some o) (sym next_new ∙ e)

    full_is : is_full before size ≡ (nat_lt (full_above size) count && nat_lt size 20)
    full_is = ap (λ (n : ℕ). nat_lt (full_above size) n && nat_lt size 20) (cells_len size count value_words h k decoded)

    -- it makes none: nothing has changed
    pub passed : next ≡ None → IsCalled step decoded size count value_words h h key call spare reply spare false
    passed e =
        let gone : is_some (next_of step before key call) ≡ false = ap (λ (o : Option S). is_some o) (sym next_new ∙ e) in
        let no : would_insert before key (next_of step before key call) ≡ false = absent (next_of step before key call) ∙ gone in
        record {
          same = refl;
          cells = k;
          done = record {
            replied = ap (λ (p : Option S × R). p.1) stepped_new;
            steps = sym (ap (λ (o : Option S). changed before key o) (sym next_new ∙ e) ∙ unchanged);
            may = λ w. let n : false ≡ true = sym no ∙ w in cc;
            unused_is = sym (ap (λ (b : Bool). spare && not b) no ∙ whole spare);
            freed_is = sym (keeps (next_of step before key call));
          };
        }
      where
        whole : (b : Bool) → (b && true) ≡ b
        whole true = refl
        whole false = refl

        unchanged : fin.remove before key ≡ before
        unchanged = remove_missing before key missing

    -- it makes one, and an item is hung in for it
    pub inserted : (new : Hung) (state : S) (it : Item) → next ≡ Some state → it.key ≡ key → decoded it.value ≡ state → spare ≡ true
        → (nat_lt (full_above size) count && nat_lt size 20) ≡ false
        → new ≡ with_chain h i (it ∷ chain_of h i)
        → IsCalled step decoded size (count + 1) value_words h new key call spare reply false false
    inserted new state it e key_is reads has room n =
        let w : would_insert before key (next_of step before key call) ≡ true = inserts state e in
        let other : (x : Item) → Among x (all_items h.chains) → x.key ≢ it.key = λ x m s. fresh x m (s ∙ key_is) in
        let place : bucket_of size (seeded_hash h.layout.seed it.key) ≡ i = ap (λ (q : List ℕ). bucket_of size (seeded_hash h.layout.seed q)) key_is ∙ sym own in
        let roomy : IsRoomy size (count + 1) = may_grow size count k.roomy room in
        subst (λ (u : Hung). IsCalled step decoded size (count + 1) value_words h u key call spare reply false false) (sym n) record {
          same = refl;
          cells = pushed_cells size count value_words h k i l it place other roomy;
          done = record {
            replied = ap (λ (p : Option S × R). p.1) stepped_new;
            steps = pushed_map size count value_words h k i l it place other decoded ∙ (λ t. fin.insert before (key_is t) (reads t))
                ∙ ap (λ (o : Option S). changed before key o) (sym e ∙ next_new);
            may = λ z. (full_is ∙ room, has);
            unused_is = sym (ap (λ (b : Bool). spare && not b) w ∙ none_left spare);
            freed_is = sym (keeps (next_of step before key call));
          };
        }
      where
        none_left : (b : Bool) → (b && false) ≡ false
        none_left true = refl
        none_left false = refl

    pub needs_item : (state : S) → next ≡ Some state → spare ≡ false → (nat_lt (full_above size) count && nat_lt size 20) ≡ false → IsNeedItem step size before key call spare before
    needs_item state e bare room = record { inserts = inserts state e; room = full_is ∙ room; bare = bare; same = refl }

    pub too_full : (state : S) → next ≡ Some state → (nat_lt (full_above size) count && nat_lt size 20) ≡ true → IsTooFull step size before key call spare size spare before
    too_full state e full = record { inserts = inserts state e; full = full_is ∙ full; told_is = refl; back_is = refl; same = refl }

-- an answer leaves the chains of a partition of that size
pub answered_cells : {O D S C R : Type 0} (step : Option S → C → Option S × R) (decoded : List ℕ → S) (size count after value_words : ℕ) (old new : Hung) (key : List ℕ) (call : C) (spare : Bool) (out : CoreOut O S D R)
    → AreCells size count value_words old → IsAnswered step decoded size count after value_words old new key call spare out → AreCells size after value_words new
answered_cells step decoded size count after value_words old new key call spare (Done reply unused freed) k a = a.cells
answered_cells step decoded size count after value_words old new key call spare NeedItem k a = subst (λ (u : Hung). AreCells size after value_words u) (sym a.0) (subst (λ (n : ℕ). AreCells size n value_words old) (sym a.1) k)
answered_cells step decoded size count after value_words old new key call spare (TooFull told back) k a = subst (λ (u : Hung). AreCells size after value_words u) (sym a.0) (subst (λ (n : ℕ). AreCells size n value_words old) (sym a.1) k)
