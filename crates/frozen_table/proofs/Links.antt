-- The keys of each slot, linked from the last to the first: as they come, and as they are followed.
use Rattle.std.proofs.Common.{◌≡◌, ◌≢◌, ◌<◌, ◌≤◌, ◌+◌, ◌-◌, ◌∙◌, ◌⊎◌, ◌++◌, ◌∷◌, ◌==◌, inl, inr, ℕ, zero, suc, Bool, true, false, List, [], Some, option_map, refl, ap, sym, subst, arith, get_or, length, set, slice_get}
use Rattle.std.proofs.lemmas.List.{get_or-set_other, get_or-set_same, length-append, length-map, length-set}
use Rattle.std.proofs.lemmas.Option.{get_or_from_slice_get, slice_get-get_or, slice_get-map, slice_get_within}
use Rattle.std.proofs.Math.ListN.{get_or-append}
use Rattle.std.proofs.Math.Seq.{get_or-append_seam}
use Rattle.dshash_core.specs.Key.{hash_of}
use Rattle.dshash_core.specs.Listing.{pairs_of}
use Rattle.dshash_core.specs.declared.entries.Entry.{Entry}
use Rattle.frozen_table.specs.Places.{AreLinked, IsLast, keys_of, slot_at, slot_of}

-- how two numbers compare
pub three : (a b : ℕ) → (a < b) ⊎ ((a ≡ b) ⊎ (b < a))
three zero zero = inr (inl refl)
three zero (suc b) = inl (omega arith)
three (suc a) zero = inr (inr (omega arith))
three (suc a) (suc b) = more (three a b)
  where
    more : (a < b) ⊎ ((a ≡ b) ⊎ (b < a)) → (suc a < suc b) ⊎ ((suc a ≡ suc b) ⊎ (suc b < suc a))
    more (inl lt) = inl (omega (arith, lt))
    more (inr (inl e)) = inr (inl (ap suc e))
    more (inr (inr lt)) = inr (inr (omega (arith, lt)))

-- a place below n + 1 is below n or is n
pub below_or : (place n : ℕ) → place < n + 1 → (place < n) ⊎ (place ≡ n)
below_or place n lt = by (three place n)
  where
    by : (place < n) ⊎ ((place ≡ n) ⊎ (n < place)) → (place < n) ⊎ (place ≡ n)
    by (inl less) = inl less
    by (inr (inl same)) = inr same
    by (inr (inr more)) = absurd (omega (arith, lt, more))

-- no key has come
pub linked_none : (keys : List (List ℕ)) (heads : List ℕ) → ((slot : ℕ) → get_or heads slot 0 ≡ 0) → AreLinked keys heads [] 0
linked_none keys heads empty = record {
  count = refl;
  lasts = λ slot lt. record {
    within = omega (arith, empty slot);
    own = λ some. absurd (some (empty slot));
    none = λ place from to. absurd (omega (arith, to));
  };
  befores = λ place lt. absurd (omega (arith, lt));
}

module _ (keys : List (List ℕ)) (heads nexts : List ℕ) (n slot : ℕ) (h : AreLinked keys heads nexts n) (is : slot ≡ slot_at keys (length heads) n) (low : slot < length heads) where
  abbrev heads' : List ℕ
  heads' = set heads slot (n + 1)

  abbrev nexts' : List ℕ
  nexts' = nexts ++ get_or heads slot 0 ∷ []

  -- the key that comes is the last one of its slot
  here : IsLast keys (length heads) (n + 1) slot (n + 1)
  here = record {
    within = omega arith;
    own = λ _. let at : n + 1 - 1 ≡ n = omega arith in ap (slot_at keys (length heads)) at ∙ sym is;
    none = λ place from to. absurd (omega (arith, from, to));
  }

  -- and another slot has the last one that it had
  other : (s : ℕ) → s < length heads → s ≢ slot → IsLast keys (length heads) (n + 1) s (get_or heads s 0)
  other s lt apart =
      let was = h.lasts s lt in
      record {
        within = omega (arith, was.within);
        own = was.own;
        none = λ place from to. by place from (below_or place n to);
      }
    where
      by : (place : ℕ) → get_or heads s 0 ≤ place → (place < n) ⊎ (place ≡ n) → slot_at keys (length heads) place ≢ s
      by place from (inl less) = (h.lasts s lt).none place from less
      by place from (inr same) = λ e. apart (sym e ∙ ap (slot_at keys (length heads)) same ∙ sym is)

  heads_more : (s : ℕ) → s < length heads → IsLast keys (length heads) (n + 1) s (get_or heads' s 0)
  heads_more s lt = by (s == slot) refl
    where
      by : (b : Bool) → (s == slot) ≡ b → IsLast keys (length heads) (n + 1) s (get_or heads' s 0)
      by true e =
          let same : s ≡ slot = grind (arith, e) in
          subst (λ (x : ℕ). IsLast keys (length heads) (n + 1) x (get_or heads' x 0)) (sym same)
          (subst (λ (x : ℕ). IsLast keys (length heads) (n + 1) slot x) (sym (get_or-set_same heads slot (n + 1) 0 low)) here)
      by false e =
          let apart : s ≢ slot = grind (arith, e) in
          subst (λ (x : ℕ). IsLast keys (length heads) (n + 1) s x) (sym (get_or-set_other heads slot s (n + 1) 0 apart)) (other s lt apart)

  nexts_more : (place : ℕ) → place < n + 1 → IsLast keys (length heads) place (slot_at keys (length heads) place) (get_or nexts' place 0)
  nexts_more place lt = by (below_or place n lt)
    where
      by : (place < n) ⊎ (place ≡ n) → IsLast keys (length heads) place (slot_at keys (length heads) place) (get_or nexts' place 0)
      by (inl less) =
          subst (λ (x : ℕ). IsLast keys (length heads) place (slot_at keys (length heads) place) x)
          (sym (get_or-append nexts (get_or heads slot 0 ∷ []) 0 place (omega (arith, less, h.count)))) (h.befores place less)
      by (inr same) =
          let read : get_or nexts' n 0 ≡ get_or heads slot 0 = ap (get_or nexts' n) refl ∙ ap (λ (k : ℕ). get_or nexts' k 0) (sym h.count) ∙ get_or-append_seam nexts (get_or heads slot 0) [] 0 in
          subst (λ (p : ℕ). IsLast keys (length heads) p (slot_at keys (length heads) p) (get_or nexts' p 0)) (sym same)
          (subst (λ (s : ℕ). IsLast keys (length heads) n s (get_or nexts' n 0)) is
          (subst (λ (x : ℕ). IsLast keys (length heads) n slot x) (sym read) (h.lasts slot low)))

  -- one more key has come
  pub linked_more : AreLinked keys heads' nexts' (n + 1)
  linked_more =
      let many : length heads' ≡ length heads = length-set heads slot (n + 1) in
      record {
        count = length-append nexts (get_or heads slot 0 ∷ []) ∙ omega (arith, h.count);
        lasts = λ s lt. subst (λ (size : ℕ). IsLast keys size (n + 1) s (get_or heads' s 0)) (sym many) (heads_more s (omega (arith, lt, many)));
        befores = λ place lt. subst (λ (size : ℕ). IsLast keys size place (slot_at keys size place) (get_or nexts' place 0)) (sym many) (nexts_more place lt);
      }

-- ---- the walk along a slot

-- the walk has come to before `at`: what it left behind is of other keys or other slots
pub record IsWalked (keys : List (List ℕ)) (slots slot : ℕ) (key : List ℕ) (at : ℕ) : Type 0 where
  pub within : at ≤ length keys
  pub own : at ≢ 0 → slot_at keys slots (at - 1) ≡ slot
  pub missed : (place : ℕ) → at ≤ place → place < length keys → slot_at keys slots place ≡ slot → get_or keys place [] ≢ key

pub walk_first : (keys : List (List ℕ)) (slots slot : ℕ) (key : List ℕ) (at : ℕ) → IsLast keys slots (length keys) slot at → IsWalked keys slots slot key at
walk_first keys slots slot key at last = record {
  within = last.within;
  own = last.own;
  missed = λ place from to e. absurd (last.none place from to e);
}

pub walk_next : (keys : List (List ℕ)) (slots slot : ℕ) (key : List ℕ) (at next : ℕ) → IsWalked keys slots slot key at → at ≢ 0
    → IsLast keys slots (at - 1) (slot_at keys slots (at - 1)) next → get_or keys (at - 1) [] ≢ key → IsWalked keys slots slot key next
walk_next keys slots slot key at next walked some last differs = record {
  within = omega (arith, last.within, walked.within);
  own = λ e. last.own e ∙ walked.own some;
  missed = λ place from to e. by place from to e (three place (at - 1));
}
  where
    by : (place : ℕ) → next ≤ place → place < length keys → slot_at keys slots place ≡ slot → (place < at - 1) ⊎ ((place ≡ at - 1) ⊎ (at - 1 < place)) → get_or keys place [] ≢ key
    by place from to e (inl less) = absurd (last.none place from less (e ∙ sym (walked.own some)))
    by place from to e (inr (inl same)) = subst (λ (p : ℕ). get_or keys p [] ≢ key) (sym same) differs
    by place from to e (inr (inr more)) = walked.missed place (omega (arith, more)) to e

-- a key that was not met is not there
pub walk_end : (keys : List (List ℕ)) (slots slot : ℕ) (key : List ℕ) → IsWalked keys slots slot key 0 → slot ≡ slot_of slots (hash_of key) → (place : ℕ) → place < length keys → get_or keys place [] ≢ key
walk_end keys slots slot key walked is place lt same = walked.missed place (omega arith) lt (ap (λ (k : List ℕ). slot_of slots (hash_of k)) same ∙ sym is) same

-- ---- entries, and their keys

pub length_keys : {S : Type 0} (pairs : List (List ℕ × S)) → length (keys_of pairs) ≡ length pairs
length_keys {S} pairs = length-map pairs (λ (e : List ℕ × S). e.0)

module _ {O S C R : Type 0} where
  pub length_pairs : (entries : List (Entry O S C R)) → length (keys_of (pairs_of entries)) ≡ length entries
  length_pairs entries = length_keys (pairs_of entries) ∙ length-map entries (λ (e : Entry O S C R). (e.key, e.state))

  -- an entry that was read is one of the pairs
  pub entry_there : (entries : List (Entry O S C R)) (place : ℕ) (e : Entry O S C R) → place < length entries → e ≡ get_or entries place e → slice_get (pairs_of entries) place ≡ Some (e.key, e.state)
  entry_there entries place e lt read =
      slice_get-map (λ (x : Entry O S C R). (x.key, x.state)) entries place
      ∙ ap (option_map (λ (x : Entry O S C R). (x.key, x.state))) (slice_get-get_or entries place e lt ∙ ap Some (sym read))

-- a pair has its key at its place
pub key_there : {S : Type 0} (pairs : List (List ℕ × S)) (place : ℕ) (key : List ℕ) (state : S) → slice_get pairs place ≡ Some (key, state) → (place < length (keys_of pairs)) × (get_or (keys_of pairs) place [] ≡ key)
key_there {S} pairs place key state e = (
  omega (arith, slice_get_within pairs place (key, state) e, length_keys pairs),
  get_or_from_slice_get (keys_of pairs) place key [] (slice_get-map (λ (x : List ℕ × S). x.0) pairs place ∙ ap (option_map (λ (x : List ℕ × S). x.0)) e),
)
