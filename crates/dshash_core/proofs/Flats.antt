-- Chains of items that stand for a map, when one chain changes.
use Rattle.std.proofs.Common.{◌≡◌, ◌≢◌, ℕ, zero, suc, ◌+◌, ◌<◌, ◌≤◌, ◌⊎◌, inl, inr, List, [], ◌∷◌, ◌++◌, map, length, get_or, set, Some, None, refl, sym, ap, subst, ◌∙◌, arith, ⊎_elim, append_assoc, length-append}
use Rattle.std.proofs.lemmas.List.{get_or-set_same, get_or-set_other}
use Rattle.std.proofs.Math.ListN.{length-set}
use Rattle.std.specs.FinMap as fin
use Rattle.dshash_core.specs.Key.{seeded_hash}
use Rattle.dshash_core.specs.Chains.{Among, Item}
use Rattle.dshash_core.specs.Hung.{Hung, chain_of, with_chain, IsSpot, HasNoItem}
use Rattle.dshash_core.specs.Cells.{KeyMap, bucket_of, full_above, IsRoomy, all_items, entry_of, cells_of, AreKeyed, AreCells}
use Rattle.dshash_core.proofs.Chains.{same_or_not}
use Rattle.dshash_core.proofs.Views.{among_split, among_more, among_here}
use Rattle.dshash_core.proofs.Maps.{get_found, get_missing, table_len, table_pushed, table_taken, table_written, keyed_pushed, keyed_taken, keyed_written}

-- where one chain stands among all items
record IsCut (chains : List (List Item)) (i : ℕ) : Type 0 where
  front : List Item
  back : List Item
  whole : all_items chains ≡ front ++ (get_or chains i [] ++ back)
  changed : (c : List Item) → all_items (set chains i c) ≡ front ++ (c ++ back)

cut : (chains : List (List Item)) (i : ℕ) → i < length chains → IsCut chains i
cut [] i l = absurd (omega arith)
cut (c ∷ cs) zero l = record { front = []; back = all_items cs; whole = refl; changed = λ d. refl }
cut (c ∷ cs) (suc i) l =
    let r = cut cs i (omega arith) in
    record {
      front = c ++ r.front;
      back = r.back;
      whole = ap (λ (x : List Item). c ++ x) r.whole ∙ sym (append_assoc c r.front (get_or cs i [] ++ r.back));
      changed = λ d. ap (λ (x : List Item). c ++ x) (r.changed d) ∙ sym (append_assoc c r.front (d ++ r.back));
    }

among_front : {A : Type 0} (x : A) (xs ys : List A) → Among x xs → Among x (xs ++ ys)
among_front x [] ys m = absurd m
among_front x (y ∷ xs) ys (inl e) = inl e
among_front x (y ∷ xs) ys (inr m) = inr (among_front x xs ys m)

among_back : {A : Type 0} (x : A) (xs ys : List A) → Among x ys → Among x (xs ++ ys)
among_back x [] ys m = m
among_back x (y ∷ xs) ys m = inr (among_back x xs ys m)

among_either : {A : Type 0} (x : A) (xs ys : List A) → Among x (xs ++ ys) → Among x xs ⊎ Among x ys
among_either x [] ys m = inr m
among_either x (y ∷ xs) ys (inl e) = inl (inl e)
among_either x (y ∷ xs) ys (inr m) = ⊎_elim (λ n. inl (inr n)) (λ n. inr n) (among_either x xs ys m)

-- an item of all is one of some chain
pub all_in : (chains : List (List Item)) (it : Item) → Among it (all_items chains) → (i : ℕ) × (i < length chains) × Among it (get_or chains i [])
all_in [] it m = absurd m
all_in (c ∷ cs) it m = ⊎_elim
    (λ (n : Among it c). (0, omega arith, n))
    (λ (n : Among it (all_items cs)). let r = all_in cs it n in (suc r.0, (let l : r.0 < length cs = r.1 in let s : suc r.0 < suc (length cs) = omega arith in s), r.2))
    (among_either it c (all_items cs) m)

pub in_all : (chains : List (List Item)) (i : ℕ) (it : Item) → i < length chains → Among it (get_or chains i []) → Among it (all_items chains)
in_all [] i it l m = absurd (omega arith)
in_all (c ∷ cs) zero it l m = among_front it c (all_items cs) m
in_all (c ∷ cs) (suc i) it l m = among_back it c (all_items cs) (in_all cs i it (omega arith) m)

module _ (size count value_words : ℕ) (h : Hung) (k : AreCells size count value_words h) where
  -- a key that is not in its bucket is nowhere
  pub nowhere : (i : ℕ) (key : List ℕ) → i ≡ bucket_of size (seeded_hash h.layout.seed key) → HasNoItem h i key → (x : Item) → Among x (all_items h.chains) → x.key ≢ key
  nowhere i key is none x m e =
      let p = all_in h.chains x m in
      let j : p.0 ≡ i = sym (k.placed p.0 x p.1 p.2) ∙ ap (λ (y : List ℕ). bucket_of size (seeded_hash h.layout.seed y)) e ∙ sym is in
      none x (subst (λ (n : ℕ). Among x (chain_of h n)) j p.2) e

  module _ (i : ℕ) (l : i < length h.chains) where
    -- the items of a changed chain
    changed_chain : (c : List Item) (j : ℕ) (x : Item) → Among x (chain_of (with_chain h i c) j) → ((j ≡ i) × Among x c) ⊎ Among x (chain_of h j)
    changed_chain c j x m = ⊎_elim
        (λ (e : j ≡ i). inl (e, subst (λ (d : List Item). Among x d) (ap (λ (n : ℕ). get_or (set h.chains i c) n []) e ∙ get_or-set_same h.chains i c [] l) m))
        (λ (n : j ≢ i). inr (subst (λ (d : List Item). Among x d) (get_or-set_other h.chains i j c [] n) m))
        (same_or_not j i)

    changed_placed : (c : List Item) → ((x : Item) → Among x c → bucket_of size (seeded_hash h.layout.seed x.key) ≡ i) → (j : ℕ) (x : Item) → j < length (set h.chains i c) → Among x (chain_of (with_chain h i c) j) → bucket_of size (seeded_hash h.layout.seed x.key) ≡ j
    changed_placed c own j x b m = ⊎_elim
        (λ (s : (j ≡ i) × Among x c). own x s.1 ∙ sym s.0)
        (λ (n : Among x (chain_of h j)). k.placed j x (let e : length (set h.chains i c) ≡ length h.chains = length-set h.chains i c in omega arith) n)
        (changed_chain c j x m)

    module _ (it : Item) (own : bucket_of size (seeded_hash h.layout.seed it.key) ≡ i) (fresh : (x : Item) → Among x (all_items h.chains) → x.key ≢ it.key) where
      in_front : (r : IsCut h.chains i) (x : Item) → Among x (r.front ++ (chain_of h i ++ r.back)) → x.key ≢ it.key
      in_front r x m = fresh x (subst (λ (d : List Item). Among x d) (sym r.whole) m)

      pub pushed_cells : IsRoomy size (count + 1) → AreCells size (count + 1) value_words (with_chain h i (it ∷ chain_of h i))
      pushed_cells roomy =
          let r = cut h.chains i l in
          let next : all_items (set h.chains i (it ∷ chain_of h i)) ≡ r.front ++ it ∷ (chain_of h i ++ r.back) = r.changed (it ∷ chain_of h i) in
          record {
            buckets = length-set h.chains i (it ∷ chain_of h i) ∙ k.buckets;
            placed = changed_placed (it ∷ chain_of h i) (λ x m. ⊎_elim (λ (e : x ≡ it). ap (λ (y : Item). bucket_of size (seeded_hash h.layout.seed y.key)) e ∙ own) (λ n. k.placed i x l n) m);
            keyed = subst (λ (d : List Item). AreKeyed d) (sym next) (keyed_pushed it r.front (chain_of h i ++ r.back) (subst (λ (d : List Item). AreKeyed d) r.whole k.keyed) (in_front r));
            counted = omega (arith, k.counted, ap length next, ap length r.whole, length-append r.front (it ∷ (chain_of h i ++ r.back)), length-append r.front (chain_of h i ++ r.back));
            values = k.values;
            roomy = roomy;
          }

      pub pushed_map : {S : Type 0} (decoded : List ℕ → S) → cells_of decoded (set h.chains i (it ∷ chain_of h i)) ≡ fin.insert (cells_of decoded h.chains) it.key (decoded it.value)
      pushed_map {S} decoded =
          let r = cut h.chains i l in
          let table : List Item → KeyMap S = λ items. fin.from_entries (map (entry_of decoded) items) in
          ap table (r.changed (it ∷ chain_of h i))
          ∙ table_pushed decoded it r.front (chain_of h i ++ r.back) (in_front r)
          ∙ ap (λ (d : List Item). fin.insert (table d) it.key (decoded it.value)) (sym r.whole)

    module _ (link : ℕ) (it : Item) (s : IsSpot h i link it) where
      whole : (r : IsCut h.chains i) → all_items h.chains ≡ (r.front ++ s.before) ++ it ∷ (s.after ++ r.back)
      whole r = r.whole ∙ ap (λ (d : List Item). r.front ++ (d ++ r.back)) s.chain ∙ around r.front s.before (it ∷ s.after) r.back
        where
          around : (a b c d : List Item) → a ++ ((b ++ c) ++ d) ≡ (a ++ b) ++ (c ++ d)
          around a b c d = ap (λ (x : List Item). a ++ x) (append_assoc b c d) ∙ sym (append_assoc a b (c ++ d))

      changed_whole : (r : IsCut h.chains i) (middle : List Item) → all_items (set h.chains i (s.before ++ middle)) ≡ (r.front ++ s.before) ++ (middle ++ r.back)
      changed_whole r middle = r.changed (s.before ++ middle) ∙ ap (λ (x : List Item). r.front ++ x) (append_assoc s.before middle r.back) ∙ sym (append_assoc r.front s.before (middle ++ r.back))

      here : Among it (chain_of h i)
      here = subst (λ (d : List Item). Among it d) (sym s.chain) (among_here it s.before s.after)

      pub spot_get : {S : Type 0} (decoded : List ℕ → S) → fin.get (cells_of decoded h.chains) it.key ≡ Some (decoded it.value)
      spot_get {S} decoded =
          let r = cut h.chains i l in
          let table : List Item → KeyMap S = λ items. fin.from_entries (map (entry_of decoded) items) in
          ap (λ (d : List Item). fin.get (table d) it.key) (whole r)
          ∙ get_found decoded it (r.front ++ s.before) (s.after ++ r.back) (subst (λ (d : List Item). AreKeyed d) (whole r) k.keyed)

      pub spot_counted : 0 < count
      spot_counted = let r = cut h.chains i l in omega (arith, k.counted, ap length (whole r), length-append (r.front ++ s.before) (it ∷ (s.after ++ r.back)))

      fewer : (n : ℕ) → n + 1 ≡ count → IsRoomy size n
      fewer n e = record { from = k.roomy.from; to = k.roomy.to; few = λ z. let f : count ≤ full_above size + 1 = k.roomy.few z in omega arith }

      pub taken_cells : (n : ℕ) → n + 1 ≡ count → AreCells size n value_words (with_chain h i (s.before ++ s.after))
      taken_cells n e =
          let r = cut h.chains i l in
          record {
            buckets = length-set h.chains i (s.before ++ s.after) ∙ k.buckets;
            placed = changed_placed (s.before ++ s.after) (λ x m. k.placed i x l (subst (λ (d : List Item). Among x d) (sym s.chain) (among_more x it s.before s.after m)));
            keyed = subst (λ (d : List Item). AreKeyed d) (sym (changed_whole r s.after)) (keyed_taken it (r.front ++ s.before) (s.after ++ r.back) (subst (λ (d : List Item). AreKeyed d) (whole r) k.keyed));
            counted = omega (arith, e, k.counted, ap length (whole r), ap length (changed_whole r s.after), length-append (r.front ++ s.before) (it ∷ (s.after ++ r.back)), length-append (r.front ++ s.before) (s.after ++ r.back));
            values = k.values;
            roomy = fewer n e;
          }

      pub taken_map : {S : Type 0} (decoded : List ℕ → S) → cells_of decoded (set h.chains i (s.before ++ s.after)) ≡ fin.remove (cells_of decoded h.chains) it.key
      taken_map {S} decoded =
          let r = cut h.chains i l in
          let table : List Item → KeyMap S = λ items. fin.from_entries (map (entry_of decoded) items) in
          ap table (changed_whole r s.after)
          ∙ table_taken decoded it (r.front ++ s.before) (s.after ++ r.back) (subst (λ (d : List Item). AreKeyed d) (whole r) k.keyed)
          ∙ ap (λ (d : List Item). fin.remove (table d) it.key) (sym (whole r))

      pub written_cells : (value : List ℕ) → AreCells size count value_words (with_chain h i (s.before ++ record it { value = value } ∷ s.after))
      written_cells value =
          let r = cut h.chains i l in
          let new : Item = record it { value = value } in
          record {
            buckets = length-set h.chains i (s.before ++ new ∷ s.after) ∙ k.buckets;
            placed = changed_placed (s.before ++ new ∷ s.after) (λ x m. ⊎_elim
                (λ (e : x ≡ new). ap (λ (y : Item). bucket_of size (seeded_hash h.layout.seed y.key)) e ∙ k.placed i it l here)
                (λ (n : Among x (s.before ++ s.after)). k.placed i x l (subst (λ (d : List Item). Among x d) (sym s.chain) (among_more x it s.before s.after n)))
                (among_split x new s.before s.after m));
            keyed = subst (λ (d : List Item). AreKeyed d) (sym (changed_whole r (new ∷ s.after))) (keyed_written it value (r.front ++ s.before) (s.after ++ r.back) (subst (λ (d : List Item). AreKeyed d) (whole r) k.keyed));
            counted = omega (arith, k.counted, ap length (whole r), ap length (changed_whole r (new ∷ s.after)), length-append (r.front ++ s.before) (it ∷ (s.after ++ r.back)), length-append (r.front ++ s.before) (new ∷ (s.after ++ r.back)));
            values = k.values;
            roomy = k.roomy;
          }

      pub written_map : {S : Type 0} (decoded : List ℕ → S) (value : List ℕ) → cells_of decoded (set h.chains i (s.before ++ record it { value = value } ∷ s.after)) ≡ fin.insert (cells_of decoded h.chains) it.key (decoded value)
      written_map {S} decoded value =
          let r = cut h.chains i l in
          let new : Item = record it { value = value } in
          let table : List Item → KeyMap S = λ items. fin.from_entries (map (entry_of decoded) items) in
          ap table (changed_whole r (new ∷ s.after))
          ∙ table_written decoded it value (r.front ++ s.before) (s.after ++ r.back) (subst (λ (d : List Item). AreKeyed d) (whole r) k.keyed)
          ∙ ap (λ (d : List Item). fin.insert (table d) it.key (decoded value)) (sym (whole r))

  pub cells_len : {S : Type 0} (decoded : List ℕ → S) → fin.len (cells_of decoded h.chains) ≡ count
  cells_len decoded = table_len decoded (all_items h.chains) k.keyed ∙ sym k.counted

  pub cells_missing : {S : Type 0} (decoded : List ℕ → S) (key : List ℕ) → ((x : Item) → Among x (all_items h.chains) → x.key ≢ key) → fin.get (cells_of decoded h.chains) key ≡ None
  cells_missing decoded key none = get_missing decoded (all_items h.chains) key none
