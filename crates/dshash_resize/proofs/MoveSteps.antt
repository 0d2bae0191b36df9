-- The steps of a move: it begins with all keys in the former chains, an item goes over, and it ends with none left.
use Rattle.std.proofs.Common.{◌≡◌, ◌≢◌, ℕ, suc, ◌+◌, ◌-◌, ◌^◌, ◌<◌, ◌≤◌, Bool, true, false, cond, List, [], ◌∷◌, map, length, set, Option, Some, None, is_some, IsSome, refl, sym, ap, subst, ◌∙◌, arith, ⊎_elim, nat_cmp}
use Rattle.std.proofs.lemmas.List.{get_or-set_same, get_or-set_other}
use Rattle.std.proofs.Math.ListN.{length-set}
use Rattle.std.proofs.lemmas.Nat.{pow_below}
use Rattle.std.specs.Cmp.Lexicographic.{slice_cmp, nat_list_cmp_total}
use Rattle.std.specs.FinMap as fin
use Rattle.dshash_core.specs.Chains.{Item}
use Rattle.dshash_core.specs.Hung.{Hung, chain_of, with_chain, IsSpot}
use Rattle.dshash_core.specs.Cells.{KeyMap, PartitionView, IsRoomy, AreCells, cells_of, entry_of, full_above}
use Rattle.dshash_core.proofs.Chains.{same_or_not}
use Rattle.dshash_core.proofs.Maps.{same_key, other_key, keys_same_or_not}
use Rattle.dshash_core.proofs.Flats.{spot_get, spot_counted, taken_cells, taken_map}
use Rattle.dshash_core.proofs.Takes.{all_empty}
use Rattle.dshash_resize.specs.Moving.{either_of, IsMoving, IsMovedOn}

key_antisymmetric : fin.IsAntisymmetric (slice_cmp nat_cmp)
key_antisymmetric = fin.slice_cmp-IsAntisymmetric fin.nat_cmp-IsAntisymmetric

put_here : {S : Type 0} (m : KeyMap S) (k : List ℕ) (v : S) (q : List ℕ) → q ≡ k → fin.get (fin.insert m k v) q ≡ Some v
put_here m k v q e = fin.get-insert nat_list_cmp_total m k v q ∙ ap (λ (b : Bool). cond b (Some v) (fin.get m q)) (same_key q k e)

put_there : {S : Type 0} (m : KeyMap S) (k : List ℕ) (v : S) (q : List ℕ) → q ≢ k → fin.get (fin.insert m k v) q ≡ fin.get m q
put_there m k v q n = fin.get-insert nat_list_cmp_total m k v q ∙ ap (λ (b : Bool). cond b (Some v) (fin.get m q)) (other_key q k n)

gone_here : {S : Type 0} (m : KeyMap S) (k q : List ℕ) → q ≡ k → fin.get (fin.remove m k) q ≡ None
gone_here m k q e = fin.get-remove nat_list_cmp_total m k q ∙ ap (λ (b : Bool). cond b None (fin.get m q)) (same_key q k e)

gone_there : {S : Type 0} (m : KeyMap S) (k q : List ℕ) → q ≢ k → fin.get (fin.remove m k) q ≡ fin.get m q
gone_there m k q n = fin.get-remove nat_list_cmp_total m k q ∙ ap (λ (b : Bool). cond b None (fin.get m q)) (other_key q k n)

-- a key that is in the former chains is not in the partition yet
not_yet : {S : Type 0} (o p : Option S) (s : S) → (IsSome o → p ≡ None) → p ≡ Some s → o ≡ None
not_yet (Some x) p s h e = let n : p ≡ None = h refl in cc
not_yet None p s h e = refl

abbrev pub first_spot : (from : Hung) (i : ℕ) (it : Item) (rest : List Item) → chain_of from i ≡ it ∷ rest → IsSpot from i (from.slice + i) it
first_spot from i it rest e = record { before = []; after = rest; chain = e; behind = refl }

module _ {S : Type 0} (decoded : List ℕ → S) (value_words former total : ℕ) (all : KeyMap S) (p : PartitionView S) (from next : Hung) (i : ℕ) (it : Item) (rest : List Item)
    (m : IsMoving decoded value_words former total all p from) (l : i < length from.chains) (chain : chain_of from i ≡ it ∷ rest) (without : next ≡ with_chain from i rest) where
  abbrev spot : IsSpot from i (from.slice + i) it
  spot = first_spot from i it rest chain

  some_left : 0 < m.left
  some_left = spot_counted former m.left value_words from m.chains i l (from.slice + i) it spot

  in_chains : fin.get (cells_of decoded from.chains) it.key ≡ Some (decoded it.value)
  in_chains = spot_get former m.left value_words from m.chains i l (from.slice + i) it spot decoded

  -- its key is new to the partition
  pub new_key : fin.get p.cells it.key ≡ None
  new_key = not_yet (fin.get p.cells it.key) (fin.get (cells_of decoded from.chains) it.key) (decoded it.value) (m.apart it.key) in_chains

  pub new_here : fin.contains_key p.cells it.key ≡ false
  new_here = ap (λ (o : Option S). is_some o) new_key

  pub has_room : IsRoomy p.size (fin.len p.cells + 1)
  has_room = record { from = m.roomy.from; to = m.roomy.to; few = λ z. let f : total ≤ full_above p.size + 1 = m.roomy.few z in omega (arith, m.counted, some_left) }

  pub goes_over : IsMoving decoded value_words former total all (record p { cells = fin.insert p.cells it.key (decoded it.value) }) next
  goes_over =
      let less : m.left - 1 + 1 ≡ m.left = omega (arith, some_left) in
      let now : cells_of decoded next.chains ≡ fin.remove (cells_of decoded from.chains) it.key =
      ap (λ (u : Hung). cells_of decoded u.chains) without ∙ taken_map former m.left value_words from m.chains i l (from.slice + i) it spot decoded in
      let more : fin.len (fin.insert p.cells it.key (decoded it.value)) ≡ fin.len p.cells + 1 =
      fin.len-insert nat_list_cmp_total p.cells it.key (decoded it.value) ∙ ap (λ (o : Option S). cond (is_some o) (fin.len p.cells) (fin.len p.cells + 1)) new_key in
      record {
        left = m.left - 1;
        chains = subst (λ (u : Hung). AreCells former (m.left - 1) value_words u) (sym without) (taken_cells former m.left value_words from m.chains i l (from.slice + i) it spot (m.left - 1) less);
        counted = omega (arith, more, m.counted, some_left);
        roomy = m.roomy;
        whole = λ q. m.whole q ∙ ⊎_elim
            (λ (e : q ≡ it.key). (λ t. either_of (fin.get p.cells (e t)) (fin.get (cells_of decoded from.chains) (e t)))
            ∙ (λ t. either_of (new_key t) (in_chains t))
            ∙ ap (λ (o : Option S). either_of o (fin.get (cells_of decoded next.chains) q)) (sym (put_here p.cells it.key (decoded it.value) q e)))
            (λ (n : q ≢ it.key).
            (λ t. either_of (sym (put_there p.cells it.key (decoded it.value) q n) t) (sym (ap (λ (u : KeyMap S). fin.get u q) now ∙ gone_there (cells_of decoded from.chains) it.key q n) t)))
            (keys_same_or_not q it.key);
        apart = λ q h. ap (λ (u : KeyMap S). fin.get u q) now ∙ ⊎_elim
            (λ (e : q ≡ it.key). gone_here (cells_of decoded from.chains) it.key q e)
            (λ (n : q ≢ it.key). gone_there (cells_of decoded from.chains) it.key q n ∙ m.apart q (sym (ap (λ (o : Option S). is_some o) (put_there p.cells it.key (decoded it.value) q n)) ∙ h))
            (keys_same_or_not q it.key);
        seed = ap (λ (u : Hung). u.layout.seed) without ∙ m.seed;
        key_words = ap (λ (u : Hung). u.layout.key_words) without ∙ m.key_words;
        item_bytes = ap (λ (u : Hung). u.layout.item_bytes) without ∙ m.item_bytes;
      }

-- the other buckets' chains stay empty
pub stays_empty : (from next : Hung) (i : ℕ) (rest : List Item) (j : ℕ) → next ≡ with_chain from i rest → j ≢ i → chain_of from j ≡ [] → chain_of next j ≡ []
stays_empty from next i rest j e n h = ap (λ (u : Hung). chain_of u j) e ∙ get_or-set_other from.chains i j rest [] n ∙ h

-- a move begins
pub begins : {S : Type 0} (decoded : List ℕ → S) (value_words former : ℕ) (all : KeyMap S) (p : PartitionView S) (from : Hung) → AreCells former (fin.len all) value_words from → cells_of decoded from.chains ≡ all
    → p.cells ≡ fin.empty → IsRoomy p.size (fin.len all) → from.layout.seed ≡ p.seed → from.layout.key_words ≡ p.key_words → from.layout.item_bytes ≡ p.item_bytes → IsMoving decoded value_words former (fin.len all) all p from
begins {S} decoded value_words former all p from chains is empty roomy sd kw ib =
    let none : (q : List ℕ) → fin.get p.cells q ≡ None = λ q. ap (λ (u : KeyMap S). fin.get u q) empty ∙ fin.get-empty (slice_cmp nat_cmp) q in
    record {
      left = fin.len all;
      chains = chains;
      counted = ap (λ (u : KeyMap S). fin.len u + fin.len all) empty ∙ (let z : fin.len {R = slice_cmp nat_cmp} (fin.empty {X = S}) ≡ 0 = fin.len-empty (slice_cmp nat_cmp) S in omega arith);
      roomy = roomy;
      whole = λ q. ap (λ (u : KeyMap S). fin.get u q) (sym is) ∙ ap (λ (o : Option S). either_of o (fin.get (cells_of decoded from.chains) q)) (sym (none q));
      apart = λ q h. let f : is_some (fin.get p.cells q) ≡ false = ap (λ (o : Option S). is_some o) (none q) in let z : true ≡ false = sym h ∙ f in cc;
      seed = sd;
      key_words = kw;
      item_bytes = ib;
    }

-- and ends when no chain has an item left
pub ends : {S : Type 0} (decoded : List ℕ → S) (value_words former total : ℕ) (all : KeyMap S) (p : PartitionView S) (from : Hung) → IsMoving decoded value_words former total all p from
    → ((i : ℕ) → i < length from.chains → chain_of from i ≡ []) → p.cells ≡ all
ends {S} decoded value_words former total all p from m none =
    let gone : (q : List ℕ) → fin.get (cells_of decoded from.chains) q ≡ None = λ q.
    ap (λ (items : List Item). fin.get {R = slice_cmp nat_cmp} (fin.from_entries (map (entry_of decoded) items)) q) (all_empty from.chains none) ∙ fin.get-empty (slice_cmp nat_cmp) q in
    fin.same_map nat_list_cmp_total key_antisymmetric p.cells all (λ q. sym (m.whole q ∙ ap (λ (o : Option S). either_of (fin.get p.cells q) o) (gone q) ∙ or_none (fin.get p.cells q)))
  where
    or_none : (o : Option S) → either_of o None ≡ o
    or_none (Some s) = refl
    or_none None = refl

-- a larger partition has room for as many keys
pub grows : (size to keys : ℕ) → IsRoomy size keys → size < to → to ≤ 20 → IsRoomy to keys
grows size to keys r more most =
    let low : 7 ≤ size = r.from in
    let powers : 2 ^ (size - 7) < 2 ^ (to - 7) = pow_below (size - 7) (to - 7) (omega arith) in
    let now : keys ≤ full_above size + 1 = r.few (omega arith) in
    record { from = omega arith; to = most; few = λ z. omega (arith, powers, now) }

-- going on from where the move has come to
pub moved_on : {S : Type 0} (decoded : List ℕ → S) (value_words : ℕ) (q p r : PartitionView S) (first from next : Hung) (i : ℕ) (it : Item) (rest : List Item)
    → IsMovedOn decoded value_words q first p from → i < length from.chains → chain_of from i ≡ it ∷ rest → next ≡ with_chain from i rest → r ≡ record p { cells = fin.insert p.cells it.key (decoded it.value) }
    → IsMovedOn decoded value_words q first r next
moved_on {S} decoded value_words q p r first from next i it rest m l chain without taken = record {
  same = taken ∙ (λ t. record (m.same t) { cells = fin.insert p.cells it.key (decoded it.value) }) ∙ (λ t. record q { cells = (sym taken t).cells });
  chains_same = without ∙ (λ t. record (m.chains_same t) { chains = set from.chains i rest }) ∙ (λ t. record first { chains = (sym without t).chains });
  buckets_same = ap (λ (u : Hung). length u.chains) without ∙ length-set from.chains i rest ∙ m.buckets_same;
  moving = λ former total all k. subst (λ (w : PartitionView S). IsMoving decoded value_words former total all w next) (sym taken)
      (goes_over decoded value_words former total all p from next i it rest (m.moving former total all k) l chain without);
}

pub shorter : (from next : Hung) (i : ℕ) (it : Item) (rest : List Item) → i < length from.chains → chain_of from i ≡ it ∷ rest → next ≡ with_chain from i rest → length (chain_of next i) < length (chain_of from i)
shorter from next i it rest l chain without =
    let now : length (chain_of next i) ≡ length rest = ap (λ (u : Hung). length (chain_of u i)) without ∙ ap (λ (c : List Item). length c) (get_or-set_same from.chains i rest [] l) in
    let was : length (chain_of from i) ≡ suc (length rest) = ap (λ (c : List Item). length c) chain in
    omega arith

pub still_empty : (from next : Hung) (i : ℕ) (it : Item) (rest : List Item) (j : ℕ) → chain_of from i ≡ it ∷ rest → next ≡ with_chain from i rest → chain_of from j ≡ [] → chain_of next j ≡ []
still_empty from next i it rest j chain without none = ⊎_elim
    (λ (e : j ≡ i). let z : it ∷ rest ≡ [] = sym chain ∙ ap (λ (n : ℕ). chain_of from n) (sym e) ∙ none in cc)
    (λ (n : j ≢ i). stays_empty from next i rest j without n none)
    (same_or_not j i)

-- the items' shape is the partition's
pub layout_is : {S : Type 0} (decoded : List ℕ → S) (value_words former total : ℕ) (all : KeyMap S) (p : PartitionView S) (from : Hung) → IsMoving decoded value_words former total all p from
    → from.layout ≡ record { seed = p.seed; key_words = p.key_words; value_words = value_words; item_bytes = p.item_bytes }
layout_is decoded value_words former total all p from m = λ t. record { seed = m.seed t; key_words = m.key_words t; value_words = m.chains.values t; item_bytes = m.item_bytes t }
