-- The map of a list of items with different keys, when an item comes, goes or changes.
use Rattle.std.proofs.Common.{◌≡◌, ◌≢◌, ℕ, suc, ◌+◌, ◌⊎◌, inl, inr, Bool, true, false, cond, List, [], ◌∷◌, ◌++◌, filter, map, length, Option, Some, None, is_some, refl, sym, ap, ◌∙◌, arith, ⊎_elim, nat_cmp, Less, Equal, Greater, is_eq}
use Rattle.std.specs.Ordering.{eq_by_cmp}
use Rattle.std.specs.Cmp.{tied_itself}
use Rattle.std.specs.Cmp.Lexicographic.{slice_cmp, nat_list_cmp_total}
use Rattle.std.specs.FinMap as fin
use Rattle.dshash_core.specs.Chains.{Among, Item}
use Rattle.dshash_core.specs.Cells.{KeyMap, entry_of, AreKeyed}
use Rattle.dshash_core.proofs.Views.{among_split, among_more, among_here}

key_antisymmetric : fin.IsAntisymmetric (slice_cmp nat_cmp)
key_antisymmetric = fin.slice_cmp-IsAntisymmetric fin.nat_cmp-IsAntisymmetric

pub same_key : (q k : List ℕ) → q ≡ k → eq_by_cmp (slice_cmp nat_cmp) q k ≡ true
same_key q k e = ap (λ (x : List ℕ). is_eq (slice_cmp nat_cmp q x)) (sym e) ∙ ap is_eq (tied_itself nat_list_cmp_total q)

pub other_key : (q k : List ℕ) → q ≢ k → eq_by_cmp (slice_cmp nat_cmp) q k ≡ false
other_key q k n = elim (slice_cmp nat_cmp q k) as (λ r. slice_cmp nat_cmp q k ≡ r → is_eq r ≡ false) [
  | Less ↦ λ _. refl
  | Equal ↦ λ e. absurd (n (key_antisymmetric q k e))
  | Greater ↦ λ _. refl
] refl

-- keys are equal or not
pub keys_same_or_not : (q k : List ℕ) → (q ≡ k) ⊎ (q ≢ k)
keys_same_or_not q k = elim (slice_cmp nat_cmp q k) as (λ r. slice_cmp nat_cmp q k ≡ r → (q ≡ k) ⊎ (q ≢ k)) [
  | Less ↦ λ e. inr (λ s. let t : Less ≡ Equal = sym e ∙ ap (λ (x : List ℕ). slice_cmp nat_cmp q x) (sym s) ∙ tied_itself nat_list_cmp_total q in cc)
  | Equal ↦ λ e. inl (key_antisymmetric q k e)
  | Greater ↦ λ e. inr (λ s. let t : Greater ≡ Equal = sym e ∙ ap (λ (x : List ℕ). slice_cmp nat_cmp q x) (sym s) ∙ tied_itself nat_list_cmp_total q in cc)
] refl

module _ {S : Type 0} (decoded : List ℕ → S) where
  abbrev entries : List Item → List (List ℕ × S)
  entries items = map (entry_of decoded) items

  abbrev table : List Item → KeyMap S
  table items = fin.from_entries (entries items)

  abbrev look : List Item → List ℕ → Option S
  look items q = fin.find (slice_cmp nat_cmp) q (entries items)

  get_is : (items : List Item) (q : List ℕ) → fin.get (table items) q ≡ look items q
  get_is items q = fin.get-from_entries nat_list_cmp_total (entries items) q

  look_here : (it : Item) (items : List Item) (q : List ℕ) → q ≡ it.key → look (it ∷ items) q ≡ Some (decoded it.value)
  look_here it items q e = ap (λ (b : Bool). cond b (Some (decoded it.value)) (look items q)) (same_key q it.key e)

  look_there : (it : Item) (items : List Item) (q : List ℕ) → q ≢ it.key → look (it ∷ items) q ≡ look items q
  look_there it items q n = ap (λ (b : Bool). cond b (Some (decoded it.value)) (look items q)) (other_key q it.key n)

  look_miss : (items : List Item) (q : List ℕ) → ((x : Item) → Among x items → x.key ≢ q) → look items q ≡ None
  look_miss [] q h = refl
  look_miss (it ∷ items) q h = look_there it items q (λ e. h it (inl refl) (sym e)) ∙ look_miss items q (λ x m. h x (inr m))

  look_hit : (it : Item) (xs ys : List Item) → ((x : Item) → Among x xs → x.key ≢ it.key) → look (xs ++ it ∷ ys) it.key ≡ Some (decoded it.value)
  look_hit it [] ys h = look_here it ys it.key refl
  look_hit it (x ∷ xs) ys h = look_there x (xs ++ it ∷ ys) it.key (λ e. h x (inl refl) (sym e)) ∙ look_hit it xs ys (λ y m. h y (inr m))

  look_skip : (it : Item) (xs ys : List Item) (q : List ℕ) → q ≢ it.key → look (xs ++ it ∷ ys) q ≡ look (xs ++ ys) q
  look_skip it [] ys q n = look_there it ys q n
  look_skip it (x ∷ xs) ys q n = ap (λ (o : Option S). cond (eq_by_cmp (slice_cmp nat_cmp) q x.key) (Some (decoded x.value)) o) (look_skip it xs ys q n)

  -- what of keyed items stands before and behind one of them has other keys
  keyed_before : (it : Item) (xs ys : List Item) → AreKeyed (xs ++ it ∷ ys) → (x : Item) → Among x (xs ++ ys) → x.key ≢ it.key
  keyed_before it [] ys k x m = k.0 x m
  keyed_before it (y ∷ xs) ys k x (inl e) = λ s. k.0 it (among_here it xs ys) (sym s ∙ ap (λ (z : Item). z.key) e)
  keyed_before it (y ∷ xs) ys k x (inr m) = keyed_before it xs ys k.1 x m

  front : (x : Item) (xs ys : List Item) → Among x xs → Among x (xs ++ ys)
  front x [] ys m = absurd m
  front x (y ∷ xs) ys (inl e) = inl e
  front x (y ∷ xs) ys (inr m) = inr (front x xs ys m)

  -- the state of an item's key, and of a key that no item has
  pub get_found : (it : Item) (xs ys : List Item) → AreKeyed (xs ++ it ∷ ys) → fin.get (table (xs ++ it ∷ ys)) it.key ≡ Some (decoded it.value)
  get_found it xs ys k = get_is (xs ++ it ∷ ys) it.key ∙ look_hit it xs ys (λ x m. keyed_before it xs ys k x (front x xs ys m))

  pub get_missing : (items : List Item) (q : List ℕ) → ((x : Item) → Among x items → x.key ≢ q) → fin.get (table items) q ≡ None
  get_missing items q h = get_is items q ∙ look_miss items q h

  pub table_len : (items : List Item) → AreKeyed items → fin.len (table items) ≡ length items
  table_len [] k = fin.len-empty (slice_cmp nat_cmp) S
  table_len (it ∷ items) k =
      fin.len-insert nat_list_cmp_total (table items) it.key (decoded it.value)
      ∙ ap (λ (o : Option S). cond (is_some o) (fin.len (table items)) (fin.len (table items) + 1)) (get_missing items it.key k.0)
      ∙ (let e : fin.len (table items) ≡ length items = table_len items k.1 in let r : fin.len (table items) + 1 ≡ suc (length items) = omega arith in r)

  same : (m n : KeyMap S) → ((q : List ℕ) → fin.get m q ≡ fin.get n q) → m ≡ n
  same m n h = fin.same_map nat_list_cmp_total key_antisymmetric m n h

  put_here : (m : KeyMap S) (k : List ℕ) (v : S) (q : List ℕ) → q ≡ k → fin.get (fin.insert m k v) q ≡ Some v
  put_here m k v q e = fin.get-insert nat_list_cmp_total m k v q ∙ ap (λ (b : Bool). cond b (Some v) (fin.get m q)) (same_key q k e)

  put_there : (m : KeyMap S) (k : List ℕ) (v : S) (q : List ℕ) → q ≢ k → fin.get (fin.insert m k v) q ≡ fin.get m q
  put_there m k v q n = fin.get-insert nat_list_cmp_total m k v q ∙ ap (λ (b : Bool). cond b (Some v) (fin.get m q)) (other_key q k n)

  pub table_pushed : (it : Item) (xs ys : List Item) → ((x : Item) → Among x (xs ++ ys) → x.key ≢ it.key) → table (xs ++ it ∷ ys) ≡ fin.insert (table (xs ++ ys)) it.key (decoded it.value)
  table_pushed it xs ys fresh = same (table (xs ++ it ∷ ys)) (fin.insert (table (xs ++ ys)) it.key (decoded it.value)) (λ q. get_is (xs ++ it ∷ ys) q ∙ ⊎_elim
      (λ (e : q ≡ it.key). ap (look (xs ++ it ∷ ys)) e ∙ look_hit it xs ys (λ x m. fresh x (front x xs ys m)) ∙ sym (put_here (table (xs ++ ys)) it.key (decoded it.value) q e))
      (λ (n : q ≢ it.key). look_skip it xs ys q n ∙ sym (get_is (xs ++ ys) q) ∙ sym (put_there (table (xs ++ ys)) it.key (decoded it.value) q n))
      (keys_same_or_not q it.key))

  pub table_taken : (it : Item) (xs ys : List Item) → AreKeyed (xs ++ it ∷ ys) → table (xs ++ ys) ≡ fin.remove (table (xs ++ it ∷ ys)) it.key
  table_taken it xs ys k = same (table (xs ++ ys)) (fin.remove (table (xs ++ it ∷ ys)) it.key) (λ q. sym (
      fin.get-remove nat_list_cmp_total (table (xs ++ it ∷ ys)) it.key q ∙ ⊎_elim
      (λ (e : q ≡ it.key). ap (λ (b : Bool). cond b None (fin.get (table (xs ++ it ∷ ys)) q)) (same_key q it.key e) ∙ sym (get_missing (xs ++ ys) q (λ x m s. keyed_before it xs ys k x m (s ∙ e))))
      (λ (n : q ≢ it.key). ap (λ (b : Bool). cond b None (fin.get (table (xs ++ it ∷ ys)) q)) (other_key q it.key n) ∙ get_is (xs ++ it ∷ ys) q ∙ look_skip it xs ys q n ∙ sym (get_is (xs ++ ys) q))
      (keys_same_or_not q it.key)))

  pub table_written : (it : Item) (value : List ℕ) (xs ys : List Item) → AreKeyed (xs ++ it ∷ ys)
      → table (xs ++ record it { value = value } ∷ ys) ≡ fin.insert (table (xs ++ it ∷ ys)) it.key (decoded value)
  table_written it value xs ys k =
      let new = record it { value = value } in
      same (table (xs ++ new ∷ ys)) (fin.insert (table (xs ++ it ∷ ys)) it.key (decoded value)) (λ q. get_is (xs ++ new ∷ ys) q ∙ ⊎_elim
      (λ (e : q ≡ it.key). ap (look (xs ++ new ∷ ys)) e ∙ look_hit new xs ys (λ x m. keyed_before it xs ys k x (front x xs ys m)) ∙ sym (put_here (table (xs ++ it ∷ ys)) it.key (decoded value) q e))
      (λ (n : q ≢ it.key). look_skip new xs ys q n ∙ sym (look_skip it xs ys q n) ∙ sym (get_is (xs ++ it ∷ ys) q) ∙ sym (put_there (table (xs ++ it ∷ ys)) it.key (decoded value) q n))
      (keys_same_or_not q it.key))

-- keyed items of which some are left out
among_filter : (q : Item → Bool) (items : List Item) (x : Item) → Among x (filter q items) → Among x items
among_filter q [] x m = m
among_filter q (it ∷ items) x m = by (q it) (among_filter q items x) m
  where
    by : (b : Bool) → (Among x (filter q items) → Among x items) → Among x (cond {A = List Item} b (it ∷ filter q items) (filter q items)) → Among x (it ∷ items)
    by true rest (inl e) = inl e
    by true rest (inr n) = inr (rest n)
    by false rest n = inr (rest n)

keyed_filter : (q : Item → Bool) (items : List Item) → AreKeyed items → AreKeyed (filter q items)
keyed_filter q [] k = tt
keyed_filter q (it ∷ items) k = by (q it) (keyed_filter q items k.1)
  where
    by : (b : Bool) → AreKeyed (filter q items) → AreKeyed (cond {A = List Item} b (it ∷ filter q items) (filter q items))
    by true rest = ((λ x m. k.0 x (among_filter q items x m)), rest)
    by false rest = rest

-- the keys of a map that pass a test, and the items whose keys do
module _ {S : Type 0} (decoded : List ℕ → S) (p : List ℕ → Bool) where
  abbrev passing : List Item → List Item
  passing items = filter (λ (it : Item). p it.key) items

  no_key : (b : Bool) → None ≡ cond {A = Option S} b None None
  no_key true = refl
  no_key false = refl

  look_passing : (items : List Item) (q : List ℕ) → look decoded (passing items) q ≡ cond {A = Option S} (p q) (look decoded items q) None
  look_passing [] q = no_key (p q)
  look_passing (it ∷ items) q = by (p it.key) refl (look_passing items q)
    where
      by : (b : Bool) → p it.key ≡ b → look decoded (passing items) q ≡ cond {A = Option S} (p q) (look decoded items q) None
          → look decoded (cond {A = List Item} b (it ∷ passing items) (passing items)) q ≡ cond {A = Option S} (p q) (look decoded (it ∷ items) q) None
      by true is rest = ⊎_elim
          (λ (e : q ≡ it.key). look_here decoded it (passing items) q e
          ∙ sym (ap (λ (c : Bool). cond {A = Option S} c (look decoded (it ∷ items) q) None) (ap p e ∙ is) ∙ look_here decoded it items q e))
          (λ (n : q ≢ it.key). look_there decoded it (passing items) q n ∙ rest ∙ ap (λ (o : Option S). cond {A = Option S} (p q) o None) (sym (look_there decoded it items q n)))
          (keys_same_or_not q it.key)
      by false is rest = ⊎_elim
          (λ (e : q ≡ it.key). rest ∙ ap (λ (c : Bool). cond {A = Option S} c (look decoded items q) None) (ap p e ∙ is)
          ∙ sym (ap (λ (c : Bool). cond {A = Option S} c (look decoded (it ∷ items) q) None) (ap p e ∙ is)))
          (λ (n : q ≢ it.key). rest ∙ ap (λ (o : Option S). cond {A = Option S} (p q) o None) (sym (look_there decoded it items q n)))
          (keys_same_or_not q it.key)

  kept_is : (items : List Item) → fin.retain_keys (table decoded items) p ≡ table decoded (passing items)
  kept_is items = same decoded (fin.retain_keys (table decoded items) p) (table decoded (passing items)) (λ q.
      fin.get-retain_keys (table decoded items) p q (λ x tied. ap p (sym (key_antisymmetric q x tied)))
      ∙ ap (λ (o : Option S). cond {A = Option S} (p q) o None) (get_is decoded items q)
      ∙ sym (look_passing items q) ∙ sym (get_is decoded (passing items) q))

  pub kept_len : (items : List Item) → AreKeyed items → fin.len (fin.retain_keys (table decoded items) p) ≡ length (passing items)
  kept_len items k = ap (λ (m : KeyMap S). fin.len m) (kept_is items) ∙ table_len decoded (passing items) (keyed_filter (λ (it : Item). p it.key) items k)

-- to take out a key that is not there changes nothing
pub remove_missing : {S : Type 0} (m : KeyMap S) (k : List ℕ) → fin.get m k ≡ None → fin.remove m k ≡ m
remove_missing {S} m k none = fin.same_map nat_list_cmp_total key_antisymmetric (fin.remove m k) m (λ q.
    fin.get-remove nat_list_cmp_total m k q ∙ ⊎_elim
    (λ (e : q ≡ k). ap (λ (b : Bool). cond b None (fin.get m q)) (same_key q k e) ∙ sym (ap (fin.get m) e ∙ none))
    (λ (n : q ≢ k). ap (λ (b : Bool). cond b None (fin.get m q)) (other_key q k n))
    (keys_same_or_not q k))

-- to put in the state that stands there changes nothing
pub insert_same : {S : Type 0} (m : KeyMap S) (k : List ℕ) (v : S) → fin.get m k ≡ Some v → fin.insert m k v ≡ m
insert_same {S} m k v there = fin.same_map nat_list_cmp_total key_antisymmetric (fin.insert m k v) m (λ q.
    fin.get-insert nat_list_cmp_total m k v q ∙ ⊎_elim
    (λ (e : q ≡ k). ap (λ (b : Bool). cond b (Some v) (fin.get m q)) (same_key q k e) ∙ sym (ap (fin.get m) e ∙ there))
    (λ (n : q ≢ k). ap (λ (b : Bool). cond b (Some v) (fin.get m q)) (other_key q k n))
    (keys_same_or_not q k))

-- keyed items stay keyed
pub keyed_pushed : (it : Item) (xs ys : List Item) → AreKeyed (xs ++ ys) → ((x : Item) → Among x (xs ++ ys) → x.key ≢ it.key) → AreKeyed (xs ++ it ∷ ys)
keyed_pushed it [] ys k fresh = (fresh, k)
keyed_pushed it (y ∷ xs) ys k fresh = (
  (λ x m. ⊎_elim (λ (e : x ≡ it). λ s. fresh y (inl refl) (sym s ∙ ap (λ (z : Item). z.key) e)) (λ n. k.0 x n) (among_split x it xs ys m)),
  keyed_pushed it xs ys k.1 (λ x m. fresh x (inr m)),
)

pub keyed_taken : (it : Item) (xs ys : List Item) → AreKeyed (xs ++ it ∷ ys) → AreKeyed (xs ++ ys)
keyed_taken it [] ys k = k.1
keyed_taken it (y ∷ xs) ys k = ((λ x m. k.0 x (among_more x it xs ys m)), keyed_taken it xs ys k.1)

pub keyed_written : (it : Item) (value : List ℕ) (xs ys : List Item) → AreKeyed (xs ++ it ∷ ys) → AreKeyed (xs ++ record it { value = value } ∷ ys)
keyed_written it value [] ys k = k
keyed_written it value (y ∷ xs) ys k = (
  (λ x m. ⊎_elim (λ (e : x ≡ record it { value = value }). λ s. k.0 it (among_here it xs ys) (sym (ap (λ (z : Item). z.key) e) ∙ s)) (λ n. k.0 x (among_more x it xs ys n)) (among_split x (record it { value = value }) xs ys m)),
  keyed_written it value xs ys k.1,
)
