-- A list that has each entry of a map once answers every look-up as the map does.
use Rattle.std.proofs.Common.{◌≡◌, ◌≤◌, ◌+◌, ◌∙◌, ℕ, zero, suc, Bool, true, false, cond, List, [], ◌∷◌, Option, Some, None, IfNone, IfSome, length, is_some, slice_get, refl, ap, sym, subst, arith}
use Rattle.std.specs.Cmp.{tied_itself}
use Rattle.std.specs.Cmp.Lexicographic.{nat_list_cmp_total, slice_cmp}
use Rattle.std.specs.FinMap as fin
use Rattle.std.specs.List.{AllByRecursion}
use Rattle.std.specs.Ordering.{eq_by_cmp, is_eq, nat_cmp}
use Rattle.std.proofs.lemmas.Map.Lookups.{exact_bytes}
use Rattle.std.proofs.lemmas.Map.Views.{tells_apart}
use Rattle.dshash_core.specs.Cells.{KeyMap}
use Rattle.dshash_core.specs.Outcome.{ListsAll}

-- what holds of each element
member_at : {X : Type 0} (P : X → Type 0) (xs : List X) (k : ℕ) (x : X) → slice_get xs k ≡ Some x → AllByRecursion P xs → P x
member_at P [] k x e h = absurd (cc)
member_at P (y ∷ ys) zero x e h = let same : y ≡ x = cc in subst P same h.0
member_at P (y ∷ ys) (suc k) x e h = member_at P ys k x e h.1

module _ {S : Type 0} where
  abbrev map_of : List (List ℕ × S) → KeyMap S
  map_of es = fin.from_entries es

  -- the map of a list has at most its entries
  few : (es : List (List ℕ × S)) → fin.len (map_of es) ≤ length es
  few [] = let e = fin.len-empty (slice_cmp nat_cmp) S in omega (arith, e)
  few (e ∷ es) = by (fin.contains_key (map_of es) e.0) (fin.len-insert nat_list_cmp_total (map_of es) e.0 e.1) (few es)
    where
      by : (b : Bool) → fin.len (map_of (e ∷ es)) ≡ cond {A = ℕ} b (fin.len (map_of es)) (fin.len (map_of es) + 1) → fin.len (map_of es) ≤ length es → fin.len (map_of (e ∷ es)) ≤ length (e ∷ es)
      by true l h = omega (arith, l, h)
      by false l h = omega (arith, l, h)

  -- each entry's state is the map's under its key
  abbrev AreIn : KeyMap S → List (List ℕ × S) → Type 0
  AreIn m es = AllByRecursion (λ (e : List ℕ × S). fin.get m e.0 ≡ Some e.1) es

  lists_states : (es : List (List ℕ × S)) → length es ≡ fin.len (map_of es) → AreIn (map_of es) es
  lists_states [] h = tt
  lists_states (e ∷ es) h = by (fin.contains_key (map_of es) e.0) refl (fin.len-insert nat_list_cmp_total (map_of es) e.0 e.1) (lists_states es)
    where
      own : fin.get (map_of (e ∷ es)) e.0 ≡ Some e.1
      own = fin.get-insert nat_list_cmp_total (map_of es) e.0 e.1 e.0 ∙ ap (λ r. cond {A = Option S} (is_eq r) (Some e.1) (fin.get (map_of es) e.0)) (tied_itself nat_list_cmp_total e.0)

      -- the head's key is not among the others
      kept : fin.contains_key (map_of es) e.0 ≡ false → (fs : List (List ℕ × S)) → AreIn (map_of es) fs → AreIn (map_of (e ∷ es)) fs
      kept new [] a = tt
      kept new (f ∷ fs) a = (other (eq_by_cmp (slice_cmp nat_cmp) f.0 e.0) refl, kept new fs a.1)
        where
          other : (b : Bool) → eq_by_cmp (slice_cmp nat_cmp) f.0 e.0 ≡ b → fin.get (map_of (e ∷ es)) f.0 ≡ Some f.1
          other false t = fin.get-insert nat_list_cmp_total (map_of es) e.0 e.1 f.0 ∙ ap (λ b. cond {A = Option S} b (Some e.1) (fin.get (map_of es) f.0)) t ∙ a.0
          other true t =
              let tied : f.0 ≡ e.0 = tells_apart exact_bytes f.0 e.0 t in
              let there : fin.contains_key (map_of es) e.0 ≡ true = ap (λ (k : List ℕ). is_some (fin.get (map_of es) k)) (sym tied) ∙ ap is_some a.0 in
              let no : true ≡ false = sym there ∙ new in cc

      by : (b : Bool) → fin.contains_key (map_of es) e.0 ≡ b → fin.len (map_of (e ∷ es)) ≡ cond {A = ℕ} (fin.contains_key (map_of es) e.0) (fin.len (map_of es)) (fin.len (map_of es) + 1)
          → (length es ≡ fin.len (map_of es) → AreIn (map_of es) es) → AreIn (map_of (e ∷ es)) (e ∷ es)
      by true t l states =
          let less : fin.len (map_of (e ∷ es)) ≡ fin.len (map_of es) = l ∙ ap (λ b. cond {A = ℕ} b (fin.len (map_of es)) (fin.len (map_of es) + 1)) t in
          absurd (omega (arith, less, few es, h))
      by false t l states =
          let more : fin.len (map_of (e ∷ es)) ≡ fin.len (map_of es) + 1 = l ∙ ap (λ b. cond {A = ℕ} b (fin.len (map_of es)) (fin.len (map_of es) + 1)) t in
          (own, kept t es (states (omega (arith, more, h))))

  -- a state that the map has is that of an entry
  state_there : (es : List (List ℕ × S)) (key : List ℕ) (state : S) → fin.get (map_of es) key ≡ Some state → (k : ℕ) × (slice_get es k ≡ Some (key, state))
  state_there [] key state h = absurd (let no : ◌≡◌ {A = Option S} None (Some state) = sym (fin.get-empty (slice_cmp nat_cmp) key) ∙ h in cc)
  state_there (e ∷ es) key state h = by (eq_by_cmp (slice_cmp nat_cmp) key e.0) refl (state_there es key state)
    where
      read : fin.get (map_of (e ∷ es)) key ≡ cond {A = Option S} (eq_by_cmp (slice_cmp nat_cmp) key e.0) (Some e.1) (fin.get (map_of es) key)
      read = fin.get-insert nat_list_cmp_total (map_of es) e.0 e.1 key

      by : (b : Bool) → eq_by_cmp (slice_cmp nat_cmp) key e.0 ≡ b → (fin.get (map_of es) key ≡ Some state → (k : ℕ) × (slice_get es k ≡ Some (key, state))) → (k : ℕ) × (slice_get (e ∷ es) k ≡ Some (key, state))
      by true t rest =
          let keys : key ≡ e.0 = tells_apart exact_bytes key e.0 t in
          let is : Some e.1 ≡ Some state = sym (read ∙ ap (λ b. cond {A = Option S} b (Some e.1) (fin.get (map_of es) key)) t) ∙ h in
          let states : e.1 ≡ state = cc in
          (0, ap (λ (k : List ℕ). Some (k, e.1)) (sym keys) ∙ ap (λ (s : S). Some (key, s)) states)
      by false t rest =
          let next = rest (sym (ap (λ b. cond {A = Option S} b (Some e.1) (fin.get (map_of es) key)) t) ∙ sym read ∙ h) in
          (suc next.0, next.1)

  -- what is found among the entries is what the map has
  pub looked_up : (m : KeyMap S) (list : List (List ℕ × S)) (key : List ℕ) (found : Option S) → ListsAll m list → IfSome found (λ state. (place : ℕ) × (slice_get list place ≡ Some (key, state)))
      → IfNone found ((place : ℕ) (state : S) → slice_get list place ≡ Some (key, state) → ⊥) → found ≡ fin.get m key
  looked_up m list key (Some s) lists there absent =
      let once : length list ≡ fin.len (map_of list) = lists.once ∙ ap (λ (x : KeyMap S). fin.len x) (sym lists.all) in
      sym (ap (λ (x : KeyMap S). fin.get x key) (sym lists.all) ∙ member_at (λ (e : List ℕ × S). fin.get (map_of list) e.0 ≡ Some e.1) list there.0 (key, s) there.1 (lists_states list once))
  looked_up m list key None lists there absent = by (fin.get m key) refl
    where
      by : (o : Option S) → fin.get m key ≡ o → None ≡ o
      by None e = refl
      by (Some s) e = let at = state_there list key s (ap (λ (x : KeyMap S). fin.get x key) lists.all ∙ e) in absurd (absent at.0 s at.1)
