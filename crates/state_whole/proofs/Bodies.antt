-- The groups of a file in a map: what no group has more rows than afterwards.
use Rattle.std.proofs.Common.{◌≡◌, ◌≤◌, ◌+◌, ◌%◌, ◌^◌, ◌∙◌, ◌⊎◌, ℕ, Bool, true, false, List, [], ◌∷◌, All, None, Option, Some, ap, arith, cond, inl, inr, map, refl, subst, sym}
use Rattle.std.specs.Cmp.Lexicographic.{nat_list_cmp_total}
use Rattle.std.specs.FinMap as finite
use Rattle.std.specs.List.{AllByRecursion}
use Rattle.std.specs.List.Sorted.{IsStrictlySortedBy}
use Rattle.std.specs.Ordering.{eq_by_cmp, ordering_reverse}
use Rattle.std.specs.declared.cmp.Ordering.{Ordering}
use Rattle.std.specs.declared.cmp.Ordering.TheVariants.{Greater, Less}
use Rattle.std.proofs.Math.Nat.{mod-le}
use Rattle.std.proofs.lemmas.Bool.{true≢false}
use Rattle.std.proofs.lemmas.List.{get_or-map, length-map}
use Rattle.std.proofs.lemmas.List.Elements.{All-head, All-map, All-nil, All-tail}
use Rattle.std.proofs.lemmas.Slice.Eq.{bytes_eq-Decides}
use Rattle.par_model.specs.Table.{columns_cmp}
use Rattle.par_model.specs.declared.state.AggState.{AggState}
use Rattle.partial_agg.specs.Groups.{GroupsByKey, added, joined, key_cmp}
use Rattle.partial_agg.specs.Listed.{group, listed}
use Rattle.partial_agg.specs.declared.groups.Group.{Group as MapGroup}
use Rattle.partial_agg.proofs.Adding.{ties}
use Rattle.partial_agg.proofs.Entries.{All-found, Contains-found}
use Rattle.result_text.specs.KeyColumns.{columns_in}
use Rattle.result_text.proofs.Columns.{columns_total}
use Rattle.state_blocks.specs.Blocks.{Group}
use Rattle.state_head.specs.Words.{Keys, keys_of}
use Rattle.state_order.specs.Order.{HasKeys, Rise}
use Rattle.state_order.specs.Ranges.{is_within}
use Rattle.state_order.specs.declared.order.KeyOrder.{KeyOrder}
use Rattle.state_whole.specs.Adding.{HasAdded, kept_sum, kept_with, key_of, state_of, with_group}
use Rattle.state_whole.specs.declared.adding.FileCount.{FileCount}
use Rattle.state_whole.specs.declared.adding.Kept.{Kept}
use Rattle.state_whole.specs.declared.adding.Shape.{Shape}

-- ---- before the first group

pub none_has : (shape : Shape) (kept : Kept) (range : Keys) (m n : GroupsByKey) (order : KeyOrder) (count : FileCount) → n ≡ m → count.groups ≡ 0 → HasKeys shape.columns range [] order → HasAdded shape kept range m [] n order count
none_has shape kept range m n order count same none keys = record { sum = same; keys = keys; many = none; most = All-nil (λ (g : Group). g.rows ≤ count.most) }

-- ---- keys that rise are different

-- a key is among those of some groups
abbrev Among : List ℕ → List Group → Type 0
Among k [] = ⊥
Among k (g ∷ gs) = (k ≡ g.key) ⊎ Among k gs

-- no key comes twice
abbrev Apart : List Group → Type 0
Apart [] = Unit {0}
Apart (g ∷ gs) = (Among g.key gs → ⊥) × Apart gs

not_less : (o : Ordering) → o ≡ ordering_reverse o → o ≡ Less → ⊥
not_less o h e =
    let f : Less ≡ Greater = sym e ∙ h ∙ ap ordering_reverse e in
    cc

above_others : (columns : ℕ) (g : Group) (gs : List Group) → AllByRecursion (λ y. columns_cmp (columns_in columns g.key) y ≡ Less) (map (columns_in columns) (map key_of gs)) → Among g.key gs → ⊥
above_others columns g [] above among = absurd among
above_others columns g (h ∷ gs) above (inl same) =
    let c = columns_in columns g.key in
    not_less (columns_cmp c c) (columns_total.antisymm c c) (ap (λ (k : List ℕ). columns_cmp c (columns_in columns k)) same ∙ above.0)
above_others columns g (h ∷ gs) above (inr later) = above_others columns g gs above.1 later

apart_of : (columns : ℕ) (gs : List Group) → Rise columns (map key_of gs) → Apart gs
unfolding IsStrictlySortedBy
apart_of columns [] rise = tt
apart_of columns (g ∷ gs) rise = (above_others columns g gs rise.0, apart_of columns gs rise.1)

-- ---- a group more

mod_few : (x n : ℕ) → x ≤ n → x % 2 ^ 64 ≤ n
mod_few x n le =
    let down = mod-le x (2 ^ 64) in
    omega (arith, le, down)

joined_rows : (o : Option AggState) (s : AggState) (a b : ℕ) → ((v : AggState) → o ≡ Some v → v.rows ≤ a) → s.rows ≤ b → (joined o s).rows ≤ a + b
joined_rows None s a b few le = omega (arith, le)
joined_rows (Some v) s a b few le =
    let h = few v refl in
    mod_few (v.rows + s.rows) (a + b) (omega (arith, h, le))

-- what is under a key after a state was added
GotMore : GroupsByKey → List ℕ → AggState → List ℕ → AggState → Type 0
GotMore m k s q v = ((q ≡ k) × (v ≡ joined (finite.get m k) s)) ⊎ ((q ≡ k → ⊥) × (finite.get m q ≡ Some v))

got_more : (m : GroupsByKey) (k : List ℕ) (s : AggState) (q : List ℕ) (v : AggState) → finite.get (added m k s) q ≡ Some v → GotMore m k s q v
unfolding GotMore
got_more m k s q v e = go (eq_by_cmp key_cmp q k) refl (sym (finite.get-insert nat_list_cmp_total m k j q) ∙ e)
  where
    j : AggState
    j = joined (finite.get m k) s

    some_is : Some j ≡ Some v → v ≡ j
    some_is f = cc

    go : (b : Bool) → eq_by_cmp key_cmp q k ≡ b → cond b (Some j) (finite.get m q) ≡ Some v → ((q ≡ k) × (v ≡ j)) ⊎ ((q ≡ k → ⊥) × (finite.get m q ≡ Some v))
    go true here f = inl (sym ((bytes_eq-Decides k q).0 (sym (ties q k) ∙ here)), some_is f)
    go false here f = inr (λ same. true≢false (sym ((bytes_eq-Decides k q).1 (sym same)) ∙ sym (ties q k) ∙ here), f)

-- no group of a map has more rows than a and b together, and those under the keys of some groups not more than a
record HasRoom (m : GroupsByKey) (gs : List Group) (a b : ℕ) : Type 0 where
  pub all : (k : List ℕ) (v : AggState) → finite.get m k ≡ Some v → v.rows ≤ a + b
  pub these : (k : List ℕ) (v : AggState) → Among k gs → finite.get m k ≡ Some v → v.rows ≤ a

room_more : (shape : Shape) (m : GroupsByKey) (g : Group) (gs : List Group) (a b : ℕ) → (Among g.key gs → ⊥) → g.rows ≤ b → HasRoom m (g ∷ gs) a b → HasRoom (with_group shape m g) gs a b
unfolding GotMore
room_more shape m g gs a b apart few is = record {
  all = λ k v e. one k v (got_more m g.key (state_of shape g) k v e);
  these = λ k v among e. other k v among (got_more m g.key (state_of shape g) k v e);
}
  where
    one : (k : List ℕ) (v : AggState) → GotMore m g.key (state_of shape g) k v → v.rows ≤ a + b
    one k v (inl here) = subst (λ (s : AggState). s.rows ≤ a + b) (sym here.1) (joined_rows (finite.get m g.key) (state_of shape g) a b (λ w e. is.these g.key w (inl refl) e) few)
    one k v (inr there) = is.all k v there.1

    other : (k : List ℕ) (v : AggState) → Among k gs → GotMore m g.key (state_of shape g) k v → v.rows ≤ a
    other k v among (inl here) = absurd (apart (subst (λ (q : List ℕ). Among q gs) here.0 among))
    other k v among (inr there) = is.these k v (inr among) there.1

-- whether it is kept or not
room_next : (shape : Shape) (m : GroupsByKey) (g : Group) (gs : List Group) (a b : ℕ) → (Among g.key gs → ⊥) → g.rows ≤ b → HasRoom m (g ∷ gs) a b → (x : Bool) → HasRoom (cond x (with_group shape m g) m) gs a b
room_next shape m g gs a b apart few is true = room_more shape m g gs a b apart few is
room_next shape m g gs a b apart few is false = record { all = is.all; these = λ k v among e. is.these k v (inr among) e }

room_all : (shape : Shape) (kept : Kept) (gs : List Group) (m : GroupsByKey) (a b : ℕ) → Apart gs → All (λ (g : Group). g.rows ≤ b) gs → HasRoom m gs a b → (k : List ℕ) (v : AggState) → finite.get (kept_sum shape kept m gs) k ≡ Some v → v.rows ≤ a + b
room_all shape kept [] m a b apart few is = is.all
room_all shape kept (g ∷ gs) m a b apart few is =
    room_all shape kept gs (kept_with kept m g.key (state_of shape g)) a b apart.1 (All-tail (λ (h : Group). h.rows ≤ b) g gs few)
    (room_next shape m g gs a b apart.0 (All-head (λ (h : Group). h.rows ≤ b) g gs few) is (is_within kept.columns (keys_of kept.range) g.key))

-- ---- the groups of a map as a list

listed_of : (m : GroupsByKey) (n : ℕ) → ((k : List ℕ) (v : AggState) → finite.get m k ≡ Some v → v.rows ≤ n) → All (λ (g : MapGroup). g.state.rows ≤ n) (listed m)
listed_of m n few = All-map (λ (g : MapGroup). g.state.rows ≤ n) group (finite.entries m) (λ i d lt. few _ _ (All-found m i d lt))

of_listed : (m : GroupsByKey) (n : ℕ) → All (λ (g : MapGroup). g.state.rows ≤ n) (listed m) → (k : List ℕ) (v : AggState) → finite.get m k ≡ Some v → v.rows ≤ n
of_listed m n all k v e =
    let c = Contains-found m k v e in
    let before = c.1 in
    let here = all c.0 (group (k, v)) (omega (arith, before, length-map (finite.entries m) group)) in
    subst (λ (g : MapGroup). g.state.rows ≤ n) (get_or-map group (finite.entries m) c.0 (k, v) (group (k, v)) c.1 ∙ ap group c.2) here

-- after groups whose keys rise, each of at most b rows, were added to a map of groups of at most a rows
pub sum_bound : (columns : ℕ) (shape : Shape) (kept : Kept) (m : GroupsByKey) (gs : List Group) (a b : ℕ) → All (λ (g : MapGroup). g.state.rows ≤ a) (listed m) → Rise columns (map key_of gs) → All (λ (g : Group). g.rows ≤ b) gs
    → All (λ (g : MapGroup). g.state.rows ≤ a + b) (listed (kept_sum shape kept m gs))
sum_bound columns shape kept m gs a b all rise few =
    let has = of_listed m a all in
    listed_of (kept_sum shape kept m gs) (a + b) (room_all shape kept gs m a b (apart_of columns gs rise) few (record {
      all = λ k v e. let h = has k v e in omega (arith, h);
      these = λ k v among e. has k v e;
    }))

-- no groups are few
pub none_bound : (n : ℕ) → All (λ (g : MapGroup). g.state.rows ≤ n) (listed finite.empty)
none_bound n = listed_of finite.empty n (λ k v e. absurd (no_some v (sym (finite.get-empty key_cmp k) ∙ e)))
  where
    no_some : (v : AggState) → None ≡ Some v → ⊥
    no_some v e = cc
