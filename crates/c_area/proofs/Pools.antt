-- The pools of all classes in a list: one is looked at, changed, added at the end; and what a step of the pages and of
-- one of them leaves of the area.
use Rattle.std.proofs.Common.{◌≡◌, ◌≢◌, ℕ, zero, suc, ◌+◌, ◌-◌, ◌<◌, ◌≤◌, List, [], ◌∷◌, ◌++◌, length, map, get_or, set, length-set, refl, sym, ap, subst, ◌∙◌, arith}
use Rattle.std.proofs.lemmas.List.{get_or-map, get_or-set_same, get_or-set_other, get_or_past}
use Rattle.std.specs.List.{All}
use Rattle.size_classes.specs.Classes.{IsClass}
use Rattle.free_pages.specs.PagesView as pages
use Rattle.span_pools.specs.Legal.{PoolState}
use Rattle.span_pools.specs.declared.layout.Layout.{Layout}
use Rattle.span_pools.specs.PoolView.{PoolView, layout_of, IsOver}
use Rattle.span_pools.proofs.Offers.{layout_over}
use Rattle.c_area.specs.Arenas.{ArePools, IsArena, IsPoolOf, name_of, state_of}
use Rattle.c_area.specs.Legal.{AtClass, Step}
use Rattle.c_area.specs.States.{AreaState, no_superblock, pool_of}
use Rattle.c_area.specs.declared.arena.Arena.{Arena}
use Rattle.c_area.specs.declared.histories.AreaName.{AreaName}

pub pools_at : (n : AreaName) (class : ℕ) (bs : List PoolView) (i : ℕ) (d : PoolView) → ArePools n class bs → i < length bs → IsPoolOf n (class + i) (get_or bs i d)
pools_at n class [] i d h low = absurd (omega arith)
pools_at n class (b ∷ bs) zero d h low = subst (λ (z : ℕ). IsPoolOf n z b) (let e : class ≡ class + 0 = omega arith in e) h.0
pools_at n class (b ∷ bs) (suc i) d h low = subst (λ (z : ℕ). IsPoolOf n z (get_or bs i d)) (let e : suc class + i ≡ class + suc i = omega arith in e)
    (pools_at n (suc class) bs i d h.1 (omega arith))

pub pools_set : (n : AreaName) (class : ℕ) (bs : List PoolView) (i : ℕ) (x : PoolView) → ArePools n class bs → IsPoolOf n (class + i) x → ArePools n class (set bs i x)
pools_set n class [] i x h p = tt
pools_set n class (b ∷ bs) zero x h p = (subst (λ (z : ℕ). IsPoolOf n z x) (let e : class + 0 ≡ class = omega arith in e) p, h.1)
pools_set n class (b ∷ bs) (suc i) x h p = (h.0, pools_set n (suc class) bs i x h.1 (subst (λ (z : ℕ). IsPoolOf n z x) (let e : class + suc i ≡ suc class + i = omega arith in e) p))

pub pools_push : (n : AreaName) (class : ℕ) (bs : List PoolView) (x : PoolView) → ArePools n class bs → IsPoolOf n (class + length bs) x → ArePools n class (bs ++ x ∷ [])
pools_push n class [] x h p = (subst (λ (z : ℕ). IsPoolOf n z x) (let e : class + 0 ≡ class = omega arith in e) p, tt)
pools_push n class (b ∷ bs) x h p = (h.0, pools_push n (suc class) bs x h.1 (subst (λ (z : ℕ). IsPoolOf n z x) (let e : class + suc (length bs) ≡ suc class + length bs = omega arith in e) p))

-- the pool that stands at a class's place is of that class
pub pool_there : (a : Arena) (class k : ℕ) (b : PoolView) → IsArena a → IsClass class → k + 2 ≡ class → b ≡ get_or a.pools.items k b → IsPoolOf (name_of a) class b
pool_there a class k b w is e h =
    subst (λ (z : ℕ). IsPoolOf (name_of a) z b) (let x : 2 + k ≡ class = omega arith in x)
    (subst (λ (z : PoolView). IsPoolOf (name_of a) (2 + k) z) (sym h) (pools_at (name_of a) 2 a.pools.items k b w.pools (let x : k < length a.pools.items = omega (arith, is.high, w.all) in x)))

-- so it is over these pages
pub pool_over : (a : Arena) (class : ℕ) (b : PoolView) → IsPoolOf (name_of a) class b → IsOver b.layout a.pages.first a.pages.state.pages
pool_over a class b q = subst (λ (l : Layout). IsOver l a.pages.first a.pages.state.pages) (sym q.layout) (layout_over class a.pages.first a.pages.state.pages)

-- the state of a class's pool
state_there : (bs : List PoolView) (k : ℕ) (b : PoolView) → k < length bs → b ≡ get_or bs k b → get_or (map (λ (x : PoolView). x.state) bs) k no_superblock ≡ b.state
state_there bs k b low h = get_or-map (λ (x : PoolView). x.state) bs k b no_superblock low ∙ ap (λ (x : PoolView). x.state) (sym h)

-- the state of a class's pool once one stands at another place or at this one
state_set : (bs : List PoolView) (k : ℕ) (x : PoolView) → k < length bs → get_or (map (λ (b : PoolView). b.state) (set bs k x)) k no_superblock ≡ x.state
state_set bs k x low = get_or-map (λ (b : PoolView). b.state) (set bs k x) k x no_superblock (let e = length-set bs k x in omega arith) ∙ ap (λ (b : PoolView). b.state) (get_or-set_same bs k x x low)

state_beside : (bs : List PoolView) (k j : ℕ) (x : PoolView) → j ≢ k → get_or (map (λ (b : PoolView). b.state) (set bs k x)) j no_superblock ≡ get_or (map (λ (b : PoolView). b.state) bs) j no_superblock
state_beside [] k j x ne = refl
state_beside (b ∷ bs) zero zero x ne = absurd (ne refl)
state_beside (b ∷ bs) zero (suc j) x ne = refl
state_beside (b ∷ bs) (suc k) zero x ne = refl
state_beside (b ∷ bs) (suc k) (suc j) x ne = state_beside bs k j x (λ e. ne (ap suc e))

-- the name and the state of pages and a list of pools
abbrev pub name_at : pages.PagesView → AreaName
name_at p = record { region = p.region; first = p.first; pages = p.state.pages }

abbrev pub state_at : pages.PagesView → List PoolView → AreaState
state_at p bs = record { pages = p.state; pools = map (λ (b : PoolView). b.state) bs }

module _ (a : Arena) (p' : pages.PagesView) (class k : ℕ) (b x : PoolView) (w : IsArena a) (is : IsClass class) (e : k + 2 ≡ class) (h : b ≡ get_or a.pools.items k b) where
  low : k < length a.pools.items
  low = omega (arith, is.high, w.all)

  -- a step of the pages and of one pool
  pub at_class : (step : Step) → step b.layout a.pages.first a.pages.state b.state p'.state x.state → AtClass (name_of a) (state_of a) (state_at p' (set a.pools.items k x)) step class
  at_class step made =
      let there = pool_there a class k b w is e h in
      let place : class - 2 ≡ k = omega arith in
      let before : pool_of (state_of a) class ≡ b.state = ap (λ (z : ℕ). get_or (map (λ (y : PoolView). y.state) a.pools.items) z no_superblock) place ∙ state_there a.pools.items k b low h in
      let after : pool_of (state_at p' (set a.pools.items k x)) class ≡ x.state = ap (λ (z : ℕ). get_or (map (λ (y : PoolView). y.state) (set a.pools.items k x)) z no_superblock) place ∙ state_set a.pools.items k x low in
      record {
        is_class = is;
        made = subst (λ (z : Layout × (PoolState × PoolState)). step z.0 a.pages.first a.pages.state z.1.0 p'.state z.1.1) (λ i. (there.layout i, (sym before i, sym after i))) made;
        others = λ other o ne. state_beside a.pools.items k (other - 2) x (λ s. ne (let u = o.low in omega arith));
      }

  -- the pools afterwards
  pub pools_after : name_at p' ≡ name_of a → x.region ≡ b.region → x.layout ≡ b.layout → ArePools (name_at p') 2 (set a.pools.items k x)
  pools_after name region layout =
      let there = pool_there a class k b w is e h in
      subst (λ (n : AreaName). ArePools n 2 (set a.pools.items k x)) (sym name)
      (pools_set (name_of a) 2 a.pools.items k x w.pools (subst (λ (z : ℕ). IsPoolOf (name_of a) z x) (let y : class ≡ 2 + k = omega arith in y) (record { here = region ∙ there.here; layout = layout ∙ there.layout })))

-- the pages changed, and no pool
pub arena_beside : (a a' : Arena) → IsArena a → name_of a' ≡ name_of a → a'.pools.items ≡ a.pools.items → IsArena a'
arena_beside a a' w name items = record {
  all = ap length items ∙ w.all;
  pools = subst (λ (l : List PoolView). ArePools (name_of a') 2 l) (sym items) (subst (λ (n : AreaName). ArePools n 2 a.pools.items) (sym name) w.pools);
}

-- pools that are all empty
pub all_empty : (bs : List PoolView) → All (λ (b : PoolView). b.state ≡ no_superblock) bs → (i : ℕ) → get_or (map (λ (b : PoolView). b.state) bs) i no_superblock ≡ no_superblock
all_empty [] h i = refl
all_empty (b ∷ bs) h zero = h 0 b (omega arith)
all_empty (b ∷ bs) h (suc i) = all_empty bs (λ k d low. h (suc k) d (omega arith)) i
