use Rattle.std.proofs.Common.{◌≡◌, ℕ, ◌+◌, List, [], ◌∷◌, ◌++◌, length, length-append, refl, sym, ap, subst, arith}
use Rattle.std.specs.List.{All}
use Rattle.std.proofs.lemmas.List.Elements.{All-push}
use Rattle.span_pools.specs.PoolView.{PoolView}
use Rattle.c_area.specs.Arenas.{ArePools, IsPoolOf}
use Rattle.c_area.specs.States.{no_superblock}
use Rattle.c_area.specs.declared.histories.AreaName.{AreaName}
use Rattle.c_area.proofs.Pools.{pools_push}
use Rattle.c_area.proofs.opening.empty_pools.Goals as goal

longer : (xs ys : List PoolView) (x : PoolView) (class : ℕ) → ys ≡ xs ++ x ∷ [] → length xs + 2 ≡ class → length ys + 2 ≡ class + 1
longer xs ys x class e h = omega (arith, ap length e, length-append xs (x ∷ []), h)

pub loop-class-preserved : goal.loop-class-preserved
loop-class-preserved c =
    let n : AreaName = record { region = c.args.r.now; first = c.args.first; pages = c.args.pages } in
    let was = c.loop-class.invariant in
    let x = c.next_pool.result in
    let items = c.in_ok-push.ensures.items in
    record {
      here = c.next_pool.ensures.here;
      owns = c.next_pool.ensures.rest;
      count = longer c.loop-class.pools.items c.push.new.self.items x c.loop-class.class items was.count;
      pools = subst (λ (l : List PoolView). ArePools n 2 l) (sym items) (pools_push n 2 c.loop-class.pools.items x was.pools
          (subst (λ (z : ℕ). IsPoolOf n z x) (let e : c.loop-class.class ≡ 2 + length c.loop-class.pools.items = omega (arith, was.count) in e)
          (record { here = ap (λ (b : PoolView). b.region) c.next_pool.ensures.pool; layout = ap (λ (b : PoolView). b.layout) c.next_pool.ensures.pool })));
      empty = subst (λ (l : List PoolView). All (λ (b : PoolView). b.state ≡ no_superblock) l) (sym items) (All-push (λ (b : PoolView). b.state ≡ no_superblock) c.loop-class.pools.items x was.empty (ap (λ (b : PoolView). b.state) c.next_pool.ensures.pool));
    }
