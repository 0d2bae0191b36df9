use Rattle.std.proofs.Common.{length-set, refl, ap, ◌∙◌}
use Rattle.free_pages.specs.PagesView.{PagesView}
use Rattle.span_pools.specs.PoolView.{PoolView}
use Rattle.c_area.specs.Legal.{KeepsPool, TrimsPool}
use Rattle.c_area.proofs.Pools.{at_class, pool_over, pool_there, pools_after}
use Rattle.c_area.proofs.Served.{place_of, same_name}
use Rattle.c_area.proofs.arena.trim.Goals as goal

pub trim_pool-requires-clause-here : goal.trim_pool-requires-clause-here
trim_pool-requires-clause-here c =
    let is = c.requires.class in
    let there = pool_there c.args.arena.now c.args.class c.from.result c.index_mut-pool.result.now c.requires.arena is (place_of c.args.class c.from.result is c.from.ensures) c.index_mut-pool.ensures.value in
    (c.requires.here, there.here ∙ c.requires.here)

pub trim_pool-requires-clause-over : goal.trim_pool-requires-clause-over
trim_pool-requires-clause-over c =
    let is = c.requires.class in
    pool_over c.args.arena.now c.args.class c.index_mut-pool.result.now (pool_there c.args.arena.now c.args.class c.from.result c.index_mut-pool.result.now c.requires.arena is (place_of c.args.class c.from.result is c.from.ensures) c.index_mut-pool.ensures.value)

pub returns-clause-arena : goal.returns-clause-arena
returns-clause-arena c =
    let a = c.args.arena.now in
    let is = c.requires.class in
    record {
      all = length-set a.pools.items c.from.result c.trim_pool.new.pool ∙ c.requires.arena.all;
      pools = pools_after a c.trim_pool.new.pages c.args.class c.from.result c.index_mut-pool.result.now c.trim_pool.new.pool c.requires.arena is (place_of c.args.class c.from.result is c.from.ensures) c.index_mut-pool.ensures.value
          (same_name a.pages c.trim_pool.new.pages (ap (λ (b : PagesView). b.region) c.trim_pool.ensures.pages) (ap (λ (b : PagesView). b.first) c.trim_pool.ensures.pages) c.trim_pool.ensures.as_many)
          (ap (λ (b : PoolView). b.region) c.trim_pool.ensures.pool) (ap (λ (b : PoolView). b.layout) c.trim_pool.ensures.pool);
    }

pub returns-clause-name : goal.returns-clause-name
returns-clause-name c = same_name c.args.arena.now.pages c.trim_pool.new.pages (ap (λ (b : PagesView). b.region) c.trim_pool.ensures.pages) (ap (λ (b : PagesView). b.first) c.trim_pool.ensures.pages) c.trim_pool.ensures.as_many

pub returns-clause-trimmed : goal.returns-clause-trimmed
returns-clause-trimmed c = λ did.
    let a = c.args.arena.now in
    let is = c.requires.class in
    at_class a c.trim_pool.new.pages c.args.class c.from.result c.index_mut-pool.result.now c.trim_pool.new.pool c.requires.arena is (place_of c.args.class c.from.result is c.from.ensures) c.index_mut-pool.ensures.value TrimsPool (c.trim_pool.ensures.trimmed did)

pub returns-clause-kept : goal.returns-clause-kept
returns-clause-kept c = λ did.
    let a = c.args.arena.now in
    let is = c.requires.class in
    at_class a c.trim_pool.new.pages c.args.class c.from.result c.index_mut-pool.result.now c.trim_pool.new.pool c.requires.arena is (place_of c.args.class c.from.result is c.from.ensures) c.index_mut-pool.ensures.value KeepsPool (c.trim_pool.ensures.kept did)
