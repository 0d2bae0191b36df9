use Rattle.std.proofs.Common.{length-set, refl, ap, ◌∙◌}
use Rattle.free_pages.specs.PagesView.{PagesView}
use Rattle.span_pools.specs.PoolView.{PoolView}
use Rattle.c_area.proofs.Pools.{arena_beside, pool_over, pool_there, pools_after}
use Rattle.c_area.proofs.Served.{object_granted, object_refused, object_sized, pages_granted, pages_refused, pages_sized, place_of, same_name}
use Rattle.c_area.proofs.arena.grant.Goals as goal

pub take_object-requires-clause-here : goal.take_object-requires-clause-here
take_object-requires-clause-here c =
    let is = c.in-Some.ensures.least.is_class in
    let there = pool_there c.args.arena.now c.in-Some.class c.from.result c.index_mut-pool.result.now c.requires.arena is (place_of c.in-Some.class c.from.result is c.from.ensures) c.index_mut-pool.ensures.value in
    (c.requires.here, there.here ∙ c.requires.here)

pub take_object-requires-clause-over : goal.take_object-requires-clause-over
take_object-requires-clause-over c =
    let is = c.in-Some.ensures.least.is_class in
    pool_over c.args.arena.now c.in-Some.class c.index_mut-pool.result.now (pool_there c.args.arena.now c.in-Some.class c.from.result c.index_mut-pool.result.now c.requires.arena is (place_of c.in-Some.class c.from.result is c.from.ensures) c.index_mut-pool.ensures.value)

pub returns-in-Some-clause-arena : goal.returns-in-Some-clause-arena
returns-in-Some-clause-arena c =
    let a = c.args.arena.now in
    let is = c.in-Some.ensures.least.is_class in
    record {
      all = length-set a.pools.items c.from.result c.take_object.new.pool ∙ c.requires.arena.all;
      pools = pools_after a c.take_object.new.pages c.in-Some.class c.from.result c.index_mut-pool.result.now c.take_object.new.pool c.requires.arena is (place_of c.in-Some.class c.from.result is c.from.ensures) c.index_mut-pool.ensures.value
          (same_name a.pages c.take_object.new.pages (ap (λ (b : PagesView). b.region) c.take_object.ensures.pages) (ap (λ (b : PagesView). b.first) c.take_object.ensures.pages) c.take_object.ensures.as_many)
          (ap (λ (b : PoolView). b.region) c.take_object.ensures.pool) (ap (λ (b : PoolView). b.layout) c.take_object.ensures.pool);
    }

pub returns-in-Some-clause-name : goal.returns-in-Some-clause-name
returns-in-Some-clause-name c = same_name c.args.arena.now.pages c.take_object.new.pages (ap (λ (b : PagesView). b.region) c.take_object.ensures.pages) (ap (λ (b : PagesView). b.first) c.take_object.ensures.pages) c.take_object.ensures.as_many

pub returns-in-Some-clause-granted : goal.returns-in-Some-clause-granted
returns-in-Some-clause-granted c =
    let a = c.args.arena.now in
    let is = c.in-Some.ensures.least.is_class in
    object_granted a c.take_object.new.pages c.in-Some.class c.from.result c.index_mut-pool.result.now c.take_object.new.pool c.requires.arena is (place_of c.in-Some.class c.from.result is c.from.ensures) c.index_mut-pool.ensures.value
    c.args.bytes c.take_object.result c.in-Some.ensures.least c.take_object.ensures.granted

pub returns-in-Some-clause-refused : goal.returns-in-Some-clause-refused
returns-in-Some-clause-refused c =
    let a = c.args.arena.now in
    let is = c.in-Some.ensures.least.is_class in
    object_refused a c.take_object.new.pages c.in-Some.class c.from.result c.index_mut-pool.result.now c.take_object.new.pool c.requires.arena is (place_of c.in-Some.class c.from.result is c.from.ensures) c.index_mut-pool.ensures.value
    c.args.bytes c.take_object.result c.in-Some.ensures.least c.take_object.ensures.refused

pub returns-in-Some-clause-chunk : goal.returns-in-Some-clause-chunk
returns-in-Some-clause-chunk c =
    let a = c.args.arena.now in
    let is = c.in-Some.ensures.least.is_class in
    object_sized a c.take_object.new.pages c.in-Some.class c.from.result c.index_mut-pool.result.now c.take_object.new.pool c.requires.arena is (place_of c.in-Some.class c.from.result is c.from.ensures) c.index_mut-pool.ensures.value
    c.args.bytes c.args.r.now c.take_object.result c.in-Some.ensures.least c.take_object.ensures.chunk

pub returns-in-None-clause-arena : goal.returns-in-None-clause-arena
returns-in-None-clause-arena c =
    let a = c.args.arena.now in
    arena_beside a (record a { pages = c.take_pages.new.pages }) c.requires.arena
    (same_name a.pages c.take_pages.new.pages (ap (λ (b : PagesView). b.region) c.take_pages.ensures.pages) (ap (λ (b : PagesView). b.first) c.take_pages.ensures.pages) c.take_pages.ensures.as_many) refl

pub returns-in-None-clause-name : goal.returns-in-None-clause-name
returns-in-None-clause-name c = same_name c.args.arena.now.pages c.take_pages.new.pages (ap (λ (b : PagesView). b.region) c.take_pages.ensures.pages) (ap (λ (b : PagesView). b.first) c.take_pages.ensures.pages) c.take_pages.ensures.as_many

pub returns-in-None-clause-granted : goal.returns-in-None-clause-granted
returns-in-None-clause-granted c =
    let a = c.args.arena.now in
    pages_granted a (record a { pages = c.take_pages.new.pages }) refl c.args.bytes c.page_count.result c.take_pages.result c.in-None.ensures.none c.page_count.ensures.pages c.take_pages.ensures.granted

pub returns-in-None-clause-refused : goal.returns-in-None-clause-refused
returns-in-None-clause-refused c =
    let a = c.args.arena.now in
    pages_refused a (record a { pages = c.take_pages.new.pages }) refl c.args.bytes c.page_count.result c.take_pages.result c.in-None.ensures.none c.page_count.ensures.pages c.take_pages.ensures.refused

pub returns-in-None-clause-chunk : goal.returns-in-None-clause-chunk
returns-in-None-clause-chunk c = pages_sized c.args.bytes c.page_count.result c.args.r.now c.take_pages.result c.in-None.ensures.none c.page_count.ensures.pages c.take_pages.ensures.chunk
