use Rattle.std.proofs.Common.{length-set, refl, ap, ◌∙◌}
use Rattle.free_pages.specs.PagesView.{PagesView}
use Rattle.span_pools.specs.PoolView.{PoolView}
use Rattle.c_area.proofs.Pools.{arena_beside, pool_over, pool_there, pools_after}
use Rattle.c_area.proofs.Served.{object_back, object_taken, pages_back, pages_taken, place_of, same_name}
use Rattle.c_area.proofs.arena.take_back.Goals as goal

pub give_object-requires-clause-here : goal.give_object-requires-clause-here
give_object-requires-clause-here c =
    let is = c.in-Some.ensures.some.0 in
    let there = pool_there c.args.arena.now c.in-Some.class c.from.result c.index_mut-pool.result.now c.requires.arena is (place_of c.in-Some.class c.from.result is c.from.ensures) c.index_mut-pool.ensures.value in
    (c.requires.here.0, there.here ∙ c.requires.here.0, c.requires.here.1)

pub give_object-requires-clause-over : goal.give_object-requires-clause-over
give_object-requires-clause-over c =
    let is = c.in-Some.ensures.some.0 in
    pool_over c.args.arena.now c.in-Some.class c.index_mut-pool.result.now (pool_there c.args.arena.now c.in-Some.class c.from.result c.index_mut-pool.result.now c.requires.arena is (place_of c.in-Some.class c.from.result is c.from.ensures) c.index_mut-pool.ensures.value)

pub returns-in-Some-clause-arena : goal.returns-in-Some-clause-arena
returns-in-Some-clause-arena c =
    let a = c.args.arena.now in
    let is = c.in-Some.ensures.some.0 in
    record {
      all = length-set a.pools.items c.from.result c.give_object.new.pool ∙ c.requires.arena.all;
      pools = pools_after a c.give_object.new.pages c.in-Some.class c.from.result c.index_mut-pool.result.now c.give_object.new.pool c.requires.arena is (place_of c.in-Some.class c.from.result is c.from.ensures) c.index_mut-pool.ensures.value
          (same_name a.pages c.give_object.new.pages (ap (λ (b : PagesView). b.region) c.give_object.ensures.pages) (ap (λ (b : PagesView). b.first) c.give_object.ensures.pages) c.give_object.ensures.as_many)
          (ap (λ (b : PoolView). b.region) c.give_object.ensures.pool) (ap (λ (b : PoolView). b.layout) c.give_object.ensures.pool);
    }

pub returns-in-Some-clause-name : goal.returns-in-Some-clause-name
returns-in-Some-clause-name c = same_name c.args.arena.now.pages c.give_object.new.pages (ap (λ (b : PagesView). b.region) c.give_object.ensures.pages) (ap (λ (b : PagesView). b.first) c.give_object.ensures.pages) c.give_object.ensures.as_many

pub returns-in-Some-clause-taken : goal.returns-in-Some-clause-taken
returns-in-Some-clause-taken c =
    let a = c.args.arena.now in
    let is = c.in-Some.ensures.some.0 in
    object_taken a c.give_object.new.pages c.in-Some.class c.from.result c.index_mut-pool.result.now c.give_object.new.pool c.requires.arena is (place_of c.in-Some.class c.from.result is c.from.ensures) c.index_mut-pool.ensures.value
    c.args.chunk.at c.args.chunk.bytes c.give_object.result c.in-Some.ensures.some.1 c.give_object.ensures.taken

pub returns-in-Some-clause-refused : goal.returns-in-Some-clause-refused
returns-in-Some-clause-refused c =
    let a = c.args.arena.now in
    let is = c.in-Some.ensures.some.0 in
    object_back a c.give_object.new.pages c.in-Some.class c.from.result c.index_mut-pool.result.now c.give_object.new.pool c.requires.arena is (place_of c.in-Some.class c.from.result is c.from.ensures) c.index_mut-pool.ensures.value
    c.args.chunk.at c.args.chunk.bytes c.give_object.result c.in-Some.ensures.some.1 c.give_object.ensures.refused

pub returns-then-chunk-gt-LARGEST_SIZE-clause-arena : goal.returns-then-chunk-gt-LARGEST_SIZE-clause-arena
returns-then-chunk-gt-LARGEST_SIZE-clause-arena c =
    let a = c.args.arena.now in
    arena_beside a (record a { pages = c.give_pages.new.pages }) c.requires.arena
    (same_name a.pages c.give_pages.new.pages (ap (λ (b : PagesView). b.region) c.give_pages.ensures.pages) (ap (λ (b : PagesView). b.first) c.give_pages.ensures.pages) c.give_pages.ensures.as_many) refl

pub returns-then-chunk-gt-LARGEST_SIZE-clause-name : goal.returns-then-chunk-gt-LARGEST_SIZE-clause-name
returns-then-chunk-gt-LARGEST_SIZE-clause-name c = same_name c.args.arena.now.pages c.give_pages.new.pages (ap (λ (b : PagesView). b.region) c.give_pages.ensures.pages) (ap (λ (b : PagesView). b.first) c.give_pages.ensures.pages) c.give_pages.ensures.as_many

pub returns-then-chunk-gt-LARGEST_SIZE-clause-taken : goal.returns-then-chunk-gt-LARGEST_SIZE-clause-taken
returns-then-chunk-gt-LARGEST_SIZE-clause-taken c =
    let a = c.args.arena.now in
    pages_taken a (record a { pages = c.give_pages.new.pages }) refl c.args.chunk.at c.args.chunk.bytes c.give_pages.result c.if-chunk-gt-LARGEST_SIZE.true c.give_pages.ensures.taken

pub returns-then-chunk-gt-LARGEST_SIZE-clause-refused : goal.returns-then-chunk-gt-LARGEST_SIZE-clause-refused
returns-then-chunk-gt-LARGEST_SIZE-clause-refused c =
    let a = c.args.arena.now in
    pages_back a (record a { pages = c.give_pages.new.pages }) refl c.args.chunk.at c.args.chunk.bytes c.give_pages.result c.if-chunk-gt-LARGEST_SIZE.true c.give_pages.ensures.refused
