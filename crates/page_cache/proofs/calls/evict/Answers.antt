use Rattle.std.proofs.Common.{Option, Some, true, false, is_some, refl, sym, subst, arith}
use Rattle.region_words.specs.declared.chunk.Chunk.{Chunk}
use Rattle.dsa_area.specs.Sizes.{chunk_size}
use Rattle.dshash_chunks.specs.Held.{held_in}
use Rattle.dshash_chunks.specs.declared.held.ChunkReplies.TheVariants.{Was}
use Rattle.chunk_table.specs.Tables.{IsSpare, item_of}
use Rattle.page_cache.proofs.Frames.{eviction_puts_none, turn_leaves}
use Rattle.page_cache.proofs.Steps.{took, turned}
use Rattle.page_cache.proofs.calls.evict.Goals as goal

pub returns-in-Ok-Some-clause-seat : goal.returns-in-Ok-Some-clause-seat
returns-in-Ok-Some-clause-seat g c =
    let s = c.requires.seat in
    let f = c.in-Ok-Some.ensures in
    let event = rw c.in-Ok-Some.field-0-is at f.event in
    let item = rw c.in-Ok-Some.field-0-is at f.item in
    let freed = c.free_page.ensures in
    let gave = c.give_spare.ensures in (
      record {
        own = f.own;
        area_own = gave.area_own;
        settled = took _ _ _ _ f.caller _ _ _ _ _ _ _ _ _ _ (chunk_size (item_of c.args.cache.now.table)) (is_some c.replace-spare.result) c.in-Ok-Some.evicted.key (held_in c.in-Ok-Some.evicted.chunk) s.settled event freed.gave freed.caller gave.gave gave.area_caller (omega (arith, c.requires.none));
        hand = omega arith;
        spare = subst (λ (o : Option Chunk). IsSpare c.args.cache.now.region c.args.cache.now.table o) (sym c.replace-spare.ensures.after) item;
      },
      f.caller,
    )

pub returns-in-Ok-None-clause-seat : goal.returns-in-Ok-None-clause-seat
returns-in-Ok-None-clause-seat g c =
    let s = c.requires.seat in
    let f = c.in-Ok-None.ensures in (
      record { own = f.own; area_own = s.area_own; settled = turned _ _ _ _ f.caller _ _ _ _ _ _ _ _ _ _ s.settled (rw c.in-Ok-None.field-0-is at f.look).1 refl refl refl; hand = omega arith; spare = s.spare },
      f.caller,
    )

pub returns-in-Ok-Some-clause-same : goal.returns-in-Ok-Some-clause-same
returns-in-Ok-Some-clause-same g c = λ n. turn_leaves _ _ _ _ _ _ _ _ n (rw c.in-Ok-Some.field-0-is at c.in-Ok-Some.ensures.event) (eviction_puts_none n c.in-Ok-Some.evicted.key false (Was (Some (held_in c.in-Ok-Some.evicted.chunk))) false true)

pub returns-in-Ok-None-clause-same : goal.returns-in-Ok-None-clause-same
returns-in-Ok-None-clause-same g c = λ n. turn_leaves _ _ _ _ _ _ _ _ n (rw c.in-Ok-None.field-0-is at c.in-Ok-None.ensures.look).1 (λ page. refl)
