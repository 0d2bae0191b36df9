use Rattle.std.proofs.Common.{◌∙◌, refl, sym}
use Rattle.lock_book.specs.Shown.{mine_of, seen_of}
use Rattle.dshash_chunks.specs.declared.held.ChunkReplies.TheVariants.{Did}
use Rattle.page_cache.specs.Owned.{under}
use Rattle.page_cache.proofs.Kept.{kept_as}
use Rattle.page_cache.proofs.Frames.{look_puts_none, turn_leaves}
use Rattle.page_cache.proofs.Results.{found_page}
use Rattle.page_cache.proofs.Seats.{seat_kept}
use Rattle.page_cache.proofs.Steps.{turned}
use Rattle.page_cache.proofs.calls.get.Goals as goal

pub returns-clause-seat : goal.returns-clause-seat
returns-clause-seat g c =
    let s = c.requires.seat in
    let f = c.with_chunk.ensures in
    (record { own = f.own; area_own = s.area_own; settled = turned _ _ _ _ f.caller _ _ _ _ _ _ _ _ _ _ s.settled f.event refl refl refl; hand = s.hand; spare = s.spare }, f.caller)

pub returns-clause-same : goal.returns-clause-same
returns-clause-same g c = λ n. turn_leaves _ _ _ _ _ _ _ _ n c.with_chunk.ensures.event (look_puts_none n c.args.name.now tt (Did c.with_chunk.result))

pub returns-clause-kept : goal.returns-clause-kept
returns-clause-kept g c = λ owner.
    let f = c.with_chunk.ensures in
    let name = c.args.name.now in
    let q = c.with_chunk.new.pass in
    kept_as (seen_of q) (mine_of q) (mine_of c.args.seat.now.pass) name (under (seen_of q) name) c.with_chunk.result (found_page f.found.from _ c.with_chunk.result f.found.replied f.found.stands) (returns-clause-same g c name)
    (seat_kept c.args.cache.now (record { pass = q; apass = c.args.seat.now.apass; tickets = c.args.seat.now.tickets; hand = c.args.seat.now.hand; spare = c.args.seat.now.spare }) c.requires.cache (returns-clause-seat g c).0 name (owner ∙ sym f.caller))
