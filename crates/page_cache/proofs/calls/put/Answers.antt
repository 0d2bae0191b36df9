use Rattle.std.proofs.Common.{is_some, option_map, ◌-◌, ◌<◌, ◌∙◌, true, Some, inr, refl, ap, sym, subst, arith}
use Rattle.region_words.specs.declared.chunk.Chunk.{Chunk}
use Rattle.lock_book.specs.Shown.{mine_of, number_of, seen_of}
use Rattle.dshash_core.specs.Key.{hash_of}
use Rattle.dshash_core.specs.Cells.{partition_of}
use Rattle.dshash_chunks.specs.Held.{held_in}
use Rattle.dshash_chunks.specs.declared.held.ChunkCalls.TheVariants.{Put}
use Rattle.dshash_chunks.specs.declared.held.ChunkReplies.TheVariants.{Was}
use Rattle.dshash_parts.specs.Sweeps.{GaveBack}
use Rattle.dshash_parts.proofs.Cells.{cell_told}
use Rattle.dshash_parts.proofs.Owners.{lawful}
use Rattle.dshash_parts.proofs.Uses.{partition_low}
use Rattle.chunk_table.specs.Tables.{item_of, sight_of}
use Rattle.page_cache.specs.Pages.{may, shown, stepped}
use Rattle.page_cache.proofs.Causes.{brings, room_cause}
use Rattle.page_cache.proofs.Frames.{events_leave, made_leaves, none_put}
use Rattle.page_cache.proofs.Results.{went_well}
use Rattle.page_cache.proofs.Seats.{evicts, seat_kept, stands_kept}
use Rattle.page_cache.proofs.Steps.{no_room, put_new, put_over, turned_away}
use Rattle.page_cache.proofs.calls.put.Goals as goal

pub returns-in-Err-clause-evicted : goal.returns-in-Err-clause-evicted
returns-in-Err-clause-evicted g c = evicts c.args.cache.now c.args.seat.now c.make_room.new.seat c.requires.seat c.in-Err.ensures.seat.0

pub returns-in-Err-clause-cause : goal.returns-in-Err-clause-cause
returns-in-Err-clause-cause g c = (c.args.seat.now, λ none. c.in-Err.ensures.brings c.args.seat.now, c.in-Err.ensures.cause _ _)

pub returns-in-Err-chunk_of-clause-seat : goal.returns-in-Err-chunk_of-clause-seat
returns-in-Err-chunk_of-clause-seat g c =
    let room = c.make_room.ensures.seat in
    let s = room.0 in
    let seat = c.make_room.new.seat in
    let n = number_of seat.pass in
    let settled = no_room c.args.cache.now.area n n c.args.cache.now.share refl (seen_of seat.pass) (mine_of seat.pass) seat.apass c.chunk_of.new.apass seat.tickets c.in-Err-chunk_of.why s.settled c.in-Err-chunk_of.ensures.refused c.chunk_of.ensures.caller in
    (record { own = s.own; area_own = c.chunk_of.ensures.own; settled = settled; hand = s.hand; spare = s.spare }, room.1)

pub returns-in-Err-chunk_of-clause-evicted : goal.returns-in-Err-chunk_of-clause-evicted
returns-in-Err-chunk_of-clause-evicted g c = evicts c.args.cache.now c.args.seat.now _ c.requires.seat (returns-in-Err-chunk_of-clause-seat g c).0

pub returns-in-Err-chunk_of-clause-cause : goal.returns-in-Err-chunk_of-clause-cause
returns-in-Err-chunk_of-clause-cause g c =
    let seat = c.make_room.new.seat in
    let why = c.in-Err-chunk_of.why in
    (seat, λ none. brings seat why (went_well c.make_room.result c.in_default.not-Err c.make_room.ensures.item none), room_cause c.args.cache.now seat _ c.args.name.now c.args.page.now why c.in-Err-chunk_of.ensures.refused)

pub returns-in-Ok-Some-clause-seat : goal.returns-in-Ok-Some-clause-seat
returns-in-Ok-Some-clause-seat g c =
    let room = c.make_room.ensures.seat in
    let seat = c.make_room.new.seat in
    let q = c.put_with_spare.new in
    let f = c.in-Ok-Some.ensures in
    let made = rw c.in-Ok-Some.field-0-is at f.made in
    let freed = c.free_page.ensures in
    let name = c.args.name.now in
    let settled = put_over c.args.cache.now.area (number_of seat.pass) (number_of q.pass) c.args.cache.now.share f.caller (seen_of seat.pass) (mine_of seat.pass) seat.apass c.chunk_of.new.apass c.free_page.new.apass (sight_of q.pass q.apass) seat.tickets (partition_of (hash_of name)) (item_of c.args.cache.now.table) c.in-Ok.chunk.at name
    (held_in c.in-Ok.chunk) (held_in c.in-Ok-Some.before) made.0 room.0.settled c.in-Ok.ensures.granted c.chunk_of.ensures.caller made.1 made.2 freed.gave freed.caller in
    (record { own = f.own; area_own = freed.own; settled = settled; hand = room.0.hand; spare = f.spare }, f.caller ∙ room.1)

pub returns-in-Ok-None-clause-seat : goal.returns-in-Ok-None-clause-seat
returns-in-Ok-None-clause-seat g c =
    let room = c.make_room.ensures.seat in
    let seat = c.make_room.new.seat in
    let q = c.put_with_spare.new in
    let f = c.in-Ok-None.ensures in
    let made = rw c.in-Ok-None.field-0-is at f.made in
    let name = c.args.name.now in
    let some : 0 < seat.tickets = went_well c.make_room.result c.in_default.not-Err c.make_room.ensures.ticket in
    let settled = put_new c.args.cache.now.area (number_of seat.pass) (number_of q.pass) c.args.cache.now.share f.caller (seen_of seat.pass) (mine_of seat.pass) seat.apass c.chunk_of.new.apass (sight_of q.pass q.apass) seat.tickets (seat.tickets - 1) (partition_of (hash_of name)) (item_of c.args.cache.now.table) c.in-Ok.chunk.at name
    (held_in c.in-Ok.chunk) made.0 room.0.settled c.in-Ok.ensures.granted c.chunk_of.ensures.caller made.1 made.2 (omega (arith, some)) in
    (record { own = f.own; area_own = f.area_own; settled = settled; hand = room.0.hand; spare = f.spare }, f.caller ∙ room.1)

pub returns-in-Ok-Some-clause-stands : goal.returns-in-Ok-Some-clause-stands
returns-in-Ok-Some-clause-stands g c =
    let f = c.in-Ok-Some.ensures in
    let name = c.args.name.now in
    let home = partition_of (hash_of name) in
    let told = cell_told stepped home _ name _ _ (seen_of c.put_with_spare.new.pass home) (lawful stepped may home _ (f.own.stands.lawful home _ (c.requires.cache.table.parts home (partition_low name)))) f.last in
    ap shown told.1 ∙ ap (λ page. Some page) c.in-Ok.ensures.words

pub returns-in-Ok-Some-clause-kept : goal.returns-in-Ok-Some-clause-kept
returns-in-Ok-Some-clause-kept g c =
    let q = c.put_with_spare.new.pass in
    let name = c.args.name.now in
    let seat = returns-in-Ok-Some-clause-seat g c in
    stands_kept (seen_of q) (mine_of q) name c.args.page.now (seat_kept c.args.cache.now _ c.requires.cache seat.0 name (c.requires.owner ∙ sym seat.1)) (returns-in-Ok-Some-clause-stands g c)

pub returns-in-Ok-Some-clause-evicted : goal.returns-in-Ok-Some-clause-evicted
returns-in-Ok-Some-clause-evicted g c = evicts c.args.cache.now c.args.seat.now _ c.requires.seat (returns-in-Ok-Some-clause-seat g c).0

pub returns-in-Ok-Some-clause-others : goal.returns-in-Ok-Some-clause-others
returns-in-Ok-Some-clause-others g c = λ n ne.
    let seat = c.make_room.new.seat in
    let q = c.put_with_spare.new in
    let name = c.args.name.now in
    let m = c.in-Ok-Some.ensures.made in
    made_leaves n c.args.cache.now.area (number_of seat.pass) (partition_of (hash_of name)) (item_of c.args.cache.now.table) name (Put (held_in c.in-Ok.chunk)) (is_some seat.spare) (is_some q.spare) (Was (option_map held_in c.in-Ok-Some.field-0)) (sight_of seat.pass c.chunk_of.new.apass) (sight_of q.pass q.apass) m.0 ne m.1 m.2 ∙ c.make_room.ensures.same n

pub returns-in-Ok-None-clause-stands : goal.returns-in-Ok-None-clause-stands
returns-in-Ok-None-clause-stands g c =
    let f = c.in-Ok-None.ensures in
    let name = c.args.name.now in
    let home = partition_of (hash_of name) in
    let told = cell_told stepped home _ name _ _ (seen_of c.put_with_spare.new.pass home) (lawful stepped may home _ (f.own.stands.lawful home _ (c.requires.cache.table.parts home (partition_low name)))) f.last in
    ap shown told.1 ∙ ap (λ page. Some page) c.in-Ok.ensures.words

pub returns-in-Ok-None-clause-kept : goal.returns-in-Ok-None-clause-kept
returns-in-Ok-None-clause-kept g c =
    let q = c.put_with_spare.new.pass in
    let name = c.args.name.now in
    let seat = returns-in-Ok-None-clause-seat g c in
    stands_kept (seen_of q) (mine_of q) name c.args.page.now (seat_kept c.args.cache.now _ c.requires.cache seat.0 name (c.requires.owner ∙ sym seat.1)) (returns-in-Ok-None-clause-stands g c)

pub returns-in-Ok-None-clause-evicted : goal.returns-in-Ok-None-clause-evicted
returns-in-Ok-None-clause-evicted g c = evicts c.args.cache.now c.args.seat.now _ c.requires.seat (returns-in-Ok-None-clause-seat g c).0

pub returns-in-Ok-None-clause-others : goal.returns-in-Ok-None-clause-others
returns-in-Ok-None-clause-others g c = λ n ne.
    let seat = c.make_room.new.seat in
    let q = c.put_with_spare.new in
    let name = c.args.name.now in
    let m = c.in-Ok-None.ensures.made in
    made_leaves n c.args.cache.now.area (number_of seat.pass) (partition_of (hash_of name)) (item_of c.args.cache.now.table) name (Put (held_in c.in-Ok.chunk)) (is_some seat.spare) (is_some q.spare) (Was (option_map held_in c.in-Ok-None.field-0)) (sight_of seat.pass c.chunk_of.new.apass) (sight_of q.pass q.apass) m.0 ne m.1 m.2 ∙ c.make_room.ensures.same n

pub returns-in-Err-put_with_spare-clause-seat : goal.returns-in-Err-put_with_spare-clause-seat
returns-in-Err-put_with_spare-clause-seat g c =
    let room = c.make_room.ensures.seat in
    let seat = c.make_room.new.seat in
    let q = c.put_with_spare.new in
    let f = c.in-Err-put_with_spare.ensures in
    let m = f.refused in
    let freed = c.free_page-in-Err-put_with_spare.ensures in
    let z = c.free_page-in-Err-put_with_spare.new.apass in
    let away = turned_away c.args.cache.now.area (number_of seat.pass) (number_of q.pass) c.args.cache.now.share f.caller (seen_of seat.pass) (mine_of seat.pass) seat.apass c.chunk_of.new.apass z (sight_of q.pass q.apass) seat.tickets c.in-Ok.chunk.at c.in-Err-put_with_spare.field-0.chunk.bytes
    m.0 room.0.settled c.in-Ok.ensures.granted c.chunk_of.ensures.caller m.1.none m.2 freed.gave freed.caller in
    (record { own = f.own; area_own = freed.own; settled = away.0; hand = room.0.hand; spare = f.spare }, f.caller ∙ room.1)

pub returns-in-Err-put_with_spare-clause-evicted : goal.returns-in-Err-put_with_spare-clause-evicted
returns-in-Err-put_with_spare-clause-evicted g c = evicts c.args.cache.now c.args.seat.now _ c.requires.seat (returns-in-Err-put_with_spare-clause-seat g c).0

pub returns-in-Err-put_with_spare-clause-others : goal.returns-in-Err-put_with_spare-clause-others
returns-in-Err-put_with_spare-clause-others g c = λ n ne.
    let seat = c.make_room.new.seat in
    let q = c.put_with_spare.new in
    let m = c.in-Err-put_with_spare.ensures.refused in
    events_leave n c.args.cache.now.area (number_of seat.pass) (sight_of seat.pass c.chunk_of.new.apass) (sight_of q.pass q.apass) m.0 m.2 (none_put n m.0 m.1.none) ∙ c.make_room.ensures.same n

pub returns-in-Err-put_with_spare-clause-cause : goal.returns-in-Err-put_with_spare-clause-cause
returns-in-Err-put_with_spare-clause-cause g c =
    let room = c.make_room.ensures.seat in
    let seat = c.make_room.new.seat in
    let q = c.put_with_spare.new in
    let f = c.in-Err-put_with_spare.ensures in
    let m = f.refused in
    let freed = c.free_page-in-Err-put_with_spare.ensures in
    let z = c.free_page-in-Err-put_with_spare.new.apass in
    let gave = subst (λ (k : Chunk). GaveBack c.args.cache.now.area q.apass z k.bytes true) f.back freed.gave in
    let away = turned_away c.args.cache.now.area (number_of seat.pass) (number_of q.pass) c.args.cache.now.share f.caller (seen_of seat.pass) (mine_of seat.pass) seat.apass c.chunk_of.new.apass z (sight_of q.pass q.apass) seat.tickets c.in-Ok.chunk.at c.in-Ok.chunk.bytes
    m.0 room.0.settled c.in-Ok.ensures.granted c.chunk_of.ensures.caller m.1.none m.2 gave freed.caller in
    (seat, went_well c.make_room.result c.in_default.not-Err c.make_room.ensures.item, inr (record { chunk = held_in c.in-Ok.chunk; is_page = c.in-Ok.ensures.words; events = m.0; accepted = gave.0; refused = m.1; trace = away.1 }))
