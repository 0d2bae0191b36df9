use Rattle.dshash_parts.specs.Ending.{whole_of}
use Rattle.join_pairs.specs.Chains.{last_step}
use Rattle.hash_join.proofs.Frozen.{ended_still, maps_still}
use Rattle.hash_join.proofs.gathering.freeze_table.Goals as goal

pub freeze-requires-clause-here : goal.freeze-requires-clause-here
freeze-requires-clause-here c =
    let s = c.args.store in
    (c.in_ok-partitions.ensures.parts s.region s.table (c.close-table.ensures.parts s.region c.requires.store.table)).here

pub freeze-requires-clause-count : goal.freeze-requires-clause-count
freeze-requires-clause-count c =
    let s = c.args.store in
    (c.in_ok-partitions.ensures.parts s.region s.table (c.close-table.ensures.parts s.region c.requires.store.table)).maps.count

pub returns-in-Ok-clause-ended : goal.returns-in-Ok-clause-ended
returns-in-Ok-clause-ended c =
    ended_still last_step c.args.store.table c.args.tables.items c.close-table.result c.take_all.new.table c.in_ok-partitions.ensures.history c.close-table.ensures.ended

pub returns-in-Ok-clause-maps : goal.returns-in-Ok-clause-maps
returns-in-Ok-clause-maps c =
    let s = c.args.store in
    let parts = c.in_ok-partitions.ensures.parts s.region s.table (c.close-table.ensures.parts s.region c.requires.store.table) in
    maps_still (whole_of c.close-table.result) (whole_of c.take_all.new.table) c.in_ok-partitions.ensures.history c.in_ok-partitions.partitions.items c.in-Ok.partitions c.in-Ok.ensures.frozen parts.maps
