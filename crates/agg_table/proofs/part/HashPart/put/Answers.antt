use Rattle.std.proofs.Common.{◌≡◌, ◌∙◌, ℕ, List, ap, subst}
use Rattle.lock_book.specs.Shown.{number_of}
use Rattle.dshash_core.specs.Cells.{partition_of}
use Rattle.dshash_core.specs.Key.{hash_of, packed_key}
use Rattle.rel_pointer.specs.Bytes.{AllBytes}
use Rattle.dshash_parts.specs.Promises.{IsMade}
use Rattle.dshash_parts.specs.Tables.{item_of}
use Rattle.dshash_parts.specs.Traces.{sight_of}
use Rattle.dshash_parts.specs.Within.{CallEnded}
use Rattle.agg_cell.specs.Cell.{stepped}
use Rattle.agg_table.specs.Calls.{IsKeyed, longest_chain}
use Rattle.agg_table.proofs.Ended.{ended_trace, is_ended}
use Rattle.agg_table.proofs.Growing.{trace_grew}
use Rattle.agg_table.proofs.Putting.{is_put}
use Rattle.agg_table.proofs.part.HashPart.put.Goals as goal

pub returns-in-Ok-clause-grew : goal.returns-in-Ok-clause-grew
returns-in-Ok-clause-grew g c =
    let made = c.in-Ok.ensures.made in
    let w = trace_grew stepped c.args.self.now.area (number_of c.args.seat.now.table) (sight_of c.args.seat.now.table c.args.seat.now.area) (sight_of c.call_within.new.pass c.call_within.new.apass) made.0 made.2 in
    record { number = c.call_within.ensures.caller; turns = w.mine; seen = w.seen; pages = w.area.pages; pages_seen = w.area.pages_seen; pools = w.area.pools; pools_seen = w.area.pools_seen }

pub returns-in-Err-clause-grew : goal.returns-in-Err-clause-grew
returns-in-Err-clause-grew g c =
    let s = c.args.seat.now in
    let left = ended_trace stepped c.args.self.now.table c.args.self.now.area s.table s.area c.call_within.new.pass c.call_within.new.apass c.words_of-words.result c.args.state.now longest_chain c.in-Err.field-0 c.in-Err.ensures.refused in
    let w = trace_grew stepped c.args.self.now.area (number_of s.table) (sight_of s.table s.area) (sight_of c.call_within.new.pass c.call_within.new.apass) left.0 left.1 in
    record { number = c.call_within.ensures.caller; turns = w.mine; seen = w.seen; pages = w.area.pages; pages_seen = w.area.pages_seen; pools = w.area.pools; pools_seen = w.area.pools_seen }

pub returns-in-Ok-clause-put : goal.returns-in-Ok-clause-put
returns-in-Ok-clause-put g c =
    let made = c.in-Ok.ensures.made in
    let state = c.args.state.now in
    let packed : c.words_of-words.result ≡ packed_key c.args.key.now = c.words_of-words.ensures.packed ∙ ap packed_key c.bytes.ensures.bytes in
    let keyed : IsKeyed (c.args.key.now, state) = record {
      bytes = subst AllBytes c.bytes.ensures.bytes c.words_of-words.ensures.bytes;
      short = c.bytes.ensures.fits;
    } in
    is_put stepped c.args.self.now.area (number_of c.args.seat.now.table) (c.args.key.now, state) (sight_of c.args.seat.now.table c.args.seat.now.area) (sight_of c.call_within.new.pass c.call_within.new.apass) made.0 made.2
    (item_of c.args.self.now.table) c.in-Ok.field-0 keyed
    (subst (λ (k : List ℕ). IsMade (partition_of (hash_of k)) (item_of c.args.self.now.table) k state c.in-Ok.field-0 made.0) packed made.1)

pub returns-in-Err-clause-put : goal.returns-in-Err-clause-put
returns-in-Err-clause-put g c =
    let s = c.args.seat.now in
    let state = c.args.state.now in
    let packed : c.words_of-words.result ≡ packed_key c.args.key.now = c.words_of-words.ensures.packed ∙ ap packed_key c.bytes.ensures.bytes in
    is_ended stepped c.args.self.now.table c.args.self.now.area s.table s.area c.call_within.new.pass c.call_within.new.apass (c.args.key.now, state) c.in-Err.field-0
    (subst (λ (k : List ℕ). CallEnded stepped c.args.self.now.table c.args.self.now.area s.table s.area c.call_within.new.pass c.call_within.new.apass k state longest_chain c.in-Err.field-0) packed c.in-Err.ensures.refused)
