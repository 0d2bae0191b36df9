use Rattle.std.proofs.Common.{◌≡◌, ◌≤◌, ◌+◌, ◌++◌, length, map, vec_len, vec_capacity}
use Rattle.std.specs.Vec.Iter.{into_iter_items}
use Rattle.dshash_parts.specs.Asked.{name_of, state_of}
use Rattle.dshash_parts.specs.Opening.{HaveWords, opens_from}
use Rattle.chunk_table.proofs.open.partitions.Given as goal

abbrev pub invariant-loop-slice : goal.invariant-loop-slice
invariant-loop-slice g l =
    let left = into_iter_items l.slice-iterator in
    record {
      slices : HaveWords l.r left;
      few : l.number + length left ≤ 128;
      room : vec_len l.parts + length left ≤ vec_capacity l.parts;
      opens : map (λ x. (name_of x.number x.partition, state_of x.partition)) l.parts.items ++ opens_from l.r l.seed l.key_words l.item_chunk l.number (length left) ≡ opens_from l.r l.seed l.key_words l.item_chunk 0 (length l.fn.slices.items);
    }
