use Rattle.std.proofs.Common.{◌≡◌, ◌/◌, ℕ, List, ap, sym, subst, ◌∙◌, arith}
use Rattle.std.specs.List.{All}
use Rattle.std.proofs.lemmas.List.Elements.{All-push}
use Rattle.std_alloc.specs.Arc.{arc_value}
use Rattle.c_table.proofs.Slices.{one_more_words}
use Rattle.lock_book.specs.Shown.{mine_of, number_of, seen_of}
use Rattle.dshash_core.specs.Cells.{partition_of}
use Rattle.dshash_parts.specs.Tables.{AtPartition, Belongs}
use Rattle.dshash_parts.specs.declared.histories.PartitionCalls.TheVariants.{Moves}
use Rattle.dshash_parts.specs.declared.histories.PartitionReplies.TheVariants.{Moved}
use Rattle.c_table.specs.Tries.{home_of}
use Rattle.c_records.specs.Values.{stepped}
use Rattle.region_words.specs.declared.chunk.Chunk.{Chunk}
use Rattle.c_table.specs.Reserves.{IsReserve}
use Rattle.c_records.specs.declared.shared.Shared.{Shared}
use Rattle.c_records.proofs.caller.grow.Goals as goal

pub try_grow-requires-clause-own : goal.try_grow-requires-clause-own
try_grow-requires-clause-own c κs = subst (λ (x : Shared). Belongs x.table c.args.share.now.pass) (sym c.deref-2.ensures) c.requires.share.own

pub returns-in-Ok-clause-share : goal.returns-in-Ok-clause-share
returns-in-Ok-clause-share c =
    let i = c.requires.share in
    let region = (arc_value c.args.share.now.shared).region in
    record {
      shared = i.shared;
      own = subst (λ (x : Shared). Belongs x.table c.try_grow.new.pass) c.deref-2.ensures c.in-Ok.ensures.own;
      others = i.others;
      reserve = subst (λ (x : Shared). IsReserve x.region c.take_slice.new.reserve) c.deref.ensures c.take_slice.ensures.reserve;
      items = i.items;
      slices = subst (λ (l : List Chunk). All (λ k. k.part.region ≡ region) l) (sym c.push_reserved.ensures.items)
          (All-push (λ (k : Chunk). k.part.region ≡ region) c.take_slice.new.slices.items c.in-Ok.left (subst (λ (x : Shared). All (λ k. k.part.region ≡ x.region) c.take_slice.new.slices.items) c.deref.ensures c.take_slice.ensures.slices) (c.in-Ok.ensures.here ∙ ap (λ (x : Shared). x.region) c.deref-3.ensures));
    }

pub returns-in-Ok-clause-grown : goal.returns-in-Ok-clause-grown
returns-in-Ok-clause-grown c =
    let more = one_more_words c.push_reserved.new.self.items c.take_slice.new.slices.items c.in-Ok.left c.push_reserved.ensures.items in
    let cut = c.in-Some.ensures.some in
    let long = c.in-Some.ensures.slice.1 in
    let home : c.partition_of_hash-number.result ≡ home_of c.args.key = c.partition_of_hash-number.ensures.is ∙ ap partition_of c.hash_key.ensures in
    let event = subst (λ (z : ℕ). AtPartition stepped (number_of c.args.share.now.pass) (seen_of c.args.share.now.pass) (mine_of c.args.share.now.pass) (seen_of c.try_grow.new.pass) (mine_of c.try_grow.new.pass) z (Moves c.args.size) (Moved c.in-Ok.left.bytes)) home c.in-Ok.ensures.event in
    (c.in-Ok.left.bytes, c.in-Some.slice.bytes / 8, event, omega (arith, long, c.bucket_count-words.ensures), omega arith)
