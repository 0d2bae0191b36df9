use Rattle.std.proofs.Common.{◌≡◌, ◌+◌, ◌*◌, ◌<◌, [], length, List, inl, inr, is_some, refl, ap, sym, subst, ◌∙◌, arith}
use Rattle.std.specs.List.{All}
use Rattle.region_words.specs.declared.chunk.Chunk.{Chunk}
use Rattle.std_alloc.specs.Arc.{arc_value}
use Rattle.dshash_parts.specs.Promises.{one_if}
use Rattle.dshash_parts.specs.Tables.{Belongs}
use Rattle.c_records.specs.Items.{IsItem}
use Rattle.c_table.specs.Reserves.{IsReserve, chunk_words}
use Rattle.c_records.specs.Shares.{words_of}
use Rattle.c_records.specs.declared.shared.Shared.{Shared}
use Rattle.c_records.proofs.Tries.{full, lacks, made}
use Rattle.c_records.proofs.caller.change.Goals as goal

pub try_call-requires-clause-own : goal.try_call-requires-clause-own
try_call-requires-clause-own c κs = subst (λ (x : Shared). Belongs x.table c.args.share.now.pass) (sym c.deref-2.ensures) c.requires.share.own

pub grow-requires-clause-share : goal.grow-requires-clause-share
grow-requires-clause-share c =
    let i = c.requires.share in
    record {
      shared = i.shared;
      own = subst (λ (x : Shared). Belongs x.table c.try_call.new.pass) c.deref-2.ensures c.in-Ok-TooFull.ensures.own;
      others = i.others;
      reserve = subst (λ (x : Shared). IsReserve x.region c.take_item-spare.new.reserve) c.deref.ensures c.take_item-spare.ensures.reserve;
      items = subst (λ (x : Shared). All (IsItem x.region) c.keep_item-in-Ok-TooFull.new.items.items) c.deref-in-Ok-TooFull.ensures c.keep_item-in-Ok-TooFull.ensures.items;
      slices = subst (λ (l : List Chunk). All (λ k. k.part.region ≡ (arc_value c.args.share.now.shared).region) l) (sym c.make_places.ensures.slices) i.slices;
    }

pub returns-in-Ok-Done-clause-share : goal.returns-in-Ok-Done-clause-share
returns-in-Ok-Done-clause-share c =
    let i = c.requires.share in
    record {
      shared = i.shared;
      own = subst (λ (x : Shared). Belongs x.table c.try_call.new.pass) c.deref-2.ensures c.in-Ok-Done.ensures.own;
      others = i.others;
      reserve = subst (λ (x : Shared). IsReserve x.region c.take_item-spare.new.reserve) c.deref.ensures c.take_item-spare.ensures.reserve;
      items = subst (λ (x : Shared). All (IsItem x.region) c.keep_item-in-Ok-Done.new.items.items) c.deref-in-Ok-Done-2.ensures c.keep_item-in-Ok-Done.ensures.items;
      slices = subst (λ (l : List Chunk). All (λ k. k.part.region ≡ (arc_value c.args.share.now.shared).region) l) (sym c.make_places.ensures.slices) i.slices;
    }

pub returns-in-Ok-NeedItem-clause-share : goal.returns-in-Ok-NeedItem-clause-share
returns-in-Ok-NeedItem-clause-share c =
    let i = c.requires.share in
    record {
      shared = i.shared;
      own = subst (λ (x : Shared). Belongs x.table c.try_call.new.pass) c.deref-2.ensures c.in-Ok-NeedItem.ensures.own;
      others = i.others;
      reserve = subst (λ (x : Shared). IsReserve x.region c.take_item-spare.new.reserve) c.deref.ensures c.take_item-spare.ensures.reserve;
      items = subst (λ (x : Shared). All (IsItem x.region) c.take_item-spare.new.items.items) c.deref.ensures c.take_item-spare.ensures.items;
      slices = subst (λ (l : List Chunk). All (λ k. k.part.region ≡ (arc_value c.args.share.now.shared).region) l) (sym c.make_places.ensures.slices) i.slices;
    }

pub returns-in-Ok-Done-clause-tries : goal.returns-in-Ok-Done-clause-tries
returns-in-Ok-Done-clause-tries c =
    let after = record c.args.share.now { pass = c.try_call.new.pass; reserve = c.take_item-spare.new.reserve; items = c.keep_item-in-Ok-Done.new.items; slices = c.make_places.new.slices } in
    let same = ap length c.make_places.ensures.items in
    let kept = ap chunk_words c.make_places.ensures.slices in
    let taken = c.take_item-spare.ensures.words in
    let one = c.keep_item.ensures.count in
    let two = c.keep_item-in-Ok-Done.ensures.count in
    let words : words_of after + 20 * one_if (is_some c.take_item-spare.result) ≡ words_of c.args.share.now + 20 * one_if (is_some c.in-Ok-Done.unused) + 20 * one_if (is_some c.in-Ok-Done.freed) = omega arith in
    (record { table = refl; caller = c.in-Ok-Done.ensures.caller }, made c.args.share.now after c.args.key c.args.call (is_some c.take_item-spare.result) c.in-Ok-Done.field-0 c.in-Ok-Done.reply c.in-Ok-Done.unused c.in-Ok-Done.freed c.in-Ok-Done.field-0-is c.in-Ok-Done.ensures.event c.in-Ok-Done.ensures.told words)

pub returns-in-Ok-NeedItem-clause-tries : goal.returns-in-Ok-NeedItem-clause-tries
returns-in-Ok-NeedItem-clause-tries c =
    let after = record c.args.share.now { pass = c.try_call.new.pass; reserve = c.take_item-spare.new.reserve; items = c.take_item-spare.new.items; slices = c.make_places.new.slices } in
    let same = ap length c.make_places.ensures.items in
    let kept = ap chunk_words c.make_places.ensures.slices in
    let l = lacks c.args.share.now after c.args.key c.args.call ((c.take_item-spare.new.reserve.left + 20 * length c.take_item-spare.new.items.items ≡ c.args.share.now.reserve.left + 20 * length c.make_places.new.items.items) × (c.make_places.new.items.items ≡ []) × (c.args.share.now.reserve.left < 20))
    c.take_item-spare.result c.in-Ok-NeedItem.field-0 c.in-Ok-NeedItem.field-0-is c.in-Ok-NeedItem.ensures.event c.take_item-spare.ensures.none in
    let told = l.1.0 in
    (record { table = refl; caller = c.in-Ok-NeedItem.ensures.caller }, inr (inr (inl (refl, l.0, omega arith, sym c.make_places.ensures.items ∙ l.1.1, l.1.2))))

pub returns-in-Err-clause-tries : goal.returns-in-Err-clause-tries
returns-in-Err-clause-tries c =
    let same = ap length c.make_places.ensures.items in
    let kept = ap chunk_words c.make_places.ensures.slices in
    let taken = c.take_item-spare.ensures.words in
    let one = c.keep_item-in-Err.ensures.count in
    let back = ap (λ o. one_if (is_some o)) c.in-Err.ensures.busy.0 in
    (record { table = refl; caller = c.in-Err.ensures.caller }, inl (refl, c.in-Err.ensures.busy.1, omega arith))

pub returns-in-Ok-TooFull-clause-tries : goal.returns-in-Ok-TooFull-clause-tries
returns-in-Ok-TooFull-clause-tries c =
    let full_one = record c.args.share.now { pass = c.try_call.new.pass; reserve = c.take_item-spare.new.reserve; items = c.keep_item-in-Ok-TooFull.new.items; slices = c.make_places.new.slices } in
    let same = ap length c.make_places.ensures.items in
    let kept = ap chunk_words c.make_places.ensures.slices in
    let taken = c.take_item-spare.ensures.words in
    let one = c.keep_item-in-Ok-TooFull.ensures.count in
    let words : words_of full_one + 20 * one_if (is_some c.take_item-spare.result) ≡ words_of c.args.share.now + 20 * one_if (is_some c.in-Ok-TooFull.spare) = omega arith in
    let finds = full c.args.share.now full_one c.args.key c.args.call (is_some c.take_item-spare.result) c.in-Ok-TooFull.field-0 c.in-Ok-TooFull.size c.in-Ok-TooFull.spare c.in-Ok-TooFull.field-0-is c.in-Ok-TooFull.ensures.event words in
    (record { table = c.grow.ensures.stays.table; caller = c.grow.ensures.stays.caller ∙ c.in-Ok-TooFull.ensures.caller }, inr (inr (inr (full_one, c.in-Ok-TooFull.size, finds, c.grow.ensures.grown))))
