use Rattle.std.proofs.Common.{◌≡◌, ◌≤◌, ℕ, is_some, arith, sym, ap, ◌∙◌}
use Rattle.word_map.proofs.Maps.{within_true}
use Rattle.span_pools.proofs.FreeLists.{room_most}
use Rattle.span_pools.proofs.RecordStores.{union_has, put_back, some_same, keep_has}
use Rattle.span_pools.proofs.Covers.{objects_small}
use Rattle.span_pools.specs.Places.{record_at}
use Rattle.span_pools.proofs.objects.put_object.Goals as goal

pub store-requires-clause-owns : goal.store-requires-clause-owns
store-requires-clause-owns c = rw c.join.ensures.both (union_has c.args.words.now.words c.args.part.words c.args.place c.args.layout.size c.args.place c.requires.just (within_true c.args.place c.args.layout.size c.args.place (omega arith) (omega arith)))

pub overflow_add-room : goal.overflow_add-room
overflow_add-room c =
    let e = some_same c.requires.says.room c.load-room.result (sym c.requires.says.room_is ∙ c.load-room.ensures.found) in
    let most = room_most _ _ _ _ _ _ c.requires.says.lists in
    let few = objects_small c.args.layout c.requires.layout in
    let low : c.load-room.result ≤ 8192 = small c.requires.says.room c.load-room.result c.args.layout.objects e most few in
    omega (arith, low)
  where
    small : (a b n : ℕ) → a ≡ b → a ≤ n → n ≤ 8192 → b ≤ 8192
    small a b n e h k = omega arith

pub store-requires-3-clause-owns : goal.store-requires-3-clause-owns
store-requires-3-clause-owns c = keep_has c.load-head.new.self c.store-2.new.self _ _ (record_at c.args.layout c.args.page) c.store-2.ensures (rw (c.load-head.ensures.same, c.load-room.ensures.same) (ap is_some c.load-room.ensures.found))

pub returns : goal.returns
returns c = put_back c.args.layout c.args.page c.load-room.result c.load-head.result c.args.place c.args.records.now c.args.words.now c.args.part c.store-2.new.self c.store-3.new.self c.store.new.self c.requires.layout c.requires.says c.requires.object c.requires.just c.join.ensures.apart c.load-room.ensures.found (rw c.load-room.ensures.same at c.load-head.ensures.found)
    (rw c.join.ensures.both at c.store.ensures) (rw (c.load-head.ensures.same, c.load-room.ensures.same) at c.store-2.ensures) c.store-3.ensures
