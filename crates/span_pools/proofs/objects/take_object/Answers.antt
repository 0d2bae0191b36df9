use Rattle.std.proofs.Common.{◌≡◌, ℕ, true, subst}
use Rattle.word_map.specs.WordMap.{is_within}
use Rattle.word_map.proofs.Maps.{within_true}
use Rattle.span_pools.proofs.RecordStores.{taken_out}
use Rattle.span_pools.proofs.objects.take_object.Goals as goal

pub split-requires-clause-owns : goal.split-requires-clause-owns
split-requires-clause-owns c = λ k x y.
    let n = c.next_free-place.ensures.next in
    rw c.next_free-place.ensures.words (c.requires.whole n.index k n.low n.was_free (subst (λ (z : ℕ). is_within z c.args.layout.size k ≡ true) n.at_is (within_true c.next_free-place.result c.args.layout.size k x y)))

pub returns : goal.returns
returns c = taken_out c.args.layout c.args.page c.room-room.result c.next_free-place.result c.args.records.now c.args.words.now c.next_free-place.new.records c.store.new.self c.split.new.self c.split.result c.requires.layout c.room-room.ensures.room (rw c.room-room.ensures.same at c.next_free-place.ensures.next) c.store.ensures (rw c.next_free-place.ensures.words at c.split.ensures.rest) (rw c.next_free-place.ensures.words at c.split.ensures.range)
