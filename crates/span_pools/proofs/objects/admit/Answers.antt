use Rattle.std.proofs.Common.{◌+◌, arith, refl}
use Rattle.word_map.proofs.Maps.{within_true}
use Rattle.span_pools.specs.Places.{base, record_at}
use Rattle.span_pools.proofs.Covers.{size_small, record_in}
use Rattle.span_pools.proofs.RecordStores.{union_has, keep_has, admitted}
use Rattle.span_pools.proofs.objects.admit.Goals as goal

pub store-requires-clause-owns : goal.store-requires-clause-owns
store-requires-clause-owns c = (rw c.join.ensures.both (union_has c.args.records.now.words c.args.control.words (record_at c.args.layout c.args.page) 112 (record_at c.args.layout c.args.page) c.requires.control (record_in c.args.layout c.args.page 0 (record_at c.args.layout c.args.page) (omega arith) (omega arith))))

pub store-requires-2-clause-owns : goal.store-requires-2-clause-owns
store-requires-2-clause-owns c = keep_has c.join.new.self c.store.new.self _ _ (record_at c.args.layout c.args.page + 1) c.store.ensures (rw c.join.ensures.both (union_has c.args.records.now.words c.args.control.words (record_at c.args.layout c.args.page) 112 (record_at c.args.layout c.args.page + 1) c.requires.control (record_in c.args.layout c.args.page 1 (record_at c.args.layout c.args.page + 1) (omega arith) refl)))

pub store-requires-3-clause-owns : goal.store-requires-3-clause-owns
store-requires-3-clause-owns c = keep_has c.store.new.self c.store-2.new.self _ _ (record_at c.args.layout c.args.page + 2) c.store-2.ensures (keep_has c.join.new.self c.store.new.self _ _ (record_at c.args.layout c.args.page + 2) c.store.ensures (rw c.join.ensures.both (union_has c.args.records.now.words c.args.control.words (record_at c.args.layout c.args.page) 112 (record_at c.args.layout c.args.page + 2) c.requires.control (record_in c.args.layout c.args.page 2 (record_at c.args.layout c.args.page + 2) (omega arith) refl))))

pub split-requires-clause-owns : goal.split-requires-clause-owns
split-requires-clause-owns c = λ k x y. let s = size_small c.args.layout c.requires.layout in rw c.join-2.ensures.both (union_has c.args.words.now.words c.args.run.words (base c.args.layout c.args.page) 8192 k c.requires.run (within_true (base c.args.layout c.args.page) 8192 k x (omega arith)))

pub returns : goal.returns
returns c = admitted c.args.layout c.args.page c.args.records.now c.args.words.now c.args.control c.args.run c.join.new.self c.store.new.self c.store-2.new.self c.store-3.new.self c.join-2.new.self c.split.new.self c.split.result c.requires.layout c.requires.control c.join.ensures.apart c.join.ensures.both c.store.ensures c.store-2.ensures c.store-3.ensures c.join-2.ensures.both c.split.ensures.rest c.split.ensures.range
