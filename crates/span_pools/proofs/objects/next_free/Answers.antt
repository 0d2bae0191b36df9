use Rattle.std.proofs.Common.{arith}
use Rattle.span_pools.proofs.RecordStores.{listed_owned, next_listed, next_fresh}
use Rattle.span_pools.proofs.objects.next_free.Goals as goal

pub load-next-requires-clause-owns : goal.load-next-requires-clause-owns
load-next-requires-clause-owns c = listed_owned c.args.layout c.args.page c.load-head.result c.args.records.now.words c.args.words.now.words c.requires.says c.load-head.ensures.found c.if-head-gt0.true

pub returns-then-head-gt0-clause-next : goal.returns-then-head-gt0-clause-next
returns-then-head-gt0-clause-next c = next_listed c.args.layout c.args.page c.args.room c.load-head.result c.load-next.result c.args.records.now c.args.words.now c.store.new.self c.requires.says c.requires.room c.load-head.ensures.found c.if-head-gt0.true c.load-next.ensures.found (rw c.load-head.ensures.same at c.store.ensures)

pub returns-clause-next : goal.returns-clause-next
returns-clause-next c = next_fresh c.args.layout c.args.page c.args.room c.load-head.result c.load-used.result c.args.records.now c.args.words.now c.store-2.new.self c.requires.layout c.requires.says c.requires.room c.load-head.ensures.found (omega arith) (rw c.load-head.ensures.same at c.load-used.ensures.found) c.requires.some (rw (c.load-used.ensures.same, c.load-head.ensures.same) at c.store-2.ensures)
