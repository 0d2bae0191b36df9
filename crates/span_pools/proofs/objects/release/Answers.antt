use Rattle.std.proofs.Common.{◌∙◌}
use Rattle.word_map.proofs.Maps.{within_true}
use Rattle.span_pools.specs.Places.{base}
use Rattle.span_pools.proofs.RecordStores.{union_any}
use Rattle.span_pools.proofs.objects.release.Goals as goal

pub split-run-requires-clause-owns : goal.split-run-requires-clause-owns
split-run-requires-clause-owns c = λ k x y. rw c.join.ensures.both (union_any c.args.words.now.words c.args.last.words k ∙ c.requires.words c.join.ensures.apart k (within_true (base c.args.layout c.args.page) 8192 k x y))
