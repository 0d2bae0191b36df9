use Rattle.dshash_core.proofs.Views.{bucket_in, link_fits, owned_link, first_is, first_ends}
use Rattle.dshash_core.proofs.buckets.Buckets.first.Goals as goal

pub overflow_add-self-inside : goal.overflow_add-self-inside
overflow_add-self-inside c = link_fits c.self.inside c.self.invariant c.args.bucket (bucket_in c.self.inside c.self.invariant c.args.self.now c.self.view_is c.args.bucket c.requires.bucket)

pub load-requires-clause-owns : goal.load-requires-clause-owns
load-requires-clause-owns c = owned_link c.self.inside c.self.invariant c.args.bucket (bucket_in c.self.inside c.self.invariant c.args.self.now c.self.view_is c.args.bucket c.requires.bucket)

pub returns-clause-first : goal.returns-clause-first
returns-clause-first c = first_is c.self.inside c.self.invariant c.args.self.now c.self.view_is c.args.bucket c.load.result c.requires.bucket c.load.ensures.found

pub returns-clause-ends : goal.returns-clause-ends
returns-clause-ends c = λ z. first_ends c.self.inside c.self.invariant c.args.self.now c.self.view_is c.args.bucket c.load.result c.requires.bucket c.load.ensures.found z
