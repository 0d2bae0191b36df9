use Rattle.std.proofs.Common.{◌+◌, ◌/◌, ◌≤◌, List, arith, sym, subst}
use Rattle.dshash_core.specs.Chains.{Item, Among}
use Rattle.dshash_core.proofs.Views.{held_at, next_is, next_ends, among_here}
use Rattle.dshash_core.proofs.buckets.Buckets.next.Goals as goal

pub load-requires-clause-owns : goal.load-requires-clause-owns
load-requires-clause-owns c =
    let it = c.requires.item.2 in
    let room : 2 + c.self.inside.key_words + c.self.inside.value_words ≤ c.self.inside.item_bytes / 8 = c.self.invariant.fits in
    (held_at c.self.inside c.self.invariant c.args.self.now c.self.view_is c.args.item
    (it, (c.args.bucket, c.requires.bucket, subst (λ (l : List Item). Among it l) (sym c.requires.item.3) (among_here it c.requires.item.0 c.requires.item.1)), c.requires.item.4)).owned c.args.item (omega arith) (omega arith)

pub returns-clause-next : goal.returns-clause-next
returns-clause-next c = next_is c.self.inside c.self.invariant c.args.self.now c.self.view_is c.args.bucket c.args.item c.load.result c.requires.bucket c.load.ensures.found

pub returns-clause-ends : goal.returns-clause-ends
returns-clause-ends c = next_ends c.self.inside c.self.invariant c.args.self.now c.self.view_is c.args.bucket c.args.item c.load.result c.requires.bucket c.load.ensures.found
