use Rattle.std.proofs.Common.{List, ℕ, Some, arith, subst}
use Rattle.mq_ring.proofs.Distances.{power_few}
use Rattle.shell_memory.proofs.Named.{all_after, not-there}
use Rattle.shell_memory.specs.Names.{Puts, under}
use Rattle.shell_sync.specs.Rings.{IsQueue}
use Rattle.shell_sync.proofs.rings.Rings.ring.Goals as goal

pub alloc-requires-clause-some : goal.alloc-requires-clause-some
alloc-requires-clause-some g c = let few = power_few c.args.words c.requires.power.0 c.requires.power.1 c.requires.power.2 in (omega arith, omega (arith, few))

pub returns-in_ok-put-in-Ok-clause-rings : goal.returns-in_ok-put-in-Ok-clause-rings
returns-in_ok-put-in-Ok-clause-rings g c =
    let queue = c.in_ok-queue-in-Ok.queue in
    let put = subst (λ (l : List ℕ). Puts c.args.self.now.named c.put.new.self.named l (Some queue)) c.in_ok-from_slice-in-Ok.ensures.items c.in_ok-put-in-Ok.ensures in
    all_after (λ _ q. IsQueue c.args.r.now q) c.args.self.now.named c.put.new.self.named c.args.name.now queue put c.requires.rings c.in_ok-queue-in-Ok.ensures.queue

pub returns-in_ok-put-in-Ok-clause-answer : goal.returns-in_ok-put-in-Ok-clause-answer
returns-in_ok-put-in-Ok-clause-answer g c =
    let queue = c.in_ok-queue-in-Ok.queue in
    let put = subst (λ (l : List ℕ). Puts c.args.self.now.named c.put.new.self.named l (Some queue)) c.in_ok-from_slice-in-Ok.ensures.items c.in_ok-put-in-Ok.ensures in (
      not-there (under c.args.self.now.named c.args.name.now) c.contains_key.result c.contains_key.ensures c.if-contains_key.false,
      c.in-Ok.ensures.area,
      (c.in-Ok.chunk.at, queue, c.in-Ok.ensures.granted, c.in_ok-queue-in-Ok.ensures.fresh, put),
    )
