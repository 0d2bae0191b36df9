use Rattle.std.proofs.Common.{Some, inr, rules, sym}
use Rattle.shell_memory.proofs.Named.{all_after, all_stays, puts, same}
use Rattle.shell_sync.specs.Rings.{IsQueue}
use Rattle.shell_sync.proofs.rings.Rings.detach_receiver.Goals as goal

pub detach_receiver-requires : goal.detach_receiver-requires
detach_receiver-requires c = record { queue = c.requires.rings c.args.name.now c.in-Some.queue.now (sym c.in-Some.ensures.value) }

pub returns-in-Some-clause-rings : goal.returns-in-Some-clause-rings
returns-in-Some-clause-rings c =
    let new = c.detach_receiver.new.self in
    let named = c.get_mut.follows.lender new in
    let put = puts c.args.name.now c.args.self.now.named named (Some new) ((c.get_mut.follows.holds new).3 (search rules)) in
    all_after (λ _ q. IsQueue c.args.r.now q) c.args.self.now.named named c.args.name.now new put c.requires.rings c.detach_receiver.ensures.queue

pub returns-in-Some-clause-answer : goal.returns-in-Some-clause-answer
returns-in-Some-clause-answer c =
    let new = c.detach_receiver.new.self in
    let put = puts c.args.name.now c.args.self.now.named (c.get_mut.follows.lender new) (Some new) ((c.get_mut.follows.holds new).3 (search rules)) in
    inr (c.detach_receiver.ensures.done, (c.in-Some.queue.now, new, sym c.in-Some.ensures.value, put, c.detach_receiver.ensures.leaves))

pub returns-in-None-clause-rings : goal.returns-in-None-clause-rings
returns-in-None-clause-rings c = all_stays (λ _ q. IsQueue c.args.r.now q) c.args.self.now.named c.get_mut.follows.lender-at-none (same c.args.self.now.named c.get_mut.follows.lender-at-none c.get_mut.follows.holds-at-none) c.requires.rings
