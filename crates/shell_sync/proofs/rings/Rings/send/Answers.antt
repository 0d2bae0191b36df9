use Rattle.std.proofs.Common.{Some, inr, rules, sym}
use Rattle.std.proofs.lemmas.Result.{IfOk-weaker, on_ok_weaker}
use Rattle.shell_memory.proofs.Named.{all_after, all_stays, puts, same}
use Rattle.shell_sync.specs.Rings.{IsQueue}
use Rattle.shell_sync.proofs.rings.Rings.send.Goals as goal

pub send-requires : goal.send-requires
send-requires c = record { queue = c.requires.rings c.args.name.now c.in-Some.queue.now (sym c.in-Some.ensures.value) }

pub returns-in-Some-clause-rings : goal.returns-in-Some-clause-rings
returns-in-Some-clause-rings c =
    let new = c.send.new.self in
    let named = c.get_mut.follows.lender new in
    let put = puts c.args.name.now c.args.self.now.named named (Some new) ((c.get_mut.follows.holds new).3 (search rules)) in
    on_ok_weaker c.send.result (λ (is : IsQueue c.args.r.now new). all_after (λ _ q. IsQueue c.args.r.now q) c.args.self.now.named named c.args.name.now new put c.requires.rings is) c.send.ensures.queue

pub returns-in-Some-clause-answer : goal.returns-in-Some-clause-answer
returns-in-Some-clause-answer c =
    let new = c.send.new.self in
    let put = puts c.args.name.now c.args.self.now.named (c.get_mut.follows.lender new) (Some new) ((c.get_mut.follows.holds new).3 (search rules)) in
    IfOk-weaker c.send.result _ _ (λ answer does. inr (c.in-Some.queue.now, new, sym c.in-Some.ensures.value, put, does)) c.send.ensures.answer

pub returns-in-None-clause-rings : goal.returns-in-None-clause-rings
returns-in-None-clause-rings c = all_stays (λ _ q. IsQueue c.args.r.now q) c.args.self.now.named c.get_mut.follows.lender-at-none (same c.args.self.now.named c.get_mut.follows.lender-at-none c.get_mut.follows.holds-at-none) c.requires.rings
