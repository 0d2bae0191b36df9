use Rattle.std.proofs.Common.{[], Some, inl, inr, rules, refl, sym}
use Rattle.std.proofs.lemmas.Result.{IfOk-weaker}
use Rattle.shell_memory.proofs.Named.{all_after, all_stays, puts, same}
use Rattle.shell_sync.specs.Rings.{IsQueue}
use Rattle.shell_sync.specs.declared.rings.RingAnswer.TheVariants as answer
use Rattle.shell_sync.proofs.rings.Rings.receive.Goals as goal

pub receive_line-requires : goal.receive_line-requires
receive_line-requires c = record { queue = c.requires.rings c.args.name.now c.in-Some.queue.now (sym c.in-Some.ensures.value) }

pub returns-in-Some-clause-rings : goal.returns-in-Some-clause-rings
returns-in-Some-clause-rings c =
    let new = c.receive_line.new.self in
    let named = c.get_mut.follows.lender new in
    let put = puts c.args.name.now c.args.self.now.named named (Some new) ((c.get_mut.follows.holds new).3 (search rules)) in
    IfOk-weaker c.receive_line.result _ _ (λ line _. all_after (λ _ q. IsQueue c.args.r.now q) c.args.self.now.named named c.args.name.now new put c.requires.rings c.receive_line.ensures.queue) c.receive_line.ensures.answer

pub returns-in-Some-clause-answer : goal.returns-in-Some-clause-answer
returns-in-Some-clause-answer c =
    let new = c.receive_line.new.self in
    let put = puts c.args.name.now c.args.self.now.named (c.get_mut.follows.lender new) (Some new) ((c.get_mut.follows.holds new).3 (search rules)) in
    IfOk-weaker c.receive_line.result _ _ (λ line does. (does.0, does.1, does.2, inr (c.in-Some.queue.now, new, sym c.in-Some.ensures.value, put, does.3))) c.receive_line.ensures.answer

pub returns-in-None-clause-rings : goal.returns-in-None-clause-rings
returns-in-None-clause-rings c =
    IfOk-weaker c.text.result _ _ (λ line _. all_stays (λ _ q. IsQueue c.args.r.now q) c.args.self.now.named c.get_mut.follows.lender-at-none (same c.args.self.now.named c.get_mut.follows.lender-at-none c.get_mut.follows.holds-at-none) c.requires.rings) c.text.ensures

pub returns-in-None-clause-answer : goal.returns-in-None-clause-answer
returns-in-None-clause-answer c =
    IfOk-weaker c.text.result _ _ (λ line text. (answer.NoName, [], text, inl (sym c.in-None.ensures.value, refl, same c.args.self.now.named c.get_mut.follows.lender-at-none c.get_mut.follows.holds-at-none))) c.text.ensures
