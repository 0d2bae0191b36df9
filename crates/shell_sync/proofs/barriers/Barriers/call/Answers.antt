use Rattle.std.proofs.Common.{◌∙◌, Some, inr, ap, rules, sym}
use Rattle.par_barrier.specs.declared.history.BarrierState.{BarrierState}
use Rattle.shell_memory.proofs.Named.{all_after, all_stays, puts, puts_again, same}
use Rattle.shell_sync.proofs.PartyLaws.{still-party}
use Rattle.shell_sync.specs.Barriers.{IsParty}
use Rattle.shell_sync.specs.declared.barriers.Party.{Party}
use Rattle.shell_sync.proofs.barriers.Barriers.call.Goals as goal

pub answer-requires : goal.answer-requires
answer-requires g c = record { party = c.requires.barriers c.args.name.now c.in-Some.party.now (sym c.in-Some.ensures.value) }

pub returns-in-Some-clause-barriers : goal.returns-in-Some-clause-barriers
returns-in-Some-clause-barriers g c =
    let new = c.answer.new.self in
    let named = c.get_mut.follows.lender new in
    let put = puts c.args.name.now c.args.self.now.named named (Some new) ((c.get_mut.follows.holds new).3 (search rules)) in
    let was = c.requires.barriers c.args.name.now c.in-Some.party.now (sym c.in-Some.ensures.value) in
    let is = still-party c.in-Some.party.now new c.args.caller was (λ le. (c.answer.ensures.out le).1) (λ lt. (let k = c.answer.ensures.called lt in (k.1, k.4))) in
    all_after (λ _ p. (s : BarrierState) × IsParty p s) c.args.self.now.named named c.args.name.now new put c.requires.barriers is

pub returns-in-Some-clause-answer : goal.returns-in-Some-clause-answer
returns-in-Some-clause-answer g c =
    let old = c.in-Some.party.now in
    let new = c.answer.new.self in
    let named = c.get_mut.follows.lender new in
    let there = sym c.in-Some.ensures.value in
    let put = puts c.args.name.now c.args.self.now.named named (Some new) ((c.get_mut.follows.holds new).3 (search rules)) in
    inr (record {
      before = old;
      there = there;
      out = λ le. (
          let o = c.answer.ensures.out le in
          (o.0, puts_again c.args.self.now.named named c.args.name.now (record { there = put.there ∙ (ap (λ (p : Party). Some p) o.1 ∙ sym there); others = put.others })));
      in_range = λ lt. (let k = c.answer.ensures.called lt in (new, k.0, k.1, k.2, c.answer.ensures.same, k.3, k.4, k.5, k.6, put));
    })

pub returns-in-None-clause-barriers : goal.returns-in-None-clause-barriers
returns-in-None-clause-barriers g c = all_stays (λ _ p. (s : BarrierState) × IsParty p s) c.args.self.now.named c.get_mut.follows.lender-at-none (same c.args.self.now.named c.get_mut.follows.lender-at-none c.get_mut.follows.holds-at-none) c.requires.barriers
