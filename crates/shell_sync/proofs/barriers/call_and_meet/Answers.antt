use Rattle.std.proofs.Common.{subst, sym}
use Rattle.std.specs.List.{All, AllZip}
use Rattle.par_barrier.specs.Shown.{History, history_of}
use Rattle.shell_sync.specs.Barriers.{call_of}
use Rattle.shell_sync.specs.Meetings.{IsBehind, Meets}
use Rattle.shell_sync.proofs.PartyLaws.{behind-call, meets-twice}
use Rattle.shell_sync.proofs.barriers.call_and_meet.Goals as goal

pub meet_all-requires-clause-others : goal.meet_all-requires-clause-others
meet_all-requires-clause-others g c =
    let called = c.call_by-answer.ensures.called in
    behind-call c.args.barrier.now c.args.pass.now c.call_by-answer.new.pass (call_of c.args.call) called.0 c.args.before.now called.1 c.requires.before

pub meet_all-requires-2-clause-others : goal.meet_all-requires-2-clause-others
meet_all-requires-2-clause-others g c =
    let called = c.call_by-answer.ensures.called in
    let behind = behind-call c.args.barrier.now c.args.pass.now c.call_by-answer.new.pass (call_of c.args.call) called.0 c.args.after.now called.1 c.requires.after in
    subst (λ (h : History). All (IsBehind c.args.barrier.now h) c.args.after.now) (sym c.meet_all.ensures.own.history) behind

pub returns : goal.returns
returns g c =
    let called = c.call_by-answer.ensures.called in
    let mid = c.call_by-answer.new.pass in
    let met = c.meet_all.ensures in
    let met_too = c.meet_all-2.ensures in (
      mid,
      called.0,
      called.2,
      record {
        own = c.call_by-answer.ensures.own.0;
        number = c.call_by-answer.ensures.own.1;
        called = called.1;
        pass = meets-twice c.args.barrier.now (history_of mid) mid c.meet_all.new.pass c.meet_all-2.new.pass met.own met_too.own;
        those_before = met.others;
        those_after = subst (λ (h : History). AllZip (Meets c.args.barrier.now h) c.args.after.now c.meet_all-2.new.others) met.own.history met_too.others;
      },
    )
