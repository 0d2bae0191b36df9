use Rattle.std.proofs.Common.{◌<◌, length, get_or, ap, refl, arith}
use Rattle.par_barrier.specs.Shown.{history_of}
use Rattle.par_barrier.specs.declared.barrier.BarrierPass.{BarrierPass}
use Rattle.shell_sync.specs.Meetings.{IsBehind, Meets}
use Rattle.shell_sync.proofs.PartyLaws.{all-next, meets-none, meets-one, zip-next}
use Rattle.shell_sync.proofs.barriers.meet_all.Goals as goal

pub others-init : goal.others-init
others-init c = record { pass = meets-none c.args.barrier.now c.args.pass.now c.requires.own; met = tt; rest = refl }

pub meet-requires : goal.meet-requires
meet-requires c =
    let inv = c.others.invariant in
    let ys = c.others.others in
    let i = c.others.other-index in
    let lt : i < length ys = omega (arith, c.others-test.true, c.others.auto.others) in
    let is = ap (λ (d : BarrierPass). get_or ys i d) c.other-item.is in
    let behind = all-next (IsBehind c.args.barrier.now (history_of c.args.pass.now)) c.args.others.now ys i (get_or ys i c.other-item.result) c.requires.others lt is inv.rest in
    record { own = (inv.pass.own, behind.own) }

pub others-preserved : goal.others-preserved
others-preserved c =
    let inv = c.others.invariant in
    let b = c.args.barrier.now in
    let seen = history_of c.args.pass.now in
    let xs = c.args.others.now in
    let ys = c.others.others in
    let i = c.others.other-index in
    let x = get_or ys i c.other-item.result in
    let met = c.meet.ensures in
    let lt : i < length ys = omega (arith, c.others-test.true, c.others.auto.others) in
    let is = ap (λ (d : BarrierPass). get_or ys i d) c.other-item.is in
    let behind = all-next (IsBehind b seen) xs ys i x c.requires.others lt is inv.rest in
    let one = meets-one b seen c.args.pass.now c.others.pass c.meet.new.self x c.meet.new.other inv.pass behind met.own met.numbers met.alike met.longer met.mine in
    let next = zip-next (Meets b seen) xs ys i x c.meet.new.other lt is inv.rest inv.met one.1 in
    record { pass = one.0; met = next.0; rest = next.1 }
