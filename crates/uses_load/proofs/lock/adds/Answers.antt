use Rattle.std.proofs.Common.{◌∙◌, ap, arith, length, refl}
use Rattle.uses_load.proofs.Elements.{one_more}
use Rattle.uses_load.proofs.lock.adds.Goals as goal

pub loop-init : goal.loop-init
loop-init g c = record { own = c.requires.own; number = refl; added = ap length c.requires.fresh }

pub loop-preserved : goal.loop-preserved
loop-preserved g c =
    let i = c.loop.invariant in
    let e = c.call.ensures in record {
      own = e.own.0;
      number = e.own.1 ∙ i.number;
      added = omega (arith, one_more _ _ _ e.called.mine_grows, i.added);
    }
