use Rattle.std.proofs.Common.{◌∙◌, ap, refl}
use Rattle.single_flight.specs.Laws.{load_in}
use Rattle.single_flight.proofs.Told.{turned_holds, turned_load, turned_lost, turned_value}
use Rattle.single_flight.proofs.Uses.{nothing_asked, one_question, then_asked, then_same}
use Rattle.single_flight.proofs.loader.Loader.wait.Goals as goal

pub returns-in-Value-clause-asked : goal.returns-in-Value-clause-asked
returns-in-Value-clause-asked g c = then_asked _ _ _ _ c.loop.invariant.asked (one_question _ _ _ _ _ c.in-Value.ensures.called refl)

pub returns-in-Value-clause-load : goal.returns-in-Value-clause-load
returns-in-Value-clause-load g c = (turned_load c.in-Value.ensures.turned ∙ c.loop.invariant.free, refl)

pub returns-in-Value-clause-value : goal.returns-in-Value-clause-value
returns-in-Value-clause-value g c = turned_value c.in-Value.ensures.turned

pub returns-in-Value-clause-holds : goal.returns-in-Value-clause-holds
returns-in-Value-clause-holds g c = turned_holds c.in-Value.ensures.turned

pub returns-in-Failed-clause-asked : goal.returns-in-Failed-clause-asked
returns-in-Failed-clause-asked g c = then_asked _ _ _ _ c.loop.invariant.asked (one_question _ _ _ _ _ c.in-Failed.ensures.called refl)

pub returns-in-Failed-clause-load : goal.returns-in-Failed-clause-load
returns-in-Failed-clause-load g c = (turned_load c.in-Failed.ensures.turned ∙ c.loop.invariant.free, refl)

pub returns-in-Failed-clause-failed : goal.returns-in-Failed-clause-failed
returns-in-Failed-clause-failed g c = turned_lost c.in-Failed.ensures.turned _ c.requires.loading.1 c.loop.invariant.asked.begins

pub loop-init : goal.loop-init
loop-init g c = record {
  can_next = tt;
  finite = tt;
  own = c.requires.own;
  number = refl;
  asked = nothing_asked c.args.pass.now c.args.key;
  free = c.requires.free;
}

pub loop-preserved : goal.loop-preserved
loop-preserved g c =
    let i = c.loop.invariant in
    let b = c.in-Busy.ensures in
    let n = c.await_news.ensures in
    record {
      can_next = tt;
      finite = tt;
      own = n.own.0;
      number = n.own.1 ∙ (b.own.1 ∙ i.number);
      asked = then_same c.args.pass.now c.call.new.pass c.await_news.new.pass c.args.key (then_asked c.args.pass.now c.loop.pass c.call.new.pass c.args.key i.asked (one_question c.loop.pass c.call.new.pass c.args.key _ _ b.called refl)) n.seen n.mine;
      free = ap load_in (n.mine c.args.key) ∙ (turned_load b.turned ∙ i.free);
    }
