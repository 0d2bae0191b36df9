use Rattle.std.proofs.Common.{rules, ◌≤◌, ◌<◌, ◌∙◌, ap, arith, drop, length, subst}
use Rattle.std.proofs.lemmas.List.{drop-replicate, length-map, take_all}
use Rattle.agg_table.specs.Shown.{use_of}
use Rattle.agg_table.proofs.Seats.{grew_itself, grew_through}
use Rattle.par_model.specs.Aggregate.{no_values}
use Rattle.par_model.specs.declared.state.AggState.{AggState}
use Rattle.partial_agg.specs.declared.groups.Group.{Group as Lent}
use Rattle.gather_law.specs.Tuples.{Group}
use Rattle.worker_run.specs.Sent.{pairs_of}
use Rattle.worker_run.specs.Tabled.{GivesGroups}
use Rattle.worker_run.proofs.Giving.{given_ready, gives_next, gives_none, gives_stopped}
use Rattle.worker_run.proofs.Lent.{read_lent}
use Rattle.worker_run.proofs.tabled.give_lent.Goals as goal

pub loop-at-init : goal.loop-at-init
loop-at-init g c = record {
  seat = c.requires.seat;
  grew = grew_itself c.args.seat.now;
  kept = search rules;
  ready = c.requires.ready;
  rest = ap (λ (s : AggState). drop c.args.slots s.slots) c.empty-state.ensures.zeros ∙ drop-replicate c.args.slots 8 no_values;
  gives = gives_none c.args.slots (use_of c.args.seat.now) c.args.tuples.now.end c.requires.ready;
}

pub give_group-requires-clause-zeros : goal.give_group-requires-clause-zeros
give_group-requires-clause-zeros g c = c.read_state.ensures.rest ∙ c.loop-at.invariant.rest

pub loop-at-preserved : goal.loop-at-preserved
loop-at-preserved g c =
    let is = c.loop-at.invariant in
    let pairs = pairs_of c.args.groups.now in
    let lt : c.loop-at.at < length c.args.groups.now = omega (arith, c.loop-at-test.true, c.len-at-end.ensures) in
    let given = c.if-not-give_group.ensures.given in
    let within : c.loop-at.at < length pairs = omega (arith, length-map {B = Group} c.args.groups.now (λ (g : Lent). (g.key, g.state)), lt) in
    let read = read_lent c.args.slots c.args.groups.now c.loop-at.at c.key.result.now c.read_state.new.state c.loop-at.state lt c.requires.zeros c.key.ensures.key c.read_state.ensures.rows c.read_state.ensures.front c.read_state.ensures.rest is.rest in
    record {
      seat = c.give_group.ensures.seat.0;
      grew = grew_through c.args.seat.now c.loop-at.seat c.give_group.new.seat is.grew c.give_group.ensures.seat.1;
      kept = search rules;
      ready = given_ready c.args.slots (use_of c.loop-at.seat) (use_of c.give_group.new.seat) c.loop-at.tuples.end c.give_group.new.tuples.end _ is.ready given;
      rest = c.read_state.ensures.rest ∙ is.rest;
      gives = gives_next c.args.slots pairs c.loop-at.at (use_of c.args.seat.now) (use_of c.loop-at.seat) (use_of c.give_group.new.seat) c.args.tuples.now.end c.loop-at.tuples.end c.give_group.new.tuples.end (c.key.result.now, c.read_state.new.state) read within
          is.gives given;
    }

pub returns-then-not-give_group-clause-given : goal.returns-then-not-give_group-clause-given
returns-then-not-give_group-clause-given g c =
    gives_stopped c.args.slots _ (use_of c.args.seat.now) (use_of c.loop-at.seat) c.args.tuples.now.end c.loop-at.tuples.end c.give_group.new.tuples.end c.loop-at.invariant.gives c.if-not-give_group.ensures.given

pub returns-then-not-give_group-clause-seat : goal.returns-then-not-give_group-clause-seat
returns-then-not-give_group-clause-seat g c =
    (c.give_group.ensures.seat.0, grew_through c.args.seat.now c.loop-at.seat c.give_group.new.seat c.loop-at.invariant.grew c.give_group.ensures.seat.1)

pub returns-clause-given : goal.returns-clause-given
returns-clause-given g c =
    let pairs = pairs_of c.args.groups.now in
    let all : length pairs ≤ c.loop-at.at = omega (arith, length-map {B = Group} c.args.groups.now (λ (g : Lent). (g.key, g.state)), c.loop-at-test.false, c.len-at-end.ensures) in
    subst (λ gs. GivesGroups c.args.slots gs (use_of c.args.seat.now) (use_of c.loop-at.seat) c.args.tuples.now.end c.loop-at.tuples.end) (take_all c.loop-at.at pairs all) c.loop-at.invariant.gives
