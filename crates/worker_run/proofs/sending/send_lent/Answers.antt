use Rattle.std.proofs.Common.{rules, ◌≤◌, ◌<◌, ◌∙◌, ap, arith, drop, length, subst}
use Rattle.std.proofs.lemmas.List.{drop-replicate, length-map, take_all}
use Rattle.par_model.specs.Aggregate.{no_values}
use Rattle.par_model.specs.declared.state.AggState.{AggState}
use Rattle.partial_agg.specs.declared.groups.Group.{Group as Lent}
use Rattle.gather_law.specs.Tuples.{Group}
use Rattle.worker_run.specs.Sent.{HasSentThese, pairs_of}
use Rattle.worker_run.proofs.Lent.{read_lent}
use Rattle.worker_run.proofs.Sent.{still_ready, these_more, these_none, these_stopped}
use Rattle.tuple_codec.specs.declared.write.TheConstants.{TUPLE_BYTES}
use Rattle.worker_run.proofs.sending.send_lent.Goals as goal

pub loop-at-init : goal.loop-at-init
loop-at-init g c = record {
  kept = search rules;
  ready = c.requires.ready;
  rest = ap (λ (s : AggState). drop c.args.slots s.slots) c.empty-state.ensures.zeros ∙ drop-replicate c.args.slots 8 no_values;
  these = these_none c.args.slots (pairs_of c.args.groups.now) c.args.tuples.now.end c.requires.ready;
}

pub send_group-requires-clause-zeros : goal.send_group-requires-clause-zeros
send_group-requires-clause-zeros g c = c.read_state.ensures.rest ∙ c.loop-at.invariant.rest

pub loop-at-preserved : goal.loop-at-preserved
loop-at-preserved g c =
    let is = c.loop-at.invariant in
    let pairs = pairs_of c.args.groups.now in
    let lt : c.loop-at.at < length c.args.groups.now = omega (arith, c.loop-at-test.true, c.len-at-end.ensures) in
    let sent = c.if-not-send_group.ensures.sent in
    let within : c.loop-at.at < length pairs = omega (arith, length-map {B = Group} c.args.groups.now (λ (g : Lent). (g.key, g.state)), lt) in
    let read = read_lent c.args.slots c.args.groups.now c.loop-at.at c.key.result.now c.read_state.new.state c.loop-at.state lt c.requires.zeros c.key.ensures.key c.read_state.ensures.rows c.read_state.ensures.front c.read_state.ensures.rest is.rest in
    record {
      kept = search rules;
      ready = still_ready TUPLE_BYTES c.loop-at.tuples.end c.send_group.new.tuples.end _ is.ready sent;
      rest = c.read_state.ensures.rest ∙ is.rest;
      these = these_more c.args.slots pairs c.loop-at.at c.args.tuples.now.end c.loop-at.tuples.end c.send_group.new.tuples.end (c.key.result.now, c.read_state.new.state) read within is.these c.if-not-send_group.ensures.tuple sent;
    }

pub returns-then-not-send_group-clause-sent : goal.returns-then-not-send_group-clause-sent
returns-then-not-send_group-clause-sent g c =
    these_stopped c.args.slots _ c.args.tuples.now.end c.loop-at.tuples.end c.send_group.new.tuples.end c.loop-at.invariant.these c.if-not-send_group.ensures.sent

pub returns-clause-sent : goal.returns-clause-sent
returns-clause-sent g c =
    let pairs = pairs_of c.args.groups.now in
    let all : length pairs ≤ c.loop-at.at = omega (arith, length-map {B = Group} c.args.groups.now (λ (g : Lent). (g.key, g.state)), c.loop-at-test.false, c.len-at-end.ensures) in
    subst (λ gs. HasSentThese c.args.slots gs c.args.tuples.now.end c.loop-at.tuples.end) (take_all c.loop-at.at pairs all) c.loop-at.invariant.these
