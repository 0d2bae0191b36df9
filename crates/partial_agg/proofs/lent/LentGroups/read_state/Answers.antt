use Rattle.std.proofs.Common.{◌≡◌, ◌<◌, ◌∙◌, List, ap, arith, get_or, length, sym, take}
use Rattle.par_model.specs.declared.state.AggState.{AggState}
use Rattle.partial_agg.specs.Listed.{state_at}
use Rattle.partial_agg.specs.State.{empty_state}
use Rattle.partial_agg.specs.declared.groups.Group.{Group}
use Rattle.partial_agg.proofs.Placed.{length-listed_at, state_at-listed}
use Rattle.partial_agg.proofs.lent.LentGroups.read_state.Goals as goal

-- the state there
its : (c : goal.After-read) → get_or c.self.inside.states.now (get_or c.self.inside.places.now c.args.at 0) empty_state ≡ state_at c.args.self.now c.args.at
its c =
    let keys = c.self.inside.keys.now in
    let states = c.self.inside.states.now in
    let places = c.self.inside.places.now in
    let within : c.args.at < length places = omega (arith, c.requires.place, ap (length {A = Group}) c.self.view_is, length-listed_at keys states places) in
    sym (state_at-listed keys states places c.args.at within) ∙ ap (λ (groups : List Group). state_at groups c.args.at) c.self.view_is

pub returns-clause-rows : goal.returns-clause-rows
returns-clause-rows c = c.read.ensures.rows ∙ ap (λ (s : AggState). s.rows) (its c)

pub returns-clause-front : goal.returns-clause-front
returns-clause-front c = c.read.ensures.front ∙ ap (λ (s : AggState). take c.args.count s.slots) (its c)
