use Rattle.std.proofs.Common.{◌≡◌, ◌∙◌, ap, length, slice_index_or}
use Rattle.std.proofs.lemmas.Result.{on_ok_weaker}
use Rattle.par_model.specs.declared.state.AggState.{AggState}
use Rattle.partial_agg.specs.Groups.{added}
use Rattle.partial_agg.specs.declared.groups.Group.{Group}
use Rattle.part_run.proofs.Parting.{no_group, read_key, read_state}
use Rattle.part_run.proofs.moving.add_group.Goals as goal

-- what was read
state_is : (c : goal.After-add_bytes) (d : Group) → c.read_state.new.state ≡ (slice_index_or c.args.groups.now c.args.at d).state
state_is c d =
    read_state c.args.groups.now c.args.at d c.read_state.new.state c.args.state.now c.requires.place c.requires.whole c.requires.eight c.read_state.ensures.rows c.read_state.ensures.front c.read_state.ensures.rest

pub returns-clause-eight : goal.returns-clause-eight
returns-clause-eight c = ap (λ (s : AggState). length s.slots) (state_is c no_group) ∙ c.requires.whole c.args.at no_group c.requires.place

pub returns-clause-added : goal.returns-clause-added
returns-clause-added c =
    on_ok_weaker c.add_bytes.result (λ e d. e ∙ (λ i. added c.args.so_far.now (read_key c.args.groups.now c.args.at d c.key.result.now c.requires.place c.key.ensures.key i) (state_is c d i))) c.add_bytes.ensures.ok
