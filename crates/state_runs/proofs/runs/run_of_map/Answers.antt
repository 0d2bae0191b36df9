use Rattle.std.proofs.Common.{◌<◌, ◌≤◌, ◌∙◌, All, List, ap, length, map, subst, sym}
use Rattle.std.proofs.lemmas.Result.{IfOk-weaker}
use Rattle.partial_agg.specs.declared.groups.Group.{Group as MapGroup}
use Rattle.result_text.specs.Printable.{IsKeyOf}
use Rattle.result_text.specs.declared.order.GroupRef.{GroupRef}
use Rattle.result_text.proofs.Sorting.{all_refs}
use Rattle.state_save.specs.Saving.{tuples_at}
use Rattle.state_save.proofs.Rising.{are_tuples}
use Rattle.state_runs.specs.Runs.{IsRunOf, entry_of}
use Rattle.state_runs.proofs.runs.run_of_map.Goals as goal

pub in_order-requires : goal.in_order-requires
in_order-requires c = subst (All (λ (g : MapGroup). IsKeyOf c.args.shape.now.columns g.key)) (sym c.into_groups-groups.ensures) c.requires.keys

pub run_of_groups-requires-clause-within : goal.run_of_groups-requires-clause-within
run_of_groups-requires-clause-within c = subst (All (λ (r : GroupRef). r.at < length c.into_groups-groups.result)) (sym c.deref.ensures.value) c.in_ok-refs.ensures.within

pub run_of_groups-requires-clause-short : goal.run_of_groups-requires-clause-short
run_of_groups-requires-clause-short c =
    let groups = c.into_groups-groups.result in
    let refs = c.in_ok-refs.refs.items in
    subst (All (λ (r : GroupRef). length r.key.now ≤ 248)) (sym c.deref.ensures.value) (all_refs (λ (g : MapGroup). length g.key ≤ 248) groups refs c.in_ok-refs.ensures.same c.in_ok-refs.ensures.short)

pub returns : goal.returns
returns c =
    let shape = c.args.shape.now in
    let groups = c.into_groups-groups.result in
    let refs = c.in_ok-refs.refs.items in
    let did = c.in_ok-refs.ensures in
    let keys = subst (All (λ (g : MapGroup). IsKeyOf shape.columns g.key)) (sym c.into_groups-groups.ensures) c.requires.keys in
    let are = are_tuples shape groups refs c.keys_rise.ensures keys did.short did.same did.sorted in
    IfOk-weaker c.run_of_groups.result _ _ (λ run is. subst (λ (gs : List MapGroup). IsRunOf shape gs run) c.into_groups-groups.ensures (record {
      short = did.short;
      tuples = tuples_at shape groups refs;
      are = are;
      is = is ∙ ap (λ (rs : List GroupRef). map (entry_of shape.kinds.now) (tuples_at shape groups rs)) c.deref.ensures.value;
    })) c.run_of_groups.ensures
