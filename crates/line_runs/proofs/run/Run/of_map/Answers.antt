use Rattle.std.proofs.Common.{◌<◌, ◌≤◌, ◌∙◌, All, List, ℕ, ap, length, map, subst, sym}
use Rattle.std.proofs.lemmas.Result.{IfOk-weaker}
use Rattle.partial_agg.specs.Listed.{listed}
use Rattle.partial_agg.specs.declared.groups.Group.{Group}
use Rattle.result_text.specs.GroupOrder.{group_of, is_before}
use Rattle.result_text.specs.Printable.{ArePrintable, IsKeyOf}
use Rattle.result_text.specs.declared.order.GroupRef.{GroupRef}
use Rattle.result_text.proofs.Sorting.{all_refs}
use Rattle.std.specs.List.Sorted.{IsSortedBy}
use Rattle.line_runs.specs.Entries.{entry_of}
use Rattle.line_runs.proofs.Lines.{run_of}
use Rattle.line_runs.proofs.run.Run.of_map.Goals as goal

pub in_order-requires : goal.in_order-requires
in_order-requires c =
    let printable : ArePrintable c.args.bound.now c.into_groups-groups.result = subst (ArePrintable c.args.bound.now) (sym c.into_groups-groups.ensures) c.requires in
    subst (λ (n : ℕ). All (λ (g : Group). IsKeyOf n g.key) c.into_groups-groups.result) (sym c.group_count.ensures) printable.keys

pub of_groups-requires-clause-small : goal.of_groups-requires-clause-small
of_groups-requires-clause-small c =
    let printable : ArePrintable c.args.bound.now c.into_groups-groups.result = subst (ArePrintable c.args.bound.now) (sym c.into_groups-groups.ensures) c.requires in
    printable.slots

pub of_groups-requires-clause-within : goal.of_groups-requires-clause-within
of_groups-requires-clause-within c = subst (All (λ (r : GroupRef). r.at < length c.into_groups-groups.result)) (sym c.deref.ensures.value) c.in_ok-refs.ensures.within

pub of_groups-requires-clause-short : goal.of_groups-requires-clause-short
of_groups-requires-clause-short c =
    let groups = c.into_groups-groups.result in
    let refs = c.in_ok-refs.refs.items in
    subst (All (λ (r : GroupRef). length r.key.now ≤ 248)) (sym c.deref.ensures.value) (all_refs (λ (g : Group). length g.key ≤ 248) groups refs c.in_ok-refs.ensures.same c.in_ok-refs.ensures.short)

pub returns : goal.returns
returns c =
    let plan = c.args.bound.now in
    let groups = c.into_groups-groups.result in
    let refs = c.in_ok-refs.refs.items in
    let printable : ArePrintable plan groups = subst (ArePrintable plan) (sym c.into_groups-groups.ensures) c.requires in
    let sorted = subst (λ (n : ℕ). IsSortedBy (is_before n) refs) c.group_count.ensures c.in_ok-refs.ensures.sorted in
    IfOk-weaker c.of_groups.result _ _ (λ run is.
    run_of plan (listed c.args.map) groups refs run c.into_groups-groups.ensures printable c.in_ok-refs.ensures.short c.in_ok-refs.ensures.same sorted
    (is ∙ ap (λ (rs : List GroupRef). map (entry_of plan) (map (group_of groups) rs)) c.deref.ensures.value)) c.of_groups.ensures
