use Rattle.std.proofs.Common.{All, List, subst, sym}
use Rattle.std.proofs.lemmas.Result.{IfOk-weaker}
use Rattle.line_runs.specs.Entries.{Entry}
use Rattle.line_runs.specs.Ranges.{AreInOrder}
use Rattle.line_runs.specs.Runs.{Rise}
use Rattle.state_runs.proofs.Sorted.{all_rise, in_order}
use Rattle.state_runs.proofs.saving.sorted_of.Goals as goal

pub sorted_runs-requires-clause-rise : goal.sorted_runs-requires-clause-rise
sorted_runs-requires-clause-rise g c κs within =
    subst (All (Rise c.args.shape.now.columns)) (sym c.deref.ensures.value) (all_rise c.args.shape.now c.args.maps.items c.in_ok-runs.runs.items c.in_ok-runs.ensures)

pub returns : goal.returns
returns g c =
    let shape = c.args.shape.now in
    IfOk-weaker c.sorted_runs.result _ _ (λ sorted order.
    in_order shape c.args.maps.items c.in_ok-runs.runs.items sorted.items c.requires.keys c.requires.apart c.in_ok-runs.ensures (subst (λ (rs : List (List Entry)). AreInOrder shape.columns rs sorted.items) c.deref.ensures.value order)) c.sorted_runs.ensures
