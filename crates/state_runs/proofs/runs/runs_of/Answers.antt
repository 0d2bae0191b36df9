use Rattle.std.proofs.Common.{All, List, subst, sym}
use Rattle.std.proofs.lemmas.Result.{IfOk-weaker}
use Rattle.partial_agg.specs.Groups.{GroupsByKey}
use Rattle.partial_agg.specs.Listed.{listed}
use Rattle.partial_agg.specs.declared.groups.Group.{Group as MapGroup}
use Rattle.result_text.specs.Printable.{IsKeyOf}
use Rattle.state_runs.specs.Runs.{AreRunsOf}
use Rattle.state_runs.specs.declared.runs.Job.{Job}
use Rattle.state_runs.proofs.Making.{all_under, each_map, runs_made}
use Rattle.state_runs.proofs.runs.runs_of.Goals as goal

pub make_runs-requires-clause-keys : goal.make_runs-requires-clause-keys
make_runs-requires-clause-keys g c κs within =
    let P : MapGroup → Type 0 = λ group. IsKeyOf c.args.shape.now.columns group.key in
    all_under (λ (m : GroupsByKey). All P (listed m)) (λ (job : Job). job.map) c.in_ok-jobs.jobs.items (subst (All (λ (m : GroupsByKey). All P (listed m))) (sym c.in_ok-jobs.ensures) (each_map P c.args.maps.items c.requires.keys))

pub returns : goal.returns
returns g c =
    let shape = c.args.shape.now in
    let olds = c.in_ok-jobs.jobs.items in
    let news = c.make_runs.new.jobs.items in
    IfOk-weaker c.take_runs.result _ _ (λ runs is. subst (λ (ms : List GroupsByKey). AreRunsOf shape ms runs.items) c.in_ok-jobs.ensures (runs_made shape olds news runs.items c.make_runs.ensures is)) c.take_runs.ensures
