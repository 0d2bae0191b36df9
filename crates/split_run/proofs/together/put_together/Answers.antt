use Rattle.std.proofs.lemmas.Result.{IfOk-weaker}
use Rattle.split_run.proofs.Joining.{joined_rows}
use Rattle.split_run.proofs.together.put_together.Goals as goal

pub returns : goal.returns
returns g c = IfOk-weaker c.join_all.result _ _ (λ whole joins. joined_rows c.args.maps.items whole joins) c.join_all.ensures
