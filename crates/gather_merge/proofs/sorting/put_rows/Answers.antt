use Rattle.std.proofs.Common.{◌≡◌, ◌∙◌, ◌++◌, ◌∷◌, [], get_or, rules, sym}
use Rattle.gather_merge.proofs.Loading.{rows_take}
use Rattle.gather_merge.proofs.Runs.{none}
use Rattle.gather_merge.proofs.sorting.put_rows.Goals as goal

pub loop-keyed-preserved : goal.loop-keyed-preserved
loop-keyed-preserved c =
    let run = c.args.run.now in
    let i = c.loop-keyed.keyed-index in
    let pushed : c.push.new.self.items ≡ c.loop-keyed.list.items ++ (get_or run i none).row ∷ [] = search rules in
    record { rows = rw c.loop-keyed.invariant.rows at pushed ∙ sym (rows_take run i none c.loop-keyed-test.true) }
