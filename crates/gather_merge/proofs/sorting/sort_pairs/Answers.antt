use Rattle.std.proofs.Common.{◌∙◌, length, get_or}
use Rattle.gather_merge.specs.Order.{columns_at}
use Rattle.gather_merge.specs.Levels.{rows_of}
use Rattle.gather_merge.proofs.Compared.{by_tail, even}
use Rattle.gather_merge.proofs.Levels.{tail_level}
use Rattle.gather_merge.proofs.sorting.sort_pairs.Goals as goal

pub sort_level-requires-clause-tied : goal.sort_level-requires-clause-tied
sort_level-requires-clause-tied c k d l k' d' l' =
    let plan = c.args.plan.now in
    let records = c.args.rows.now in
    let rows = rows_of c.deref_mut.result.now in
    by_tail plan records (get_or rows k d) (get_or rows k' d') ∙ tail_level (columns_at plan records) (length plan.groups) (even plan records) 0 (get_or rows k d) (get_or rows k' d')
