use Rattle.slow_model.proofs.slow_group.count_rows.Goals as goal

pub is_in_group-requires : goal.is_in_group-requires
is_in_group-requires c = rw c.row-item.is (c.requires c.rows.row-index c.row-item.result c.rows-test.true)
