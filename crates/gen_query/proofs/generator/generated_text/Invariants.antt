use Rattle.std.proofs.Common.{◌≡◌, ◌++◌, ◌-◌, map}
use Rattle.par_model.specs.Table.{table_text}
use Rattle.gen_query.specs.Generator.{generated, numbers, record_of}
use Rattle.gen_query.proofs.generator.generated_text.Given as goal

abbrev pub invariant-rows : goal.invariant-rows
invariant-rows l = l.text.items ++ table_text (map record_of (numbers l.x (l.rows - l._row))) ≡ table_text (generated l.fn.seed l.rows)
