use Rattle.std.proofs.Common.{arith}
use Rattle.hash_join.proofs.Fits.{words_small}
use Rattle.hash_join.proofs.widths.count_words.Goals as goal

pub overflow_cast-result : goal.overflow_cast-result
overflow_cast-result c =
    let small = words_small c.args.rows.now c.args.column c.requires.accepted c.longest_field.result c.div_ceil.result c.longest_field.ensures c.div_ceil.ensures in
    omega (arith, small)

pub overflow_add-result : goal.overflow_add-result
overflow_add-result c =
    let small = words_small c.args.rows.now c.args.column c.requires.accepted c.longest_field.result c.div_ceil.result c.longest_field.ensures c.div_ceil.ensures in
    omega (arith, small)

pub returns-clause-range : goal.returns-clause-range
returns-clause-range c =
    let small = words_small c.args.rows.now c.args.column c.requires.accepted c.longest_field.result c.div_ceil.result c.longest_field.ensures c.div_ceil.ensures in
    (omega arith, omega (arith, small))
