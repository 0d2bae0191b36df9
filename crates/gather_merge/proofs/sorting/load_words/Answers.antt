use Rattle.std.proofs.Common.{◌∙◌, All, List, length, ◌<◌, ap, arith, refl, subst, get_or}
use Rattle.std.proofs.lemmas.List.{take_all}
use Rattle.gather_merge.specs.declared.sorting.Keyed.{Keyed}
use Rattle.gather_merge.specs.Levels.{IsWorded}
use Rattle.gather_merge.specs.Order.{columns_at}
use Rattle.gather_merge.specs.RowWords.{AreBytes, word}
use Rattle.gather_merge.proofs.Loading.{all_set, rows_set}
use Rattle.gather_merge.proofs.Runs.{none}
use Rattle.gather_merge.proofs.sorting.load_words.Goals as goal

pub loop-keyed-preserved : goal.loop-keyed-preserved
loop-keyed-preserved c =
    let run = c.loop-keyed.keyed-items in
    let i = c.loop-keyed.keyed-index in
    let new : Keyed = record { word = c.word_of-keyed.result; row = (get_or run i none).row } in
    let here : i < length run = omega (arith, c.loop-keyed-test.true, c.loop-keyed.auto.keyed-items) in
    let Worded = IsWorded (columns_at c.args.plan.now c.args.rows.now) c.args.column c.args.from in
    record {
      rows = rows_set run i new none refl here ∙ c.loop-keyed.invariant.rows;
      worded = all_set Worded run i new c.loop-keyed.invariant.worded (record { is = c.word_of-keyed.ensures.is ∙ ap word c.text_from.ensures; bytes = subst AreBytes c.text_from.ensures c.word_of-keyed.ensures.bytes }) here;
    }

pub returns-clause-worded : goal.returns-clause-worded
returns-clause-worded c =
    subst (λ (l : List Keyed). All (IsWorded (columns_at c.args.plan.now c.args.rows.now) c.args.column c.args.from) l) (take_all c.loop-keyed.keyed-index c.loop-keyed.keyed-items (omega (arith, c.loop-keyed-test.false, c.loop-keyed.auto.keyed-items))) c.loop-keyed.invariant.worded
