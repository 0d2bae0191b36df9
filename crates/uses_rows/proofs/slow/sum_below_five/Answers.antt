use Rattle.std.proofs.Common.{◌<◌, ◌∷◌, [], ℕ, pos, IsTrue, lit<}
use Rattle.std.proofs.lemmas.List.Elements.{All-from_recursion}
use Rattle.par_model.specs.Columns.{reads_column}
use Rattle.par_model.specs.declared.plan.Filter.{Filter}
use Rattle.par_model.specs.declared.plan.FilterOp.TheVariants as op
use Rattle.par_model.specs.declared.plan.FilterTest.TheVariants as test
use Rattle.par_model.specs.declared.plan.Item.{Item}
use Rattle.par_model.specs.declared.plan.ItemKind.TheVariants as kind
use Rattle.uses_rows.proofs.slow.sum_below_five.Goals as goal

pub returns : goal.returns
returns c = record {
  groups = All-from_recursion (λ (column : ℕ). column < 3) (0 ∷ []) (lit< tt, tt);
  items = All-from_recursion (λ (item : Item). IsTrue (reads_column item.kind) → item.column < 3) (record { kind = kind.Sum; column = 2; places = 0 } ∷ []) (λ _. lit< tt, tt);
  filters = All-from_recursion (λ (filter : Filter). filter.column < 3) (record { column = 1; test = test.Number op.Less (pos 5); places = 0 } ∷ []) (lit< tt, tt);
}
