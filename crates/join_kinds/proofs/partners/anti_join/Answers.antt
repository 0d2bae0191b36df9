use Rattle.std.proofs.Common.{◌≡◌, ◌+◌, ◌∙◌, ℕ, length, not}
use Rattle.std.proofs.lemmas.Result.{IfOk-weaker}
use Rattle.row_blocks.specs.Blocks.{Table}
use Rattle.join_pairs.specs.Join.{pairs_of}
use Rattle.join_kinds.specs.Kinds.{anti_join_of, table_on}
use Rattle.join_kinds.specs.Partners.{anti_rows}
use Rattle.join_kinds.proofs.Tables.{kept_rows}
use Rattle.join_kinds.proofs.partners.anti_join.Goals as goal

pub returns-clause-tables : goal.returns-clause-tables
returns-clause-tables c =
    IfOk-weaker c.rows_with.result (λ v. v.items ≡ anti_rows c.args.side c.args.pairs.now c.args.rows)
    (λ v. (left right : Table) (lc rc : ℕ) → c.args.pairs.now ≡ pairs_of left right lc rc → c.args.rows + 1 ≡ length (table_on left right c.args.side) → v.items ≡ anti_join_of left right lc rc c.args.side)
    (λ v h left right lc rc e n. h ∙ kept_rows left right lc rc not c.args.side c.args.pairs.now c.args.rows e n) c.rows_with.ensures
