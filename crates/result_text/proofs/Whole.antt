-- The text that is written is that of the groups' table.
use Rattle.std.proofs.Common.{◌≡◌, ◌≤◌, ◌++◌, ◌∷◌, ◌∙◌, [], ap, sym, All, ℕ, List, length, map}
use Rattle.std.specs.List.Sorted.{IsPermutation, IsSortedBy}
use Rattle.csv.specs.Writing.{default_writer, row_text}
use Rattle.par_model.specs.Named.{NamedPlan}
use Rattle.par_model.specs.Plan.{Plan}
use Rattle.par_model.specs.Table.{table_header, table_text}
use Rattle.partial_agg.specs.declared.groups.Group.{Group}
use Rattle.result_text.specs.GroupOrder.{group_of, is_before, line_of}
use Rattle.result_text.specs.Printable.{ArePrintable}
use Rattle.result_text.specs.Text.{IsTextOf, line_record, shown}
use Rattle.result_text.specs.declared.order.GroupRef.{GroupRef}
use Rattle.result_text.proofs.Sorting.{groups_table}
use Rattle.result_text.proofs.Tables.{table_text-cons}

-- the header is written first, and then the lines
pub written_text : (names : NamedPlan) (plan : Plan) (groups : List Group) (refs : List GroupRef) (none header all text : List ℕ)
    → ArePrintable plan groups → All (λ (group : Group). length group.key ≤ 248) groups → IsPermutation groups (map (group_of groups) refs) → IsSortedBy (is_before (length plan.groups)) refs
    → none ≡ [] → header ≡ none ++ row_text default_writer (table_header names) → all ≡ header ++ table_text (map (line_record plan) (shown plan (map (line_of (length plan.groups) groups) refs))) → text ≡ all
    → IsTextOf names plan groups text
written_text names plan groups refs none header all text printable short same sorted none_is header_is all_is text_is =
    let lines = map (line_record plan) (shown plan (map (line_of (length plan.groups) groups) refs)) in
    record {
      table = table_header names ∷ lines;
      each = groups_table names plan groups refs printable short same sorted;
      is = text_is ∙ all_is ∙ ap (λ (t : List ℕ). t ++ table_text lines) (header_is ∙ ap (λ (t : List ℕ). t ++ row_text default_writer (table_header names)) none_is) ∙ sym (table_text-cons (table_header names) lines);
    }
