use Rattle.std.proofs.Common.{◌≡◌, ◌<◌, ◌∙◌, ℕ, List, length, get_or, ap, ap₂, subst, sym}
use Rattle.std.specs.Cmp.Lexicographic.{slice_cmp}
use Rattle.std.specs.Ordering.{is_ne, nat_cmp}
use Rattle.par_model.specs.Record.{field_of}
use Rattle.gather_merge.proofs.Compared.{by_column, next_column, told_apart}
use Rattle.gather_merge.proofs.comparing.compare_from.Goals as goal

pub returns-then-is_ne : goal.returns-then-is_ne
returns-then-is_ne c =
    let plan = c.args.plan.now in
    let records = c.args.rows.now in
    let i = c.loop-at.at in
    let same = c.group_columns-columns.ensures.columns in
    let Field : List (List ℕ) → List ℕ = λ row. field_of row (get_or c.group_columns-columns.result.now i 0) in
    let column_is : c.cmp-order.result ≡ by_column plan records c.args.a c.args.b (get_or plan.groups i 0) =
    c.cmp-order.ensures ∙ ap₂ (slice_cmp nat_cmp) (c.field_or_none.ensures ∙ ap Field c.find_row-left.ensures) (c.field_or_none-in-loop-at.ensures ∙ ap Field c.find_row-right.ensures)
    ∙ ap (λ (items : List ℕ). by_column plan records c.args.a c.args.b (get_or items i 0)) same in
    let here : i < length plan.groups = subst (λ (l : List ℕ). i < length l) same c.loop-at-test.true in
    column_is ∙ sym (told_apart plan records c.args.a c.args.b i here (ap is_ne (sym column_is) ∙ sym c.is_ne.ensures ∙ c.if-is_ne.true)) ∙ sym c.loop-at.invariant.so_far

pub loop-at-preserved : goal.loop-at-preserved
loop-at-preserved c =
    let plan = c.args.plan.now in
    let records = c.args.rows.now in
    let i = c.loop-at.at in
    let same = c.group_columns-columns.ensures.columns in
    let Field : List (List ℕ) → List ℕ = λ row. field_of row (get_or c.group_columns-columns.result.now i 0) in
    let column_is : c.cmp-order.result ≡ by_column plan records c.args.a c.args.b (get_or plan.groups i 0) =
    c.cmp-order.ensures ∙ ap₂ (slice_cmp nat_cmp) (c.field_or_none.ensures ∙ ap Field c.find_row-left.ensures) (c.field_or_none-in-loop-at.ensures ∙ ap Field c.find_row-right.ensures)
    ∙ ap (λ (items : List ℕ). by_column plan records c.args.a c.args.b (get_or items i 0)) same in
    let here : i < length plan.groups = subst (λ (l : List ℕ). i < length l) same c.loop-at-test.true in
    record { so_far = c.loop-at.invariant.so_far ∙ next_column plan records c.args.a c.args.b i here (ap is_ne (sym column_is) ∙ sym c.is_ne.ensures ∙ c.if-is_ne.false) }
