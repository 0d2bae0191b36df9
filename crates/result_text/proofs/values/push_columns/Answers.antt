use Rattle.std.proofs.Common.{◌≡◌, ◌∙◌, ◌-◌, ◌+◌, ◌++◌, ◌∷◌, [], List, ℕ, ap, sym, append_assoc, append-nil}
use Rattle.csv.specs.Records.{fields_of}
use Rattle.result_text.specs.KeyColumns.{after_first_column, columns_in}
use Rattle.result_text.proofs.Columns.{columns_in-end, columns_in-more, columns_in-start}
use Rattle.result_text.proofs.values.push_columns.Goals as goal

pub loop-at-init : goal.loop-at-init
loop-at-init c = record {
  fields = ap (λ (cs : List (List ℕ)). fields_of c.args.row.now ++ cs) (columns_in-start c.args.columns c.args.key.now);
  whole = c.requires.whole;
}

pub loop-at-preserved : goal.loop-at-preserved
loop-at-preserved c =
    let at = c.loop-at._at in
    let rest = c.loop-at.rest.now in
    let column = c.split_column.result.0.now in
    let more = c.split_column.result.1.now in
    let left : columns_in (c.args.columns - at) rest ≡ column ∷ columns_in (c.args.columns - (at + 1)) more =
    columns_in-more c.args.columns at rest c.loop-at-test.true
    ∙ ap (λ (t : List ℕ). t ∷ columns_in (c.args.columns - (at + 1)) (after_first_column rest)) (sym c.split_column.ensures.first)
    ∙ ap (λ (t : List ℕ). column ∷ columns_in (c.args.columns - (at + 1)) t) (sym c.split_column.ensures.rest) in
    record {
      fields = rw (c.in_ok-push_field.ensures.fields, c.loop-at.invariant.whole) (append_assoc (fields_of c.loop-at.row) (column ∷ []) _ ∙ ap (λ (cs : List (List ℕ)). fields_of c.loop-at.row ++ cs) (sym left) ∙ c.loop-at.invariant.fields);
      whole = c.in_ok-push_field.ensures.partial;
    }

pub returns-clause-fields : goal.returns-clause-fields
returns-clause-fields c =
    sym (append-nil (fields_of c.loop-at.row))
    ∙ ap (λ (cs : List (List ℕ)). fields_of c.loop-at.row ++ cs) (sym (columns_in-end c.args.columns c.loop-at._at c.loop-at.rest.now c.loop-at-test.false))
    ∙ c.loop-at.invariant.fields
