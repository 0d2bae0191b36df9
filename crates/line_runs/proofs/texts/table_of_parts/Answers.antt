use Rattle.std.proofs.Common.{◌∙◌, ℕ, All, List, arith, subst, sym}
use Rattle.std.proofs.lemmas.Result.{IfOk-weaker}
use Rattle.row_lists.proofs.Parts.{part_below}
use Rattle.part_run.proofs.Grown.{parts_share}
use Rattle.line_runs.specs.Entries.{Entry}
use Rattle.line_runs.specs.Ranges.{AreRangeTexts, count_of}
use Rattle.line_runs.specs.Runs.{Rise}
use Rattle.line_runs.proofs.Answering.{all_rise, printable_part, texts_answer}
use Rattle.line_runs.proofs.texts.table_of_parts.Goals as goal

pub runs_of-requires-clause-printable : goal.runs_of-requires-clause-printable
runs_of-requires-clause-printable g c κs within = let rows = c.requires.rows in printable_part c.args.bound.now rows.0 rows.1 c.args.maps.items rows.2 rows.3

pub range_texts-requires-clause-columns : goal.range_texts-requires-clause-columns
range_texts-requires-clause-columns g c κs within = c.in_ok-ranges.ensures.columns ∙ c.group_count.ensures

pub range_texts-requires-clause-rise : goal.range_texts-requires-clause-rise
range_texts-requires-clause-rise g c κs within =
    subst (All (Rise c.in_ok-ranges.ranges.columns)) (sym c.deref-2.ensures.value)
    (subst (λ (n : ℕ). All (Rise n) c.in_ok-runs.runs.items) (sym (c.in_ok-ranges.ensures.columns ∙ c.group_count.ensures)) (all_rise c.args.bound.now c.args.maps.items c.in_ok-runs.runs.items c.in_ok-runs.ensures))

pub returns : goal.returns
returns g c =
    let plan = c.args.bound.now in
    let r = c.in_ok-ranges.ranges in
    let runs = c.in_ok-runs.runs.items in
    let are : AreRangeTexts r runs (count_of r) c.in_ok-texts.texts.items = subst (λ (rs : List (List Entry)). AreRangeTexts r rs (count_of r) c.in_ok-texts.texts.items) c.deref-2.ensures.value c.in_ok-texts.ensures in
    IfOk-weaker c.behind.result _ _ (λ pieces e header width rows bound few parted.
    texts_answer parts_share part_below c.args.plan.now.plan plan r c.args.maps.items runs c.in_ok-texts.texts.items c.in_ok-header.header pieces.items (λ none. omega (arith, none, c.requires.columns))
    (c.in_ok-ranges.ensures.columns ∙ c.group_count.ensures) c.in_ok-runs.ensures are c.in_ok-header.ensures e header width rows bound few parted) c.behind.ensures
