use Rattle.std.proofs.Common.{◌∙◌, arith, ap}
use Rattle.std.proofs.lemmas.Int.{ints, to_z-of_z}
use Rattle.std.specs.Fmt.{signed_decimal}
use Rattle.std.specs.Prelude.{decimal}
use Rattle.std.specs.Int.{w128}
use Rattle.par_model.proofs.Folds.{fits128}
use Rattle.gen_query.proofs.Summed.{line_put}
use Rattle.gen_query.proofs.summary.summary_of.Goals as goal

pub returns : goal.returns
returns c =
    let low = c.totals-rows.ensures.low in
    let high = c.totals-rows.ensures.high in
    let kept = to_z-of_z w128 c.totals-rows.result.1 (fits128 c.totals-rows.result.1 (omega (arith, ints, low)) (omega (arith, ints, high))) in
    line_put _ _ _ _ _ _ _ _ _ _ _ _ _ c.in_ok-text.ensures.items c.in_ok-extend_from_slice.ensures.items c.in_ok-extend_from_slice-2.ensures.items c.in_ok-extend_from_slice-3.ensures.items
    c.in_ok-extend_from_slice-4.ensures.items c.in_ok-extend_from_slice-5.ensures.items c.in_ok-extend_from_slice-6.ensures.items
    (c.as_bytes.ensures.value ∙ c.format.ensures.text ∙ ap decimal c.totals-rows.ensures.rows)
    (c.as_bytes-2.ensures.value ∙ c.format-2.ensures.text ∙ ap decimal c.len.ensures)
    (c.as_bytes-3.ensures.value ∙ c.format-3.ensures.text ∙ ap signed_decimal (kept ∙ c.totals-rows.ensures.sum))
