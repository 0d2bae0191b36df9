use Rattle.std.proofs.Common.{◌∙◌, ℤ, ap, of_z, to_z, w64}
use Rattle.gen_query.proofs.NumberRows.{value_kept}
use Rattle.gen_query.proofs.Steps.{row_put}
use Rattle.gen_query.proofs.generator.put_row.Goals as goal

pub returns : goal.returns
returns c =
    row_put _ _ _ _ _ _ _ _ c.args.x _ c.in_ok-extend_from_slice.ensures.items c.in_ok-extend_from_slice-2.ensures.items c.in_ok-extend_from_slice-3.ensures.items
    c.in_ok-extend_from_slice-4.ensures.items c.in_ok-extend_from_slice-5.ensures.items (c.as_bytes.ensures.value ∙ c.format.ensures.text) (c.as_bytes-2.ensures.value ∙ c.format-2.ensures.text) (ap (λ (z : ℤ). to_z w64 (of_z w64 z)) c.value_of.ensures ∙ value_kept c.args.x)
