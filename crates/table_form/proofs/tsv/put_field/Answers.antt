use Rattle.std.proofs.Common.{◌∙◌, ◌++◌, List, ℕ, ap, sym}
use Rattle.table_form.specs.Tsv.{is_tsv_special, tsv_byte}
use Rattle.table_form.proofs.Bytes.{bytes-plain}
use Rattle.table_form.proofs.Plain.{tsv-plain}
use Rattle.table_form.proofs.tsv.put_field.Goals as goal

pub returns : goal.returns
returns c =
    c.in_ok-extend_from_slice.ensures.items ∙ ap (λ (t : List ℕ). c.args.out.now.items ++ t) (sym (bytes-plain tsv_byte is_tsv_special c.args.field.now tsv-plain (sym c.has_special.ensures ∙ c.if-has_special.false)))
