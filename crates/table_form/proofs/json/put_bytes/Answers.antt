use Rattle.std.proofs.Common.{◌∙◌, ◌++◌, List, ℕ, ap, sym}
use Rattle.table_form.specs.Json.{is_json_special, json_byte}
use Rattle.table_form.proofs.Bytes.{bytes-plain}
use Rattle.table_form.proofs.Plain.{json-plain}
use Rattle.table_form.proofs.json.put_bytes.Goals as goal

pub returns : goal.returns
returns c =
    c.in_ok-extend_from_slice.ensures.items ∙ ap (λ (t : List ℕ). c.args.out.now.items ++ t) (sym (bytes-plain json_byte is_json_special c.args.bytes.now json-plain (sym c.has_special.ensures ∙ c.if-has_special.false)))
