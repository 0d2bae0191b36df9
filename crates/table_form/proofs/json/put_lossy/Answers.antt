use Rattle.std.proofs.Common.{◌∙◌, ◌++◌, List, ℕ, ap}
use Rattle.std.specs.List.{flat_map}
use Rattle.table_form.specs.Json.{json_byte}
use Rattle.table_form.proofs.json.put_lossy.Goals as goal

pub returns : goal.returns
returns c =
    c.in_ok-put_bytes.ensures ∙ ap (λ (t : List ℕ). c.args.out.now.items ++ flat_map json_byte t) (c.as_bytes.ensures.value ∙ c.in_ok-text.ensures.lossy)
